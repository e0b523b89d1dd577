-- Sets the other way round: for each value the patterns where it can stand, so that the values which tables drive are looked up for a whole section of
-- patterns at once. A value has a lane of a word, one bit for each pattern of the section.
use Rattle.std.specs.Prelude.{ℕ, ◌+◌, ◌*◌, ◌-◌, ◌/◌, ◌%◌, ◌^◌, ◌<◌, ◌≤◌, ◌≡◌, Bool, cond, Option, List, [], ◌∷◌, ltb, eqb, get_or, set}
use Rattle.base.specs.Inner.Lowest.{first_below}
use Rattle.sheet.specs.Limits.{max_wires, max_patterns, max_values}
use Rattle.table.specs.Bits.{bit, tabulate, of_bits, is_one}
use Rattle.table.specs.Cells.{wires}
use Rattle.table.specs.Inner.Pairs.{narrow_patterns}
use Rattle.table.specs.Inner.Wide.{sections}
use Rattle.relation.specs.Source.{value}
use Rattle.relation.specs.Inner.Members.{member}
use Rattle.relation.specs.Inner.Side.{value_in}
use Rattle.lanes.specs.Inner.Lanes.{each_lane, lanes_of}

-- the values of a word, and its bits: as many for each value as a section has patterns
abbrev pub word_values : ℕ
word_values = 4

abbrev pub word_width : ℕ
word_width = word_values * narrow_patterns

-- so many words have all values of a section, and so many all values of all sections
abbrev pub section_words : ℕ
section_words = max_values / word_values

abbrev pub all_words : ℕ
all_words = section_words * sections

-- where word k of section q stands
abbrev pub value_word_place : (q k : ℕ) → ℕ
value_word_place q k = section_words * q + k

-- word k of section q: bit b says whether the value of b's lane can stand on the pattern of b's place in the lane
unfoldable pub value_word : List ℕ → (q k : ℕ) → ℕ
value_word sets q k =
    of_bits word_width (λ b. is_one (member (get_or sets (narrow_patterns * q + b % narrow_patterns) 0) (word_values * k + b / narrow_patterns)))

-- what the four words of a section say of its p-th pattern, for the value that tables side by side drive there
unfoldable pub allowed_at : (a b c d tables p : ℕ) → ℕ
allowed_at a b c d tables p =
    bit (get_or (a ∷ b ∷ c ∷ d ∷ []) (value_in tables p / word_values) 0) (narrow_patterns * (value_in tables p % word_values) + p)

-- numbers that are the four words of section q
abbrev pub SectionWords : List ℕ → (q a b c d : ℕ) → Type 0
SectionWords sets q a b c d = (a ≡ value_word sets q 0) × (b ≡ value_word sets q 1) × (c ≡ value_word sets q 2) × (d ≡ value_word sets q 3)

-- a number that says of each pattern what the words say
abbrev pub Allowing : (a b c d tables r : ℕ) → Type 0
Allowing a b c d tables r = (p : ℕ) → p < narrow_patterns → bit r p ≡ allowed_at a b c d tables p

-- pattern p allows the value that the tables drive on it
abbrev pub allows_at : (sets tables : List ℕ) → ℕ → Bool
allows_at sets tables p = member (get_or sets p 0) (value max_wires (wires tables) p)

-- the values of word k that are in a set
abbrev pub values_in : (w k : ℕ) → ℕ
values_in w k = w / 2 ^ (word_values * k) % 2 ^ word_values

-- what a set adds to word k at place p of the lanes: each value has a lane
unfoldable pub added : (w k p : ℕ) → ℕ
added w k p = lanes_of (bit (values_in w k)) * 2 ^ p

-- word k of the section of pattern p
abbrev pub value_word_at : List ℕ → (p k : ℕ) → ℕ
value_word_at words p k = get_or words (value_word_place (p / narrow_patterns) k) 0

-- a word has room for pattern p
abbrev pub HasRoom : (word p : ℕ) → Type 0
HasRoom word p = word + each_lane * 2 ^ (p % narrow_patterns) < 2 ^ word_width

-- the words with the set of pattern p put into word k, and into all words of its section
abbrev pub with_word : List ℕ → (p w k : ℕ) → List ℕ
with_word words p w k = set words (value_word_place (p / narrow_patterns) k) (value_word_at words p k + added w k (p % narrow_patterns))

unfoldable pub with_set : List ℕ → (p w : ℕ) → List ℕ
with_set words p w =
    tabulate all_words
    (λ i. cond (eqb (i / section_words) (p / narrow_patterns)) (get_or words i 0 + added w (i % section_words) (p % narrow_patterns)) (get_or words i 0))

-- every value is in this set
abbrev pub every_value : ℕ
every_value = 2 ^ max_values - 1

-- the sets of the first patterns, with every value on those from count on
unfoldable pub filled : (count : ℕ) → List ℕ → List ℕ
filled count sets = tabulate max_patterns (λ p. cond (ltb p count) (get_or sets p 0) every_value)

-- the words of the sections below a pattern are those of the sets, the later ones are 0
abbrev pub WordsBelow : (seen : ℕ) → (sets words : List ℕ) → Type 0
WordsBelow seen sets words =
    ((q k : ℕ) → narrow_patterns * q < seen → k < section_words → get_or words (value_word_place q k) 0 ≡ value_word sets q k)
    × ((q k : ℕ) → seen ≤ narrow_patterns * q → q < sections → k < section_words → get_or words (value_word_place q k) 0 ≡ 0)

-- the lowest pattern of a section that is not allowed, by the bits that say which are
abbrev pub first_refused : ℕ → Option ℕ
first_refused fine = first_below narrow_patterns (λ p. eqb (bit fine p) 0)
