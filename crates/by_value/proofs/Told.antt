-- What the words tell of a section: which of its patterns allow the value that tables drive there, and the lowest that does not.
use Prim.Native.Nat.{ℕ, zero, suc, ◌+◌, ◌*◌, ◌/◌, ◌%◌, ◌<◌, ◌≤◌}
use mathlib.Core.Path.{◌≡◌, refl, ap, ap₂, subst, ◌∙◌}
use mathlib.Core.Logic.{⊎_elim}
use mathlib.Core.Bool.{Bool, true, false, cond, not}
use mathlib.Core.List.{List, [], ◌∷◌}
use native.Mathlib.Omega.{arith}
use lib.Dec.{T, T_not, eqb, ltb, ltb→lt, nltb→le}
use lib.ListN.{get_or}
use borrow.Author.Tests.{lt-ltb, le-ltb}
use Rattle.std.specs.Prelude.{Some, None}
use Rattle.base.specs.Lowest.{lowest}
use Rattle.base.proofs.Tests.{decide, eq_test}
use Rattle.base.proofs.Lowest.{lowest_is, lowest_below, lowest_cong, some_lowest, none_lowest}
use Rattle.sheet.specs.Limits.{max_wires, max_patterns, max_values}
use Rattle.table.specs.Bits.{bit, is_one}
use Rattle.table.specs.Cells.{wires}
use Rattle.table.specs.Inner.Pairs.{narrow_patterns}
use Rattle.table.specs.Inner.Wide.{sections}
use Rattle.table.proofs.Bits.{bit_lt, bit_of_bits, of_bits_lt, ones_bit, tabulate_at}
use Rattle.table.proofs.BitColumns.{is_one_lt_two}
use Rattle.relation.specs.Source.{value}
use Rattle.relation.specs.Inner.Members.{member}
use Rattle.relation.specs.Inner.Side.{side_by_side, value_in}
use Rattle.relation.proofs.Side.{sections_value}
use Rattle.by_value.specs.Inner.ByValue.{word_values, word_width, section_words, value_word_place, value_word, SectionWords, allowed_at, allows_at, Allowing, every_value, filled, WordsBelow, first_refused}

value_lt : (tables p : ℕ) → value_in tables p < max_values
unfolding value_in
value_lt tables p = of_bits_lt (λ j. bit tables (narrow_patterns * j + p)) max_wires (λ j _. bit_lt tables (narrow_patterns * j + p))

-- a bit of a word, by its lane and its place there
word_bit : (sets : List ℕ) (q k i p : ℕ) → i < word_values → p < narrow_patterns
    → bit (value_word sets q k) (narrow_patterns * i + p) ≡ is_one (member (get_or sets (narrow_patterns * q + p) 0) (word_values * k + i))
unfolding value_word
word_bit sets q k i p li lp =
    let b = narrow_patterns * i + p in
    let low : b % narrow_patterns ≡ p = omega arith in
    let high : b / narrow_patterns ≡ i = omega arith in
    bit_of_bits (λ b. is_one (member (get_or sets (narrow_patterns * q + b % narrow_patterns) 0) (word_values * k + b / narrow_patterns))) word_width
    (λ b _. is_one_lt_two (member (get_or sets (narrow_patterns * q + b % narrow_patterns) 0) (word_values * k + b / narrow_patterns))) b (omega arith)
    ∙ ap₂ (λ x y. is_one (member (get_or sets (narrow_patterns * q + x) 0) (word_values * k + y))) low high

-- the answer is whether the value is in the pattern's set
module _ (sets : List ℕ) (q a b c d tables r : ℕ) (words : SectionWords sets q a b c d) (allowing : Allowing a b c d tables r) where
  among : (k : ℕ) → k < section_words → get_or (a ∷ b ∷ c ∷ d ∷ []) k 0 ≡ value_word sets q k
  among zero l = words.0
  among (suc zero) l = words.1
  among (suc (suc zero)) l = words.2
  among (suc (suc (suc zero))) l = words.3
  among (suc (suc (suc (suc k)))) l = absurd (omega arith)

  pub told : (p : ℕ) → p < narrow_patterns → bit r p ≡ is_one (member (get_or sets (narrow_patterns * q + p) 0) (value_in tables p))
  unfolding allowed_at
  told p l =
      let v = value_in tables p in
      let k = v / word_values in
      let i = v % word_values in
      let lv = value_lt tables p in
      let whole : word_values * k + i ≡ v = omega arith in
      allowing p l ∙ ap (λ w. bit w (narrow_patterns * i + p)) (among k (omega arith)) ∙ word_bit sets q k i p (omega arith) l
      ∙ ap (λ x. is_one (member (get_or sets (narrow_patterns * q + p) 0) x)) whole

  -- for tables side by side
  module _ (ts : List ℕ) (side : tables ≡ side_by_side ts q) where
    abbrev allows : ℕ → Bool
    allows p = allows_at sets ts (narrow_patterns * q + p)

    pub told_value : (p : ℕ) → p < narrow_patterns → bit r p ≡ is_one (allows_at sets ts (narrow_patterns * q + p))
    told_value p l =
        told p l ∙ ap (λ x. is_one (member (get_or sets (narrow_patterns * q + p) 0) x)) (ap (λ t. value_in t p) side ∙ sections_value ts q p l)

    none_test : (t : Bool) → eqb (is_one t) 0 ≡ not t
    unfolding is_one
    none_test true = refl
    none_test false = refl

    -- the lowest pattern that does not allow its value
    abbrev denied : ℕ
    denied = lowest narrow_patterns (λ p. not (allows p))

    -- so the first that is refused is that pattern
    refused_lowest : lowest narrow_patterns (λ p. eqb (bit r p) 0) ≡ denied
    refused_lowest =
        lowest_cong narrow_patterns (λ p. eqb (bit r p) 0) (λ p. not (allows p)) (λ p l. ap (λ x. eqb x 0) (told_value p l) ∙ none_test (allows p))

    below_denied : (p : ℕ) → p < narrow_patterns → p < denied → T (allows p)
    below_denied p l h = ⊎_elim (λ t. t) (λ t. absurd (omega (arith, lowest_below narrow_patterns (λ p. not (allows p)) p l t))) (decide (allows p))

    -- where none is refused all patterns allow theirs
    pub all_allow : first_refused r ≡ None → (p : ℕ) → p < narrow_patterns → T (allows_at sets ts (narrow_patterns * q + p))
    all_allow e p l = below_denied p l (omega (arith, refused_lowest, none_lowest narrow_patterns (λ p. eqb (bit r p) 0) e))

    -- where one is, the patterns below it allow theirs, and it does not allow its own
    module _ (i : ℕ) (e : first_refused r ≡ Some i) where
      at_denied : (denied ≡ i) × (denied < narrow_patterns)
      at_denied = let f = some_lowest narrow_patterns (λ p. eqb (bit r p) 0) i e in rw refused_lowest at f

      pub refused_lt : i < narrow_patterns
      refused_lt = omega (arith, at_denied)

      pub allowed_below : (p : ℕ) → p < i → T (allows_at sets ts (narrow_patterns * q + p))
      allowed_below p l = below_denied p (omega (arith, at_denied)) (omega (arith, at_denied))

      pub refused_is : T (not (allows_at sets ts (narrow_patterns * q + i)))
      refused_is = subst (λ p. T (not (allows p))) at_denied.0 (lowest_is narrow_patterns (λ p. not (allows p)) at_denied.1)

-- the words that are put together for the sections below a pattern serve as those of each of these sections
pub below_words : (seen : ℕ) (sets words : List ℕ) (q : ℕ) → WordsBelow seen sets words → narrow_patterns * q < seen
    → SectionWords sets q (get_or words (value_word_place q 0) 0) (get_or words (value_word_place q 1) 0) (get_or words (value_word_place q 2) 0) (get_or words (value_word_place q 3) 0)
below_words seen sets words q h l = (h.0 q 0 l (omega arith), h.0 q 1 l (omega arith), h.0 q 2 l (omega arith), h.0 q 3 l (omega arith))

-- the filled sets: those there are, and past them every value
module _ (count : ℕ) (sets : List ℕ) (p : ℕ) (lp : p < max_patterns) where
  pub filled_there : p < count → get_or (filled count sets) p 0 ≡ get_or sets p 0
  unfolding filled
  filled_there l =
      tabulate_at max_patterns (λ p. cond (ltb p count) (get_or sets p 0) every_value) p lp ∙ ap (λ t. cond t (get_or sets p 0) every_value) (lt-ltb p count l)

  pub filled_past : count ≤ p → get_or (filled count sets) p 0 ≡ every_value
  unfolding filled
  filled_past l =
      tabulate_at max_patterns (λ p. cond (ltb p count) (get_or sets p 0) every_value) p lp ∙ ap (λ t. cond t (get_or sets p 0) every_value) (le-ltb p count l)

  -- nothing is refused past them
  pub past_allows : count ≤ p → (v : ℕ) → v < max_values → T (member (get_or (filled count sets) p 0) v)
  unfolding member
  past_allows l v lv = eq_test (ap (λ w. bit w v) (filled_past l) ∙ ones_bit max_values v lv)

driven_lt : (ts : List ℕ) (p : ℕ) → value max_wires (wires ts) p < max_values
unfolding value
driven_lt ts p = of_bits_lt (λ j. bit (wires ts j) p) max_wires (λ j _. bit_lt (wires ts j) p)

-- so what is refused of filled sets is a pattern that there is
pub refused_there : (count : ℕ) (sets : List ℕ) (q a b c d tables r : ℕ) → SectionWords (filled count sets) q a b c d → Allowing a b c d tables r
    → (ts : List ℕ) → tables ≡ side_by_side ts q → q < sections → (i : ℕ) → first_refused r ≡ Some i → narrow_patterns * q + i < count
refused_there count sets q a b c d tables r words allowing ts side lq i e =
    let p = narrow_patterns * q + i in
    let h = refused_lt (filled count sets) q a b c d tables r words allowing ts side i e in
    let refused = refused_is (filled count sets) q a b c d tables r words allowing ts side i e in
    let v = value max_wires (wires ts) p in
    ⊎_elim (λ t. ltb→lt p count t)
    (λ t. absurd (T_not (member (get_or (filled count sets) p 0) v) refused (past_allows count sets p (omega arith) (nltb→le p count t) v (driven_lt ts p))))
    (decide (ltb p count))
