-- The two masks of each wire's projection as words: a pair of masks for each section of narrow_patterns patterns, one section after the other, and in each
-- section one wire after the other.
use Rattle.std.specs.Prelude.{ℕ, ◌+◌, ◌*◌, ◌/◌, ◌%◌, ◌^◌, ◌<◌, cond, List, eqb, get_or}
use Rattle.sheet.specs.Limits.{max_wires, max_patterns}
use Rattle.table.specs.Bits.{bit, tabulate, of_bits}
use Rattle.table.specs.Inner.Blocks.{Covered}
use Rattle.table.specs.Inner.Pairs.{narrow_patterns, zeros_in, ones_in, paired}
use Rattle.table.specs.Inner.Wide.{sections}
use Rattle.relation.specs.Inner.Side.{section}
use Rattle.relation.specs.Inner.Masks.{mask_of}

abbrev pub word_count : ℕ
word_count = sections * max_wires

-- where the word of section q and wire j stands
abbrev pub word_place : (q j : ℕ) → ℕ
word_place q j = q * max_wires + j

-- the two masks of wire j's projection on section q, and those of all wires on all sections
unfoldable pub word_of : List ℕ → (q j : ℕ) → ℕ
word_of sets q j = paired (section (mask_of sets j 0) q) (section (mask_of sets j 1) q)

unfoldable pub pairs_of : List ℕ → List ℕ
pairs_of sets = tabulate word_count (λ i. word_of sets (i / max_wires) (i % max_wires))

-- the words of one wire alone
unfoldable pub words_for : List ℕ → ℕ → List ℕ
words_for sets j = tabulate word_count (λ i. cond (eqb (i % max_wires) j) (word_of sets (i / max_wires) j) 0)

-- the word that speaks of pattern p
abbrev pub word_at : List ℕ → (p j : ℕ) → ℕ
word_at words p j = get_or words (word_place (p / narrow_patterns) j) 0

-- the two masks of wire j that words tell
unfoldable pub zeros_of : List ℕ → ℕ → ℕ
zeros_of words j = of_bits max_patterns (λ p. bit (zeros_in (word_at words p j)) (p % narrow_patterns))

unfoldable pub ones_of : List ℕ → ℕ → ℕ
ones_of words j = of_bits max_patterns (λ p. bit (ones_in (word_at words p j)) (p % narrow_patterns))

-- the words of all wires on section q, and the words with these replaced
unfoldable pub row_of : List ℕ → ℕ → List ℕ
row_of words q = tabulate max_wires (λ j. get_or words (word_place q j) 0)

unfoldable pub with_row : List ℕ → ℕ → List ℕ → List ℕ
with_row words q row = tabulate word_count (λ i. cond (eqb (i / max_wires) q) (get_or row (i % max_wires) 0) (get_or words i 0))

-- the masks of wire j are of n inputs and cover every pattern
pub record Covers (n : ℕ) (words : List ℕ) (j : ℕ) : Type 0 where
  pub zeros_fit : zeros_of words j < 2 ^ (2 ^ n)
  pub ones_fit : ones_of words j < 2 ^ (2 ^ n)
  pub covered : Covered n (zeros_of words j) (ones_of words j)
