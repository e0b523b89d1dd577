-- Laws of hexadecimal pairs: none, the first, and one more.
use Prim.Native.Nat.{ℕ, ◌+◌, ◌<◌}
use mathlib.Core.Path.{◌≡◌, refl}
use mathlib.Core.List.{List, [], ◌∷◌, ◌++◌}
use native.Mathlib.Omega.{arith}
use native.Mathlib.Numerals.{add-one}
use lib.ListN.{length, get_or, take}
use lib.Seq.{take-suc}
use Rattle.text.specs.Text.{space, hex_pair, further_pairs, hex_pairs}

pub hex_length : (b : ℕ) → length (hex_pair b) ≡ 2
unfolding hex_pair
hex_length b = refl

further_last : (b : ℕ) (s : List ℕ) → further_pairs (s ++ b ∷ []) ≡ further_pairs s ++ space ∷ hex_pair b
unfolding further_pairs hex_pair
further_last b [] = refl
further_last b (a ∷ s) = rw (further_last b s)

-- the pairs of no byte
pub pairs_none : (s : List ℕ) → length s ≡ 0 → hex_pairs s ≡ []
unfolding hex_pairs
pairs_none [] h = refl
pairs_none (a ∷ s) h = absurd (omega arith)

-- those of some: the first pair, and the further ones
pub pairs_some : (b : ℕ) (s : List ℕ) → hex_pairs (b ∷ s) ≡ hex_pair b ++ further_pairs s
unfolding hex_pairs
pairs_some b s = refl

-- of no further byte, and of one byte more
pub further_none : further_pairs [] ≡ []
unfolding further_pairs
further_none = refl

pub further_step : (s : List ℕ) (i : ℕ) → i < length s → further_pairs (take (i + 1) s) ≡ further_pairs (take i s) ++ space ∷ hex_pair (get_or s i 0)
further_step s i h = rw (add-one i, take-suc s i 0 h) (further_last (get_or s i 0) (take i s))
