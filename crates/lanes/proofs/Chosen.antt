-- Of two bits the one that a third bit chooses, for all lanes at once.
use Prim.Native.Nat.{ℕ, zero, suc, ◌*◌, ◌<◌}
use mathlib.Core.Path.{◌≡◌, refl, sym, ap, ◌∙◌}
use mathlib.Core.Bool.{cond}
use native.Mathlib.Omega.{arith}
use lib.Bits.{bit_and, bit_xor, and_zero_r, xor_zero_r, xor_lt, and_lt}
use lib.Dec.{eqb}
use Rattle.base.proofs.Tests.{cond_has}
use Rattle.sheet.specs.Limits.{max_wires}
use Rattle.table.specs.Bits.{bit}
use Rattle.table.proofs.Bits.{bit_lt, bit_ext, bit_and_lem, bit_xor_lem}
use Rattle.lanes.specs.Inner.Lanes.{lane_bits, lanes_space, lane_of, LanesBelow, Chosen}
use Rattle.lanes.proofs.Lanes.{lane_and, lane_xor}

pub bit_chosen : (d z o : ℕ) → d < 2 → z < 2 → o < 2 → bit_xor z (bit_and (bit_xor z o) d) ≡ cond (eqb d 1) o z
bit_chosen zero z o ld lz lo = ap (bit_xor z) (and_zero_r (bit_xor z o)) ∙ xor_zero_r z
bit_chosen (suc zero) zero zero ld lz lo = refl
bit_chosen (suc zero) zero (suc zero) ld lz lo = refl
bit_chosen (suc zero) zero (suc (suc o)) ld lz lo = absurd (omega arith)
bit_chosen (suc zero) (suc zero) zero ld lz lo = refl
bit_chosen (suc zero) (suc zero) (suc zero) ld lz lo = refl
bit_chosen (suc zero) (suc zero) (suc (suc o)) ld lz lo = absurd (omega arith)
bit_chosen (suc zero) (suc (suc z)) o ld lz lo = absurd (omega arith)
bit_chosen (suc (suc d)) z o ld lz lo = absurd (omega arith)

-- the step on two numbers has the bits of one of them, by the third, and any number that has them is the step
pub choose_bit : (t z o : ℕ) → Chosen t z o (bit_xor z (bit_and (bit_xor z o) t))
choose_bit t z o i =
    bit_xor_lem z (bit_and (bit_xor z o) t) i ∙ ap (bit_xor (bit z i)) (bit_and_lem (bit_xor z o) t i ∙ ap (λ x. bit_and x (bit t i)) (bit_xor_lem z o i))
    ∙ bit_chosen (bit t i) (bit z i) (bit o i) (bit_lt t i) (bit_lt z i) (bit_lt o i)

pub chosen_is : (t z o r : ℕ) → t < lanes_space → z < lanes_space → o < lanes_space → r < lanes_space → Chosen t z o r → r ≡ bit_xor z (bit_and (bit_xor z o) t)
chosen_is t z o r lt lz lo lr h =
    let k = lane_bits * max_wires in
    bit_ext k r (bit_xor z (bit_and (bit_xor z o) t)) lr (xor_lt k z (bit_and (bit_xor z o) t) lz (and_lt k (bit_xor z o) t (xor_lt k z o lz lo) lt))
    (λ i _. h i ∙ sym (choose_bit t z o i))

module _ (d z o : ℕ) (bd : LanesBelow 2 d) (bz : LanesBelow 2 z) (bo : LanesBelow 2 o) where
  abbrev chosen : ℕ
  chosen = bit_xor z (bit_and (bit_xor z o) d)

  pub lane_chosen : (j : ℕ) → j < max_wires → lane_of chosen j ≡ cond (eqb (lane_of d j) 1) (lane_of o j) (lane_of z j)
  lane_chosen j l =
      lane_xor z (bit_and (bit_xor z o) d) j
      ∙ ap (bit_xor (lane_of z j)) (lane_and (bit_xor z o) d j ∙ ap (λ y. bit_and y (lane_of d j)) (lane_xor z o j))
      ∙ bit_chosen (lane_of d j) (lane_of z j) (lane_of o j) (bd j l) (bz j l) (bo j l)

  pub chosen_bits : LanesBelow 2 chosen
  chosen_bits j l = rw (lane_chosen j l) (cond_has (λ y. y < 2) (eqb (lane_of d j) 1) (λ _. bo j l) (λ _. bz j l))

  pub chosen_lt : d < lanes_space → z < lanes_space → o < lanes_space → chosen < lanes_space
  chosen_lt ld lz lo =
      let k = lane_bits * max_wires in
      xor_lt k z (bit_and (bit_xor z o) d) lz (and_lt k (bit_xor z o) d (xor_lt k z o lz lo) ld)
