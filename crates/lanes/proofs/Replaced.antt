-- A lane replaced as the code does it: the old lane is kept by a mask and taken off, the new one is put there.
use Prim.Native.Nat.{ℕ, ◌+◌, ◌*◌, ◌-◌, ◌/◌, ◌%◌, ◌^◌, ◌<◌}
use mathlib.Core.Path.{◌≡◌, refl, sym, ap, ap₂, ◌∙◌}
use mathlib.Core.Bool.{cond}
use native.Mathlib.Omega.{arith}
use lib.Bits.{bit_and, and_high, and_le_l}
use lib.Dec.{eqb}
use lib.Pow.{high_ones, shl_exact}
use Rattle.base.proofs.Tests.{eqb_yes, eqb_not}
use Rattle.sheet.specs.Limits.{max_wires}
use Rattle.table.proofs.Bits.{sum_but_one}
use Rattle.lanes.specs.Inner.Lanes.{lane_bits, lane_space, lanes_space, lane_of, lanes_of, put_lane}
use Rattle.lanes.proofs.Lanes.{lanes_back, put_lane_lt}

-- so many bits of a number by a mask, from bit s on
pub mask_kept : (x width s : ℕ) → bit_and x ((2 ^ width - 1) * 2 ^ s) ≡ x / 2 ^ s % 2 ^ width * 2 ^ s
mask_kept x width s = ap (bit_and x) (sym (high_ones width s)) ∙ and_high x width s

module _ (x j y : ℕ) (lj : j < max_wires) (ly : y < lane_space) (lx : x < lanes_space) where
  -- where the lane begins
  abbrev at : ℕ
  at = lane_bits * j

  abbrev full : ℕ
  full = (lane_space - 1) * 2 ^ at % lanes_space

  taken : bit_and x full ≡ lane_of x j * 2 ^ at
  unfolding lane_of
  taken = ap (bit_and x) (shl_exact lane_bits at (lane_bits * max_wires) (omega arith) (omega arith)) ∙ mask_kept x lane_bits at

  placed : y * 2 ^ at % lanes_space ≡ y * 2 ^ at
  placed = shl_exact lane_bits at (lane_bits * max_wires) ly (omega arith)

  -- the two numbers differ in one lane only
  replaced : put_lane x j y + lane_of x j * 2 ^ at ≡ x + y * 2 ^ at
  unfolding put_lane lanes_of
  replaced =
      let f : ℕ → ℕ = λ i. cond (eqb i j) y (lane_of x i) * 2 ^ (lane_bits * i) in
      let g : ℕ → ℕ = λ i. lane_of x i * 2 ^ (lane_bits * i) in
      sum_but_one f g max_wires j lj (λ i ne. ap (λ z. z * 2 ^ (lane_bits * i)) (eqb_not i j y (lane_of x i) ne))
      ∙ ap₂ (λ z w. z + w * 2 ^ at) (lanes_back x lx) (eqb_yes j j y (lane_of x j) refl)

  pub lane_put : x - bit_and x full + y * 2 ^ at % lanes_space ≡ put_lane x j y
  lane_put = omega (arith, replaced, taken, placed, and_le_l x full)

  pub lane_fits : x - bit_and x full + y * 2 ^ at % lanes_space < lanes_space
  lane_fits = rw lane_put (put_lane_lt x j y ly)
