-- The bits of four tables side by side on one pattern.
use Prim.Native.Nat.{ℕ, ◌+◌, ◌*◌, ◌/◌, ◌%◌, ◌^◌, ◌<◌}
use mathlib.Core.Path.{◌≡◌, sym, ap, ◌∙◌}
use native.Mathlib.Omega.{arith}
use lib.Bits.{bit_and, and_mask}
use Rattle.sheet.specs.Limits.{max_wires}
use Rattle.table.specs.Bits.{bit}
use Rattle.table.proofs.Bits.{bit_lt, bit_div}
use Rattle.lanes.specs.Inner.Lanes.{lane_bits, each_lane, lane_of, LanesBelow}
use Rattle.lanes.proofs.Lanes.{lane_bit, lane_and}
use Rattle.lanes.proofs.Empty.{each_lane_lem}

-- the lowest bits of the lanes, the number moved down by r
low_bit : (y : ℕ) → y % 2 ^ 1 ≡ bit y 0
unfolding bit
low_bit y = omega arith

pub driven_lane : (x r j : ℕ) → r < lane_bits → j < max_wires → lane_of (bit_and (x / 2 ^ r) each_lane) j ≡ bit (lane_of x j) r
driven_lane x r j lr lj =
    let y = lane_of (x / 2 ^ r) j in
    lane_and (x / 2 ^ r) each_lane j ∙ ap (bit_and y) (each_lane_lem j lj) ∙ and_mask y 1 ∙ low_bit y
    ∙ lane_bit (x / 2 ^ r) j 0 (omega arith) ∙ bit_div x r (lane_bits * j + 0) ∙ ap (bit x) (places j r) ∙ sym (lane_bit x j r lr)
  where
    places : (j r : ℕ) → r + (lane_bits * j + 0) ≡ lane_bits * j + r
    places j r = omega arith

pub driven_bits : (x r : ℕ) → r < lane_bits → LanesBelow 2 (bit_and (x / 2 ^ r) each_lane)
driven_bits x r lr j lj = rw (driven_lane x r j lr lj) (bit_lt (lane_of x j) r)
