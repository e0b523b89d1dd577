-- The lanes that are 0, found for all lanes at once: each lane is taken off its highest bit.
use Prim.Native.Nat.{ℕ, zero, suc, ◌*◌, ◌-◌, ◌/◌, ◌%◌, ◌^◌, ◌<◌, ◌≤◌}
use mathlib.Core.Path.{◌≡◌, refl, sym, ap, ◌∙◌}
use native.Mathlib.Omega.{arith}
use native.Mathlib.Nat.{add_comm, lt_of_le_of_lt}
use borrow.Author.Tests.{ne_eqb}
use lib.Bits.{bit_and, and_mask, and_le_r}
use lib.Dec.{eqb}
use Rattle.sheet.specs.Limits.{max_wires}
use Rattle.table.specs.Bits.{bit, sum, is_one}
use Rattle.table.proofs.Bits.{bit_div}
use Rattle.lanes.specs.Inner.Lanes.{lane_bits, half_lane, lanes_space, each_lane, lane_of, lanes_of, LanesBelow}
use Rattle.lanes.proofs.Lanes.{lane_bit, lane_lanes, lane_and, lanes_back, lanes_are}

-- the highest bit of each lane
abbrev pub highest : ℕ
highest = half_lane * each_lane

-- a number times one in each lane stands in every lane
pub each_times : (s : ℕ) → s * each_lane ≡ lanes_of (λ _. s)
unfolding lanes_of sum
each_times s = omega arith

pub each_lane_lem : (j : ℕ) → j < max_wires → lane_of each_lane j ≡ 1
unfolding lanes_of sum
each_lane_lem j l = lane_lanes (λ _. 1) (λ _ _. omega arith) j l

-- the highest bit is left where nothing is taken off it
highest_left : (a : ℕ) → a < half_lane → bit (half_lane - a) (lane_bits - 1) ≡ is_one (eqb a 0)
unfolding bit is_one
highest_left zero l = refl
highest_left (suc a) l = let e : is_one (eqb (suc a) 0) ≡ 0 = ap is_one (ne_eqb (suc a) 0 (λ d. absurd (omega arith))) in omega (arith, e)

-- the lowest bit of each lane of a number
lowest_bits : (y j : ℕ) → j < max_wires → lane_of (bit_and y each_lane) j ≡ bit y (lane_bits * j)
unfolding bit
lowest_bits y j l =
    let low : lane_of y j % 2 ≡ lane_of y j / 2 ^ 0 % 2 = omega arith in
    lane_and y each_lane j ∙ ap (bit_and (lane_of y j)) (each_lane_lem j l) ∙ and_mask (lane_of y j) 1 ∙ low ∙ lane_bit y j 0 (omega arith)
    ∙ ap (bit y) (omega arith)

module _ (x : ℕ) (lx : x < lanes_space) (half : LanesBelow half_lane x) where
  pub under_highest : x ≤ highest
  unfolding lanes_of sum
  under_highest =
      omega (arith, lanes_back x lx, half 0 (omega arith), half 1 (omega arith), half 2 (omega arith), half 3 (omega arith))

  -- no lane borrows
  taken_off : highest - x ≡ lanes_of (λ j. half_lane - lane_of x j)
  unfolding lanes_of sum
  taken_off =
      omega (arith, lanes_back x lx, half 0 (omega arith), half 1 (omega arith), half 2 (omega arith), half 3 (omega arith))

  left_lane : (j : ℕ) → j < max_wires → lane_of (highest - x) j ≡ half_lane - lane_of x j
  left_lane j l = ap (λ y. lane_of y j) taken_off ∙ lane_lanes (λ i. half_lane - lane_of x i) (λ i _. omega arith) j l

  empty_lane : (j : ℕ) → j < max_wires → lane_of (bit_and ((highest - x) / half_lane) each_lane) j ≡ is_one (eqb (lane_of x j) 0)
  empty_lane j l =
      lowest_bits ((highest - x) / half_lane) j l ∙ bit_div (highest - x) (lane_bits - 1) (lane_bits * j)
      ∙ ap (bit (highest - x)) (add_comm (lane_bits - 1) (lane_bits * j))
      ∙ sym (lane_bit (highest - x) j (lane_bits - 1) (omega arith))
      ∙ ap (λ y. bit y (lane_bits - 1)) (left_lane j l) ∙ highest_left (lane_of x j) (half j l)

  pub empty_lanes : bit_and ((highest - x) / half_lane) each_lane ≡ lanes_of (λ j. is_one (eqb (lane_of x j) 0))
  empty_lanes =
      lanes_are (bit_and ((highest - x) / half_lane) each_lane) (λ j. is_one (eqb (lane_of x j) 0))
      (lt_of_le_of_lt (and_le_r ((highest - x) / half_lane) each_lane) (omega arith)) empty_lane
