-- Numbers whose lanes are bits: there is one for each value of the wires, so what holds of all of them is tested by one computation.
use Prim.Native.Nat.{ℕ, ◌-◌, ◌/◌, ◌*◌, ◌<◌, ◌≤◌}
use mathlib.Core.Path.{◌≡◌, sym, subst}
use mathlib.Core.Logic.{⊎_elim}
use mathlib.Core.Bool.{Bool, ◌&&◌, ◌||◌}
use native.Mathlib.Omega.{arith}
use lib.Bits.{bit_and, and_le_r}
use lib.Count.{count_trailing_zeros}
use lib.Dec.{T, eqb, ltb, eqb→eq, ltb→lt}
use Rattle.base.specs.Lowest.{lowest}
use Rattle.base.proofs.Tests.{and_left, and_right, or_cases}
use Rattle.sheet.specs.Limits.{max_wires, max_values}
use Rattle.table.specs.Bits.{bit, sum, of_bits, all}
use Rattle.table.proofs.Bits.{bit_of_bits, of_bits_lt, all_at}
use Rattle.lanes.specs.Inner.Lanes.{lane_bits, lanes_space, lane_of, lanes_of, put_lane, first_wire, LanesBelow}
use Rattle.lanes.proofs.Lanes.{lanes_are}

-- a test of all numbers whose lanes are bits
pub all_values : (test : ℕ → Bool) → T (all max_values (λ v. test (lanes_of (bit v)))) → (x : ℕ) → x < lanes_space → LanesBelow 2 x → T (test x)
all_values test t x lx bits =
    let v = of_bits max_wires (lane_of x) in
    let e : x ≡ lanes_of (bit v) = lanes_are x (bit v) lx (λ j l. sym (bit_of_bits (lane_of x) max_wires bits j l)) in
    subst (λ y. T (test y)) (sym e) (all_at max_values (λ w. test (lanes_of (bit w))) t v (of_bits_lt (lane_of x) max_wires bits))

-- the lowest bit of a number that is not 0 stands in the lane of the first wire whose bit is 1
abbrev found : ℕ → Bool
found x = eqb (count_trailing_zeros (lane_bits * max_wires) x / lane_bits) (first_wire x) && ltb (first_wire x) max_wires

-- so the lane is 0 once that bit is taken out
abbrev emptied : ℕ → Bool
emptied x = eqb (bit_and x (x - 1)) (put_lane x (first_wire x) 0)

abbrev right : ℕ → Bool
right x = eqb x 0 || (found x && emptied x)

tested : T (all max_values (λ v. right (lanes_of (bit v))))
unfolding all lanes_of sum bit lane_of put_lane lowest count_trailing_zeros
tested = tt

module _ (x : ℕ) (lx : x < lanes_space) (bits : LanesBelow 2 x) (some : 0 < x) where
  both : T (found x && emptied x)
  both =
      ⊎_elim (λ t. absurd (omega (arith, eqb→eq x 0 t))) (λ t. t) (or_cases (eqb x 0) (found x && emptied x) (all_values right tested x lx bits))

  abbrev place : ℕ
  place = count_trailing_zeros (lane_bits * max_wires) x / lane_bits

  pub first_found : place ≡ first_wire x
  first_found = eqb→eq place (first_wire x) (and_left (eqb place (first_wire x)) (ltb (first_wire x) max_wires) (and_left (found x) (emptied x) both))

  pub first_lt : first_wire x < max_wires
  first_lt = ltb→lt (first_wire x) max_wires (and_right (eqb place (first_wire x)) (ltb (first_wire x) max_wires) (and_left (found x) (emptied x) both))

  pub first_emptied : bit_and x (x - 1) ≡ put_lane x (first_wire x) 0
  first_emptied = eqb→eq (bit_and x (x - 1)) (put_lane x (first_wire x) 0) (and_right (found x) (emptied x) both)

  -- and the number becomes less
  pub first_less : put_lane x (first_wire x) 0 < x
  first_less = let e : bit_and x (x - 1) ≤ x - 1 = and_le_r x (x - 1) in omega (arith, e, first_emptied)
