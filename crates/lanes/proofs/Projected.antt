-- A set in all lanes, each kept to the values that have its wire at 0, or at 1.
use Prim.Native.Nat.{ℕ, ◌*◌, ◌/◌, ◌%◌, ◌<◌}
use mathlib.Core.Path.{◌≡◌, sym, ap, ap₂, ◌∙◌}
use mathlib.Core.Bool.{not, not-not}
use native.Mathlib.Omega.{arith}
use native.Mathlib.Nat.{lt_of_le_of_lt}
use lib.Bits.{bit_and, and_shr, and_zero_r, and_le_r}
use lib.Dec.{T, eqb, ltb, eqb→eq, ltb→lt}
use Rattle.base.proofs.Tests.{eq_test, test_ext}
use Rattle.sheet.specs.Limits.{max_wires, max_values}
use Rattle.table.specs.Bits.{bit, sum, is_one, all}
use Rattle.table.specs.Inner.Columns.{column_of}
use Rattle.table.proofs.Bits.{bit_and_lem, bit_of_bits, of_bits_lt, zero_bit, all_at}
use Rattle.table.proofs.BitColumns.{is_one_lt_two}
use Rattle.relation.specs.Tests.{occurs}
use Rattle.relation.specs.Inner.Members.{member, with_bit}
use Rattle.relation.proofs.Members.{occurs_with, with_le}
use Rattle.lanes.specs.Inner.Lanes.{lane_space, half_lane, lanes_space, each_lane, lane_of, lanes_of, LanesBelow}
use Rattle.lanes.proofs.Lanes.{lane_lanes, lane_and, lanes_lt, lanes_are, lanes_cong}
use Rattle.lanes.proofs.Empty.{each_times}

column_lt : (j b : ℕ) → column_of j b < lane_space
unfolding column_of
column_lt j b = of_bits_lt (λ v. is_one (eqb (bit v j) b)) max_values (λ v _. is_one_lt_two (eqb (bit v j) b))

-- what a mask keeps is low where its own lanes are
pub kept_low : (x y : ℕ) → T (all max_wires (λ j. ltb (lane_of y j) half_lane)) → LanesBelow half_lane (bit_and x y)
kept_low x y t j l =
    rw (lane_and x y j)
    (lt_of_le_of_lt (and_le_r (lane_of x j) (lane_of y j)) (ltb→lt (lane_of y j) half_lane (all_at max_wires (λ i. ltb (lane_of y i) half_lane) t j l)))

-- value 0 has no wire at 1
with_even : (s j : ℕ) → with_bit s j 1 % 2 ≡ 0
unfolding with_bit column_of bit is_one
with_even s j =
    let first : bit (column_of j 1) 0 ≡ 0 =
    bit_of_bits (λ v. is_one (eqb (bit v j) 1)) max_values (λ v _. is_one_lt_two (eqb (bit v j) 1)) 0 (omega arith)
    ∙ ap (λ y. is_one (eqb y 1)) (zero_bit j) in
    let none : bit (bit_and s (column_of j 1)) 0 ≡ 0 =
    bit_and_lem s (column_of j 1) 0 ∙ ap (bit_and (bit s 0)) first ∙ and_zero_r (bit s 0) in
    omega (arith, none)

-- numbers that are even lane by lane are halved lane by lane
halved : (f : ℕ → ℕ) → ((j : ℕ) → f j % 2 ≡ 0) → lanes_of f / 2 ≡ lanes_of (λ j. f j / 2)
unfolding lanes_of sum
halved f even = omega (arith, even 0, even 1, even 2, even 3)

half_none : (w : ℕ) → w % 2 ≡ 0 → eqb (w / 2) 0 ≡ eqb w 0
half_none w e =
    test_ext (eqb (w / 2) 0) (eqb w 0)
    (λ t. let z : w ≡ 0 = omega (arith, eqb→eq (w / 2) 0 t) in eq_test z)
    (λ t. let z : w / 2 ≡ 0 = omega (arith, eqb→eq w 0 t) in eq_test z)

module _ (s : ℕ) (ls : s < lane_space) where
  -- kept by a number whose lanes are columns
  kept : (y b : ℕ) → y ≡ lanes_of (λ j. column_of j b) → (j : ℕ) → j < max_wires → lane_of (bit_and (s * each_lane) y) j ≡ with_bit s j b
  unfolding with_bit
  kept y b e j l =
      lane_and (s * each_lane) y j
      ∙ ap₂ bit_and (ap (λ z. lane_of z j) (each_times s) ∙ lane_lanes (λ _. s) (λ _ _. ls) j l)
      (ap (λ z. lane_of z j) e ∙ lane_lanes (λ i. column_of i b) (λ i _. column_lt i b) j l)

  absent : (j b : ℕ) → eqb (with_bit s j b) 0 ≡ not (occurs max_wires (member s) j b)
  absent j b = sym (not-not (eqb (with_bit s j b) 0)) ∙ ap not (sym (occurs_with s j b ls))

  -- by a mask of the values that have each wire at 0
  pub zeros_absent : (y : ℕ) → T (eqb y (lanes_of (λ j. column_of j 0)))
      → lanes_of (λ j. is_one (eqb (lane_of (bit_and (s * each_lane) y) j) 0)) ≡ lanes_of (λ j. is_one (not (occurs max_wires (member s) j 0)))
  zeros_absent y t =
      let e = eqb→eq y (lanes_of (λ j. column_of j 0)) t in
      lanes_cong (λ j. is_one (eqb (lane_of (bit_and (s * each_lane) y) j) 0)) (λ j. is_one (not (occurs max_wires (member s) j 0)))
      (λ j l. ap (λ z. is_one (eqb z 0)) (kept y 0 e j l) ∙ ap is_one (absent j 0))

  -- by a mask of the values that have each wire at 1, set and values one bit lower
  module _ (y : ℕ) (t : T (eqb (2 * y) (lanes_of (λ j. column_of j 1)))) where
    lowered : bit_and (s * each_lane / 2) y ≡ lanes_of (λ j. with_bit s j 1 / 2)
    lowered =
        let e = eqb→eq (2 * y) (lanes_of (λ j. column_of j 1)) t in
        let half : y ≡ 2 * y / 2 = omega arith in
        let small : 2 * y < lanes_space = rw e (lanes_lt (λ j. column_of j 1) (λ j _. column_lt j 1)) in
        ap (bit_and (s * each_lane / 2)) half ∙ sym (and_shr (s * each_lane) (2 * y) 1)
        ∙ ap (λ z. z / 2)
        (lanes_are (bit_and (s * each_lane) (2 * y)) (λ j. with_bit s j 1) (lt_of_le_of_lt (and_le_r (s * each_lane) (2 * y)) small) (kept (2 * y) 1 e))
        ∙ halved (λ j. with_bit s j 1) (with_even s)

    lowered_lane : (j : ℕ) → j < max_wires → lane_of (bit_and (s * each_lane / 2) y) j ≡ with_bit s j 1 / 2
    lowered_lane j l =
        ap (λ z. lane_of z j) lowered
        ∙ lane_lanes (λ i. with_bit s i 1 / 2) (λ i _. omega (arith, lt_of_le_of_lt (with_le s i 1) ls)) j l

    pub ones_absent : lanes_of (λ j. is_one (eqb (lane_of (bit_and (s * each_lane / 2) y) j) 0)) ≡ lanes_of (λ j. is_one (not (occurs max_wires (member s) j 1)))
    ones_absent =
        lanes_cong (λ j. is_one (eqb (lane_of (bit_and (s * each_lane / 2) y) j) 0)) (λ j. is_one (not (occurs max_wires (member s) j 1)))
        (λ j l. ap (λ z. is_one (eqb z 0)) (lowered_lane j l) ∙ ap is_one (half_none (with_bit s j 1) (with_even s j) ∙ absent j 1))
