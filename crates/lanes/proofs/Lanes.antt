-- Laws of lanes: what a lane is, numbers made of lanes, and one step made for all lanes.
use Prim.Native.Nat.{ℕ, zero, suc, ◌+◌, ◌*◌, ◌^◌, ◌/◌, ◌%◌, ◌<◌}
use mathlib.Core.Path.{◌≡◌, sym, ap, ◌∙◌}
use mathlib.Core.Bool.{cond}
use mathlib.Core.List.{List}
use native.Mathlib.Omega.{arith}
use native.Mathlib.Nat.{mod-lt, mod-eq_of_lt}
use lib.Bits.{bit_and, bit_xor, and_shr, and_mod, xor_shr, xor_mod}
use lib.Dec.{eqb}
use lib.ListN.{get_or}
use lib.Pow.{pow_pos}
use Rattle.base.proofs.Tests.{cond_has}
use Rattle.sheet.specs.Limits.{max_wires}
use Rattle.table.specs.Bits.{bit, sum}
use Rattle.table.proofs.Bits.{sum_cong, bit_mod, bit_div}
use Rattle.relation.specs.Inner.Side.{section, side_by_side}
use Rattle.lanes.specs.Inner.Lanes.{lane_bits, lane_space, lanes_space, lane_of, lanes_of, put_lane, LanesBelow}

-- a lane has its own bits
pub lane_lt : (x j : ℕ) → lane_of x j < lane_space
unfolding lane_of
lane_lt x j = mod-lt (x / 2 ^ (lane_bits * j)) (pow_pos lane_bits)

pub lane_bit : (x j p : ℕ) → p < lane_bits → bit (lane_of x j) p ≡ bit x (lane_bits * j + p)
unfolding lane_of
lane_bit x j p h = bit_mod (x / 2 ^ (lane_bits * j)) {j = p} {k = lane_bits} h ∙ bit_div x (lane_bits * j) p

-- numbers made of lanes
pub lanes_cong : (f g : ℕ → ℕ) → ((j : ℕ) → j < max_wires → f j ≡ g j) → lanes_of f ≡ lanes_of g
unfolding lanes_of
lanes_cong f g h =
    sum_cong max_wires (λ j. f j * 2 ^ (lane_bits * j)) (λ j. g j * 2 ^ (lane_bits * j)) (λ j l. ap (λ y. y * 2 ^ (lane_bits * j)) (h j l))

module _ (f : ℕ → ℕ) (small : (j : ℕ) → j < max_wires → f j < lane_space) where
  pub lanes_lt : lanes_of f < lanes_space
  unfolding lanes_of sum
  lanes_lt = omega (arith, small 0 (omega arith), small 1 (omega arith), small 2 (omega arith), small 3 (omega arith))

  pub lane_lanes : (j : ℕ) → j < max_wires → lane_of (lanes_of f) j ≡ f j
  unfolding lane_of lanes_of sum
  lane_lanes zero l = omega (arith, small 0 l)
  lane_lanes (suc zero) l = omega (arith, small 0 (omega arith), small 1 l)
  lane_lanes (suc (suc zero)) l = omega (arith, small 0 (omega arith), small 1 (omega arith), small 2 l)
  lane_lanes (suc (suc (suc zero))) l = omega (arith, small 0 (omega arith), small 1 (omega arith), small 2 (omega arith), small 3 l)
  lane_lanes (suc (suc (suc (suc j)))) l = absurd (omega arith)

-- a number is made of its lanes
pub lanes_back : (x : ℕ) → x < lanes_space → lanes_of (lane_of x) ≡ x
unfolding lane_of lanes_of sum
lanes_back x h =
    let a = x / lane_space in
    let b = a / lane_space in
    let c = b / lane_space in
    let e0 : x / 1 ≡ x = omega arith in
    let e2 : x / lane_space ^ 2 ≡ b = omega arith in
    let e3 : x / lane_space ^ 3 ≡ c = omega arith in
    let l : c < lane_space = omega (arith, h) in
    omega (arith, ap (λ y. y % lane_space) e0, ap (λ y. y % lane_space) e2, ap (λ y. y % lane_space) e3, mod-eq_of_lt l)

pub lanes_are : (x : ℕ) (f : ℕ → ℕ) → x < lanes_space → ((j : ℕ) → j < max_wires → lane_of x j ≡ f j) → x ≡ lanes_of f
lanes_are x f h e = sym (lanes_back x h) ∙ lanes_cong (lane_of x) f e

-- a lane replaced
pub put_lane_at : (x j y i : ℕ) → y < lane_space → i < max_wires → lane_of (put_lane x j y) i ≡ cond (eqb i j) y (lane_of x i)
unfolding put_lane
put_lane_at x j y i h l =
    lane_lanes (λ k. cond (eqb k j) y (lane_of x k)) (λ k _. cond_has (λ z. z < lane_space) (eqb k j) (λ _. h) (λ _. lane_lt x k)) i l

pub put_lane_lt : (x j y : ℕ) → y < lane_space → put_lane x j y < lanes_space
unfolding put_lane
put_lane_lt x j y h =
    lanes_lt (λ k. cond (eqb k j) y (lane_of x k)) (λ k _. cond_has (λ z. z < lane_space) (eqb k j) (λ _. h) (λ _. lane_lt x k))

pub put_lane_below : (k x j y : ℕ) → y < lane_space → y < k → LanesBelow k x → LanesBelow k (put_lane x j y)
put_lane_below k x j y h ly lx i l = rw (put_lane_at x j y i h l) (cond_has (λ z. z < k) (eqb i j) (λ _. ly) (λ _. lx i l))

-- one step on the numbers is the step on each lane
pub lane_and : (x y j : ℕ) → lane_of (bit_and x y) j ≡ bit_and (lane_of x j) (lane_of y j)
unfolding lane_of
lane_and x y j =
    let k = lane_bits * j in
    ap (λ z. z % lane_space) (and_shr x y k) ∙ and_mod (x / 2 ^ k) (y / 2 ^ k) lane_bits

pub lane_xor : (x y j : ℕ) → lane_of (bit_xor x y) j ≡ bit_xor (lane_of x j) (lane_of y j)
unfolding lane_of
lane_xor x y j =
    let k = lane_bits * j in
    ap (λ z. z % lane_space) (xor_shr x y k) ∙ xor_mod (x / 2 ^ k) (y / 2 ^ k) lane_bits

-- sections of tables side by side are lanes
pub side_lanes : (tables : List ℕ) (q : ℕ) → side_by_side tables q ≡ lanes_of (λ j. section (get_or tables j 0) q)
unfolding side_by_side lanes_of sum
side_lanes tables q = omega arith
