-- The constant 1 and the table that is its first input, over the width.
use Prim.Native.Nat.{ℕ, zero, suc, ◌*◌, ◌-◌, ◌^◌, ◌+◌, ◌/◌, ◌<◌, ◌≤◌}
use mathlib.Core.Path.{◌≡◌, refl, sym, ap, ap₂, ◌∙◌}
use mathlib.Core.Bool.{Bool, true, false, not}
use native.Mathlib.Omega.{arith}
use native.Mathlib.Nat.{two-pow-succ}
use lib.Arith.{digits_div}
use lib.Dec.{T, T_not, eqb, eqb→eq}
use lib.Pow.{pow_pos, pow-add, pow_mono}
use Rattle.base.proofs.Tests.{cond_has, and_intro, and_left, and_right, eq_test}
use Rattle.table.specs.Bits.{bit}
use Rattle.table.specs.Cells.{low, high, full, wired_table, selector_cells}
use Rattle.table.specs.Inner.Lines.{line}
use Rattle.table.proofs.Bits.{ones_bit}
use Rattle.table.proofs.Halves.{join, join_low, join_high, join_lt, join_halves}

-- Worked rows, computed from the meanings: the first of two inputs is soldered through, its inverse is not, nor is the table that is 1 on one pattern alone.
pub input_wired : wired_table 1 0xC ≡ true
unfolding wired_table full low high
input_wired = refl

pub inverse_not_wired : wired_table 1 0x3 ≡ false
unfolding wired_table full low high
inverse_not_wired = refl

pub product_not_wired : wired_table 1 0x8 ≡ false
unfolding wired_table full low high
product_not_wired = refl

-- the constant 1
pub full_lt : (r : ℕ) → full r < 2 ^ (2 ^ r)
unfolding full
full_lt r = let h = pow_pos (2 ^ r) in omega arith

pub full_some : (r : ℕ) → 1 ≤ full r
unfolding full
full_some r = let h = pow_mono {i = 1} {j = 2 ^ r} (pow_pos r) in omega arith

pub full_bit : (r p : ℕ) → p < 2 ^ r → bit (full r) p ≡ 1
unfolding full
full_bit r p l = ones_bit (2 ^ r) p l

-- all ones of k bits, with the bits below the upper j shifted out
pub ones_shifted : (k j : ℕ) → j ≤ k → (2 ^ k - 1) / 2 ^ (k - j) ≡ 2 ^ j - 1
ones_shifted k j h =
    let e : k ≡ k - j + j = omega arith in
    let w = 2 ^ (k - j) in
    let some = pow_pos (k - j) in
    let below : w - 1 < w = omega arith in
    ap (λ x. (2 ^ x - 1) / w) e ∙ ap (λ x. (x - 1) / w) (pow-add 2 (k - j) j) ∙ ap (λ x. x / w) (ones w (2 ^ j) some (pow_pos j)) ∙ digits_div (2 ^ j - 1) below
  where
    ones : (w x : ℕ) → 0 < w → 0 < x → w * x - 1 ≡ (x - 1) * w + (w - 1)
    ones w zero h l = absurd (omega arith)
    ones w (suc x) h l = let e : suc x - 1 ≡ x = omega arith in rw e (omega arith)

pub full_twice : (r : ℕ) → full (suc r) ≡ join r (full r) (full r)
unfolding full join
full_twice r =
    ap (λ x. x - 1) (ap (λ k. 2 ^ k) (two-pow-succ r) ∙ pow-add 2 (2 ^ r) (2 ^ r)) ∙ square (2 ^ (2 ^ r)) (pow_pos (2 ^ r))
  where
    square : (w : ℕ) → 0 < w → w * w - 1 ≡ (w - 1) * w + (w - 1)
    square zero h = absurd (omega arith)
    square (suc w) h = let e : suc w - 1 ≡ w = omega arith in rw e (omega arith)

-- the table of r + 1 inputs that is the first of them, by its halves
pub line_join : (r : ℕ) → line r ≡ join r (full r) 0
unfolding line join
line_join r = omega arith

pub line_low : (r : ℕ) → low r (line r) ≡ 0
line_low r = ap (low r) (line_join r) ∙ join_low r (full r) 0 (full_lt r) (pow_pos (2 ^ r))

pub line_high : (r : ℕ) → high r (line r) ≡ full r
line_high r = ap (high r) (line_join r) ∙ join_high r (full r) 0 (full_lt r) (pow_pos (2 ^ r))

pub line_lt : (r : ℕ) → line r < 2 ^ (2 ^ suc r)
line_lt r = rw (line_join r) (join_lt r (full r) 0 (full_lt r) (pow_pos (2 ^ r)))

-- it is the one table that is soldered through
pub wired_halves : (r t : ℕ) → T (wired_table r t) → (low r t ≡ 0) × (high r t ≡ full r)
unfolding wired_table
wired_halves r t w = (
  eqb→eq (low r t) 0 (and_left (eqb (low r t) 0) (eqb (high r t) (full r)) w),
  eqb→eq (high r t) (full r) (and_right (eqb (low r t) 0) (eqb (high r t) (full r)) w),
)

pub halves_wired : (r t : ℕ) → low r t ≡ 0 → high r t ≡ full r → T (wired_table r t)
unfolding wired_table
halves_wired r t l h = and_intro (eqb (low r t) 0) (eqb (high r t) (full r)) (eq_test l) (eq_test h)

pub wired_line : (r t : ℕ) → T (wired_table r t) → t ≡ line r
wired_line r t w = let h = wired_halves r t w in join_halves r t ∙ ap₂ (join r) h.1 h.0 ∙ sym (line_join r)

pub line_wired : (r : ℕ) → T (wired_table r (line r))
line_wired r = halves_wired r (line r) (line_low r) (line_high r)

-- its selector counts for none, and every other for one
pub wired_none : (b : Bool) → T b → selector_cells b ≡ 0
unfolding selector_cells
wired_none b w = cond_has (λ x. x ≡ 0) b (λ _. refl) (λ n. absurd (T_not b n w))

pub not_wired_one : (b : Bool) → T (not b) → selector_cells b ≡ 1
unfolding selector_cells
not_wired_one b n = cond_has (λ x. x ≡ 1) b (λ w. absurd (T_not b n w)) (λ _. refl)

pub selector_most : (b : Bool) → selector_cells b ≤ 1
unfolding selector_cells
selector_most b = cond_has (λ x. x ≤ 1) b (λ _. omega arith) (λ _. omega arith)

-- what is soldered through there is so here: no more is counted here
pub wired_le : (a b : Bool) → (T b → T a) → selector_cells a ≤ selector_cells b
unfolding selector_cells
wired_le a b h = cond_has (λ x. selector_cells a ≤ x) b (λ w. omega (arith, wired_none a (h w))) (λ _. selector_most a)
