-- Tables and their halves, over the width: a table of n + 1 inputs is two tables of n inputs, side by side.
use Prim.Native.Nat.{ℕ, suc, ◌+◌, ◌*◌, ◌^◌, ◌/◌, ◌%◌, ◌<◌, ◌≤◌}
use mathlib.Core.Path.{◌≡◌, sym, ap, ◌∙◌}
use mathlib.Core.Logic.{◌⊎◌, inl, inr, ⊎_elim}
use native.Mathlib.Omega.{arith}
use native.Mathlib.Nat.{mod-lt, two-pow-succ, mul-le-mul_right, mod-add-div', add_comm}
use lib.Arith.{digits_lt, digits_div, digits_mod}
use lib.Dec.{T_not, eqb, eqb→eq}
use lib.Pow.{pow_pos, pow-add, shr_lt}
use Rattle.base.proofs.Tests.{decide, eq_test}
use Rattle.table.specs.Bits.{bit}
use Rattle.table.specs.Cells.{low, high}
use Rattle.table.proofs.Bits.{bit_mod, bit_div}

pub low_lt : (r t : ℕ) → low r t < 2 ^ (2 ^ r)
unfolding low
low_lt r t = mod-lt t (pow_pos (2 ^ r))

pub high_lt : (r t : ℕ) → t < 2 ^ (2 ^ suc r) → high r t < 2 ^ (2 ^ r)
unfolding high
high_lt r t h = shr_lt (2 ^ r) (2 ^ r) (rw two-pow-succ at h)

pub low_bit : (r t p : ℕ) → p < 2 ^ r → bit (low r t) p ≡ bit t p
unfolding low
low_bit r t p h = bit_mod t h

pub high_bit : (r t p : ℕ) → bit (high r t) p ≡ bit t (p + 1 * 2 ^ r)
unfolding high
high_bit r t p = bit_div t (2 ^ r) p ∙ ap (bit t) (omega arith)

-- the halves of a table are the same, or they are not
pub same_halves : (r x : ℕ) → (low r x ≡ high r x) ⊎ (low r x ≡ high r x → ⊥)
same_halves r x =
    ⊎_elim (λ y. inl (eqb→eq (low r x) (high r x) y)) (λ n. inr (λ e. T_not (eqb (low r x) (high r x)) n (eq_test e))) (decide (eqb (low r x) (high r x)))

-- a table of two halves
unfoldable pub join : ℕ → ℕ → ℕ → ℕ
join r h l = h * 2 ^ (2 ^ r) + l

module _ (r h l : ℕ) (lh : h < 2 ^ (2 ^ r)) (ll : l < 2 ^ (2 ^ r)) where
  pub join_low : low r (join r h l) ≡ l
  unfolding low join
  join_low = digits_mod h ll

  pub join_high : high r (join r h l) ≡ h
  unfolding high join
  join_high = digits_div h ll

  pub join_lt : join r h l < 2 ^ (2 ^ suc r)
  unfolding join
  join_lt = rw (two-pow-succ r, pow-add) (digits_lt lh ll)

pub join_halves : (r t : ℕ) → t ≡ join r (high r t) (low r t)
unfolding join high low
join_halves r t = sym (mod-add-div' t (2 ^ (2 ^ r))) ∙ add_comm (t % 2 ^ (2 ^ r)) (t / 2 ^ (2 ^ r) * 2 ^ (2 ^ r))

pub join_le : (r h l h' l' : ℕ) → h ≤ h' → l ≤ l' → join r h l ≤ join r h' l'
unfolding join
join_le r h l h' l' a b = omega (arith, mul-le-mul_right (2 ^ (2 ^ r)) a)
