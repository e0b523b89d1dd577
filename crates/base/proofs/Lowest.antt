-- Laws of the lowest number that passes a test.
use Prim.Native.Nat.{ℕ, zero, suc, ◌<◌, ◌≤◌}
use mathlib.Core.Path.{◌≡◌, refl}
use mathlib.Core.Logic.{◌⊎◌, inl, inr, ⊎_elim}
use mathlib.Core.Bool.{Bool, true, false, cond, not}
use native.Mathlib.Omega.{arith}
use native.Mathlib.Nat.{not-suc-le-zero, le_antisymm}
use lib.Dec.{T, T_not, not_T, ltb, ltb→lt, nltb→le}
use Rattle.std.specs.Prelude.{None, Some}
use Rattle.base.specs.Lowest.{lowest}
use Rattle.base.specs.Inner.Lowest.{first_below}
use borrow.Author.Tests.{lt-ltb, le-ltb, ltb-true, ltb-false}
use Rattle.base.proofs.Tests.{decide, cond_has, below_suc}

pub lowest_le : (k : ℕ) (f : ℕ → Bool) → lowest k f ≤ k
unfolding lowest
lowest_le zero f = omega arith
lowest_le (suc k) f =
    cond_has (λ x. x ≤ suc k) (ltb (lowest k f) k) (λ t. let h = ltb→lt (lowest k f) k t in omega arith)
    (λ t. cond_has (λ x. x ≤ suc k) (f k) (λ u. omega arith) (λ u. omega arith))

pub lowest_is : (k : ℕ) (f : ℕ → Bool) → lowest k f < k → T (f (lowest k f))
unfolding lowest
lowest_is zero f h = absurd (not-suc-le-zero h)
lowest_is (suc k) f h =
    cond_has (λ x. x < suc k → T (f x)) (ltb (lowest k f) k)
    (λ t h. lowest_is k f (ltb→lt (lowest k f) k t))
    (λ t. cond_has (λ x. x < suc k → T (f x)) (f k) (λ u h. u) (λ u h. absurd (omega arith)))
    h

pub lowest_below : (k : ℕ) (f : ℕ → Bool) (i : ℕ) → i < k → T (f i) → lowest k f ≤ i
unfolding lowest
lowest_below zero f i h t = absurd (not-suc-le-zero h)
lowest_below (suc k) f i h t =
    ⊎_elim
    (λ (e : i ≡ k).
    cond_has (λ x. x ≤ i) (ltb (lowest k f) k) (λ l. omega (arith, ltb→lt (lowest k f) k l))
    (λ l. cond_has (λ x. x ≤ i) (f k) (λ u. omega arith) (λ u. absurd (T_not (f k) u (rw e at t)))))
    (λ (l : i < k).
    let z = lowest_below k f i l t in
    cond_has (λ x. x ≤ i) (ltb (lowest k f) k) (λ _. z) (λ b. absurd (omega (arith, nltb→le (lowest k f) k b))))
    (below_suc h)

pub lowest_or : (k : ℕ) (f : ℕ → Bool) → (lowest k f < k) ⊎ ((i : ℕ) → i < k → T (not (f i)))
lowest_or k f =
    ⊎_elim (λ y. inl (ltb→lt (lowest k f) k y))
    (λ z. inr (λ i l. not_T (f i) (λ t. omega (arith, lowest_below k f i l t, nltb→le (lowest k f) k z))))
    (decide (ltb (lowest k f) k))

-- a number that passes, with none below it that does, is the lowest
pub lowest_at : (k : ℕ) (f : ℕ → Bool) (i : ℕ) → i < k → T (f i) → ((j : ℕ) → j < i → T (not (f j))) → lowest k f ≡ i
lowest_at k f i l t h =
    let le = lowest_below k f i l t in
    ⊎_elim
    (λ (b : lowest k f < i). absurd (T_not (f (lowest k f)) (h (lowest k f) b) (lowest_is k f (omega arith))))
    (λ (b : i ≤ lowest k f). le_antisymm le b)
    (⊎_elim (λ y. inl (ltb→lt (lowest k f) i y)) (λ z. inr (nltb→le (lowest k f) i z)) (decide (ltb (lowest k f) i)))

-- where none passes
pub lowest_none : (k : ℕ) (f : ℕ → Bool) → ((j : ℕ) → j < k → T (not (f j))) → lowest k f ≡ k
lowest_none k f h =
    let le = lowest_le k f in
    ⊎_elim
    (λ (b : lowest k f < k). absurd (T_not (f (lowest k f)) (h (lowest k f) b) (lowest_is k f b)))
    (λ (b : k ≤ lowest k f). le_antisymm le b)
    (⊎_elim (λ y. inl (ltb→lt (lowest k f) k y)) (λ z. inr (nltb→le (lowest k f) k z)) (decide (ltb (lowest k f) k)))

-- two tests alike below k have the same lowest number
pub lowest_cong : (k : ℕ) (f g : ℕ → Bool) → ((i : ℕ) → i < k → f i ≡ g i) → lowest k f ≡ lowest k g
unfolding lowest
lowest_cong zero f g h = refl
lowest_cong (suc k) f g h = rw (lowest_cong k f g (λ i l. h i (omega arith)), h k (omega arith))

-- what a search for the first number gives
pub first_at : (k : ℕ) (f : ℕ → Bool) (i : ℕ) → i < k → T (f i) → ((j : ℕ) → j < i → T (not (f j))) → first_below k f ≡ Some i
first_at k f i l t h = rw (lowest_at k f i l t h, lt-ltb i k l)

pub first_none : (k : ℕ) (f : ℕ → Bool) → ((j : ℕ) → j < k → T (not (f j))) → first_below k f ≡ None
first_none k f h = rw (lowest_none k f h, le-ltb k k (omega arith))

-- and what it tells of the lowest
by_some : (x k r : ℕ) (b : Bool) → ltb x k ≡ b → cond b (Some x) None ≡ Some r → (x ≡ r) × (x < k)
by_some x k r true e s = (cc, ltb-true x k e)
by_some x k r false e s = absurd cc

pub some_lowest : (k : ℕ) (f : ℕ → Bool) (r : ℕ) → first_below k f ≡ Some r → (lowest k f ≡ r) × (lowest k f < k)
some_lowest k f r e = by_some (lowest k f) k r (ltb (lowest k f) k) refl e

by_no : (x k : ℕ) (b : Bool) → ltb x k ≡ b → cond b (Some x) None ≡ None → k ≤ x
by_no x k true e s = absurd cc
by_no x k false e s = ltb-false x k e

pub none_lowest : (k : ℕ) (f : ℕ → Bool) → first_below k f ≡ None → k ≤ lowest k f
none_lowest k f e = by_no (lowest k f) k (ltb (lowest k f) k) refl e
