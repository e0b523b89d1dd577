-- Laws of sums over the numbers below a bound.
use Prim.Native.Nat.{ℕ, zero, suc, ◌+◌, ◌*◌, ◌<◌, ◌≤◌}
use mathlib.Core.Path.{◌≡◌, refl, ap, ◌∙◌}
use mathlib.Core.Logic.{◌⊎◌, inl, inr, ⊎_elim}
use native.Mathlib.Omega.{arith}
use native.Mathlib.Nat.{not-suc-le-zero, le_of_suc-le-suc, eq-or-lt_of_le, le_refl, add-suc}
use Rattle.base.proofs.Tests.{below_suc}
use Rattle.table.specs.Bits.{sum}

pub sum_cong : (k : ℕ) (f g : ℕ → ℕ) → ((i : ℕ) → i < k → f i ≡ g i) → sum k f ≡ sum k g
unfolding sum
sum_cong zero f g h = refl
sum_cong (suc k) f g h = cc (sum_cong k f g (λ i l. h i (omega arith)), h k (omega arith))

pub sum_le : (k : ℕ) (f g : ℕ → ℕ) → ((i : ℕ) → i < k → f i ≤ g i) → sum k f ≤ sum k g
unfolding sum
sum_le zero f g h = omega arith
sum_le (suc k) f g h = omega (arith, sum_le k f g (λ i l. h i (omega arith)), h k (omega arith))

pub sum_lt : (k : ℕ) (f g : ℕ → ℕ) → ((i : ℕ) → i < k → f i ≤ g i) → (i : ℕ) → i < k → f i < g i → sum k f < sum k g
unfolding sum
sum_lt zero f g h i l s = absurd (not-suc-le-zero l)
sum_lt (suc k) f g h i l s =
    ⊎_elim
    (λ (e : i ≡ k). let s' : f k < g k = rw e at s in omega (arith, sum_le k f g (λ i l. h i (omega arith))))
    (λ b. omega (arith, sum_lt k f g (λ i l. h i (omega arith)) i b s, h k (omega arith)))
    (below_suc l)

pub sum_bound : (k c : ℕ) (f : ℕ → ℕ) → ((i : ℕ) → i < k → f i ≤ c) → sum k f ≤ k * c
unfolding sum
sum_bound zero c f h = omega arith
sum_bound (suc k) c f h = omega (arith, sum_bound k c f (λ i l. h i (omega arith)), h k (omega arith))

pub sum_constant : (k c : ℕ) → sum k (λ _. c) ≡ c * k
unfolding sum
sum_constant zero c = omega arith
sum_constant (suc k) c = omega (arith, sum_constant k c)

-- sums of two parts, and of two functions
pub sum_append : (m n : ℕ) (f : ℕ → ℕ) → sum (m + n) f ≡ sum m f + sum n (λ j. f (m + j))
unfolding sum
sum_append m zero f = let e : m + 0 ≡ m = omega arith in ap (λ k. sum k f) e ∙ omega arith
sum_append m (suc n) f = ap (λ k. sum k f) (add-suc m n) ∙ omega (arith, sum_append m n f)

pub sum_add : (n : ℕ) (f g : ℕ → ℕ) → sum n f + sum n g ≡ sum n (λ i. f i + g i)
unfolding sum
sum_add zero f g = omega arith
sum_add (suc n) f g = omega (arith, sum_add n f g)

-- a sum over more numbers is no less
pub sum_grows : (f : ℕ → ℕ) (k l : ℕ) → k ≤ l → sum k f ≤ sum l f
unfolding sum
sum_grows f k zero h = let e : k ≡ 0 = omega arith in rw e (omega arith)
sum_grows f k (suc l) h =
    ⊎_elim (λ (e : k ≡ suc l). rw e (le_refl (sum (suc l) f))) (λ b. omega (arith, sum_grows f k l (le_of_suc-le-suc b))) (eq-or-lt_of_le h)

-- what is 0 from m on adds nothing
pub sum_short : (f : ℕ → ℕ) (m k : ℕ) → m ≤ k → ((i : ℕ) → m ≤ i → f i ≡ 0) → sum k f ≡ sum m f
unfolding sum
sum_short f m zero h z = let e : m ≡ 0 = omega arith in rw e
sum_short f m (suc k) h z =
    ⊎_elim (λ (l : m ≤ k). omega (arith, sum_short f m k l z, z k l)) (λ (e : m ≡ suc k). rw e) (le_or_top h)
  where
    le_or_top : m ≤ suc k → (m ≤ k) ⊎ (m ≡ suc k)
    le_or_top q = ⊎_elim (λ e. inr e) (λ l. inl (le_of_suc-le-suc l)) (eq-or-lt_of_le q)

-- sums of functions that differ in one place
pub sum_but_one : (f g : ℕ → ℕ) (k p : ℕ) → p < k → ((q : ℕ) → (q ≡ p → ⊥) → f q ≡ g q) → sum k f + g p ≡ sum k g + f p
unfolding sum
sum_but_one f g zero p l h = absurd (not-suc-le-zero l)
sum_but_one f g (suc k) p l h =
    ⊎_elim (λ (e : p ≡ k). omega (arith, sum_cong k f g (λ q b. h q (λ d. omega arith)), ap f e, ap g e))
    (λ (b : p < k). omega (arith, sum_but_one f g k p b h, h k (λ d. omega arith)))
    (below_suc l)
