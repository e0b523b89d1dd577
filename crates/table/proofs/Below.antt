-- Laws of tests over the numbers below a bound.
use Prim.Native.Nat.{ℕ, zero, suc, ◌<◌}
use mathlib.Core.Path.{◌≡◌, refl}
use mathlib.Core.Logic.{⊎_elim}
use mathlib.Core.Bool.{Bool}
use native.Mathlib.Omega.{arith}
use native.Mathlib.Nat.{not-suc-le-zero}
use lib.Dec.{T}
use Rattle.base.proofs.Tests.{and_intro, and_left, and_right, or_left, or_right, or_cases, below_suc}
use Rattle.table.specs.Bits.{all, any}

pub all_at : (k : ℕ) (f : ℕ → Bool) → T (all k f) → (i : ℕ) → i < k → T (f i)
unfolding all
all_at zero f t i h = absurd (not-suc-le-zero h)
all_at (suc k) f t i h =
    ⊎_elim (λ (e : i ≡ k). rw e (and_right (all k f) (f k) t)) (λ l. all_at k f (and_left (all k f) (f k) t) i l) (below_suc h)

pub all_intro : (k : ℕ) (f : ℕ → Bool) → ((i : ℕ) → i < k → T (f i)) → T (all k f)
unfolding all
all_intro zero f h = tt
all_intro (suc k) f h = and_intro (all k f) (f k) (all_intro k f (λ i l. h i (omega arith))) (h k (omega arith))

pub all_cong : (k : ℕ) (f g : ℕ → Bool) → ((i : ℕ) → i < k → f i ≡ g i) → all k f ≡ all k g
unfolding all
all_cong zero f g h = refl
all_cong (suc k) f g h = cc (all_cong k f g (λ i l. h i (omega arith)), h k (omega arith))

pub any_intro : (k : ℕ) (f : ℕ → Bool) (i : ℕ) → i < k → T (f i) → T (any k f)
unfolding any
any_intro zero f i h t = absurd (not-suc-le-zero h)
any_intro (suc k) f i h t =
    ⊎_elim (λ (e : i ≡ k). or_right (any k f) (f k) (rw e at t)) (λ l. or_left (any k f) (f k) (any_intro k f i l t)) (below_suc h)

pub any_at : (k : ℕ) (f : ℕ → Bool) → T (any k f) → (i : ℕ) × (i < k) × T (f i)
unfolding any
any_at zero f t = absurd t
any_at (suc k) f t =
    ⊎_elim (λ l. let r = any_at k f l in (r.0, omega arith, r.2)) (λ r. (k, omega arith, r)) (or_cases (any k f) (f k) t)

pub any_cong : (k : ℕ) (f g : ℕ → Bool) → ((i : ℕ) → i < k → f i ≡ g i) → any k f ≡ any k g
unfolding any
any_cong zero f g h = refl
any_cong (suc k) f g h = cc (any_cong k f g (λ i l. h i (omega arith)), h k (omega arith))
