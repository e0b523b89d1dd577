-- Laws of the least number that passes a test.
use Prim.Native.Nat.{ℕ, zero, suc, ◌<◌, ◌≤◌}
use mathlib.Core.Path.{◌≡◌, ap}
use mathlib.Core.Logic.{⊎_elim}
use mathlib.Core.Bool.{Bool, not}
use mathlib.Core.Option.{Option, none, some}
use native.Mathlib.Omega.{arith}
use native.Mathlib.Nat.{not-suc-le-zero, le_refl, le_antisymm}
use lib.Dec.{T, T_not, ltb→lt, nltb→le}
use Rattle.base.proofs.Tests.{cond_has, below_suc}
use Rattle.table.specs.Pick.{displaces, nearer, least, or_zero}

-- the least table
module _ (key : ℕ → ℕ) (fit : ℕ → Bool) where
  abbrev pub Least : ℕ → Option ℕ → Type 0
  Least k none = (t : ℕ) → t < k → T (fit t) → ⊥
  Least k (some r) =
      (r < k) × T (fit r) × ((t : ℕ) → t < k → T (fit t) → key r ≤ key t) × ((t : ℕ) → t < k → T (fit t) → key t ≤ key r → r ≤ t)

  -- a greater number takes the place of a smaller one with a lower key only
  lower : (t s : ℕ) → T (displaces key t s) → key t < key s
  lower t s = ltb→lt (key t) (key s)

  not_lower : (t s : ℕ) → T (not (displaces key t s)) → key s ≤ key t
  not_lower t s = nltb→le (key t) (key s)

  nearer_least : (k : ℕ) (o : Option ℕ) → T (fit k) → Least k o → Least (suc k) (nearer key fit o k)
  unfolding nearer
  nearer_least k none f h = (
    omega arith,
    f,
    λ t l g. ⊎_elim (λ (e : t ≡ k). rw e (le_refl (key k))) (λ b. absurd (h t b g)) (below_suc l),
    λ t l g _. ⊎_elim (λ (e : t ≡ k). omega arith) (λ b. absurd (h t b g)) (below_suc l),
  )
  nearer_least k (some r) f h =
      cond_has (Least (suc k)) (displaces key k r)
      (λ c. let d = lower k r c in (
        omega arith,
        f,
        λ t l g. ⊎_elim (λ (e : t ≡ k). rw e (le_refl (key k))) (λ b. omega (arith, h.2 t b g)) (below_suc l),
        λ t l g w. ⊎_elim (λ (e : t ≡ k). omega arith) (λ b. absurd (omega (arith, h.2 t b g))) (below_suc l),
      ))
      (λ c. let d = not_lower k r c in (
        omega arith,
        h.1,
        λ t l g. ⊎_elim (λ (e : t ≡ k). rw e d) (λ b. h.2 t b g) (below_suc l),
        λ t l g w. ⊎_elim (λ (e : t ≡ k). omega (arith, h.0)) (λ b. h.3 t b g w) (below_suc l),
      ))

  skip : (k : ℕ) (o : Option ℕ) → T (not (fit k)) → Least k o → Least (suc k) o
  skip k none f h = λ t l g. ⊎_elim (λ (e : t ≡ k). T_not (fit k) f (rw e at g)) (λ b. h t b g) (below_suc l)
  skip k (some r) f h = (
    omega arith,
    h.1,
    λ t l g. ⊎_elim (λ (e : t ≡ k). absurd (T_not (fit k) f (rw e at g))) (λ b. h.2 t b g) (below_suc l),
    λ t l g w. ⊎_elim (λ (e : t ≡ k). absurd (T_not (fit k) f (rw e at g))) (λ b. h.3 t b g w) (below_suc l),
  )

  pub least_is : (k : ℕ) → Least k (least key fit k)
  unfolding least
  least_is zero = λ t l g. not-suc-le-zero l
  least_is (suc k) =
      cond_has (Least (suc k)) (fit k) (λ f. nearer_least k (least key fit k) f (least_is k)) (λ f. skip k (least key fit k) f (least_is k))

  pub least_found : (k : ℕ) (o : Option ℕ) → Least k o → (t : ℕ) → t < k → T (fit t) → Least k (some (or_zero o))
  unfolding or_zero
  least_found k none h t l g = absurd (h t l g)
  least_found k (some r) h t l g = h

  -- there is one such table only
  pub least_only : (k r q : ℕ) → Least k (some r) → Least k (some q) → r ≡ q
  least_only k r q a c =
      le_antisymm (a.3 q c.0 c.1 (c.2 r a.0 a.1)) (c.3 r a.0 a.1 (a.2 q c.0 c.1))

  pub least_eq : (k : ℕ) (o : Option ℕ) (t : ℕ) → Least k o → Least k (some t) → o ≡ some t
  least_eq k none t a c = absurd (a t c.0 c.1)
  least_eq k (some r) t a c = ap {B = Option ℕ} some (least_only k r t a c)
