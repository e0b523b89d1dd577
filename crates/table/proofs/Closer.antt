-- Of two tables the better: the one of the lesser key, then the smaller.
use Prim.Native.Nat.{ℕ, ◌≤◌, min}
use mathlib.Core.Path.{◌≡◌, refl}
use mathlib.Core.Logic.{◌⊎◌, inl, inr, ⊎_elim}
use mathlib.Core.Bool.{cond, not}
use mathlib.Core.Option.{Option, none, some}
use native.Mathlib.Omega.{arith}
use native.Mathlib.Nat.{le_refl}
use lib.Dec.{T, ltb, ltb→lt, nltb→le}
use Rattle.base.proofs.Tests.{cond_has, decide}

-- of two tables the one of the lesser key, then the smaller
unfoldable pub closer : (ℕ → ℕ) → ℕ → ℕ → ℕ
closer key s t = cond (ltb (key s) (key t)) s (cond (ltb (key t) (key s)) t (min s t))

unfoldable pub closest : (ℕ → ℕ) → Option ℕ → Option ℕ → Option ℕ
closest key none o = o
closest key (some s) none = some s
closest key (some s) (some t) = some (closer key s t)

-- s is as good as t: a lesser key, or the same and no greater number
pub record Lex (key : ℕ → ℕ) (s t : ℕ) : Type 0 where
  pub fewer : key s ≤ key t
  pub smaller : key t ≤ key s → s ≤ t

pub lex_refl : (key : ℕ → ℕ) (s : ℕ) → Lex key s s
lex_refl key s = record { fewer = le_refl (key s); smaller = λ _. le_refl s }

pub lex_trans : (key : ℕ → ℕ) (s t u : ℕ) → Lex key s t → Lex key t u → Lex key s u
lex_trans key s t u a b =
    record {
      fewer = omega (arith, a.fewer, b.fewer);
      smaller = λ h. omega (arith, a.smaller (omega (arith, b.fewer)), b.smaller (omega (arith, a.fewer)));
    }

-- a lesser key alone
lex_fewer : (key : ℕ → ℕ) (s t : ℕ) → T (ltb (key s) (key t)) → Lex key s t
lex_fewer key s t b = let l = ltb→lt (key s) (key t) b in record { fewer = omega arith; smaller = λ h. absurd (omega arith) }

pub closer_left : (key : ℕ → ℕ) (s t : ℕ) → Lex key (closer key s t) s
unfolding closer
closer_left key s t =
    cond_has (λ x. Lex key x s) (ltb (key s) (key t)) (λ _. lex_refl key s)
    (λ a. let a' = nltb→le (key s) (key t) a in
    cond_has (λ x. Lex key x s) (ltb (key t) (key s)) (λ b. lex_fewer key t s b)
    (λ b. let b' = nltb→le (key t) (key s) b in least (decide (ltb s t)) a' b'))
  where
    least : T (ltb s t) ⊎ T (not (ltb s t)) → key t ≤ key s → key s ≤ key t → Lex key (min s t) s
    least (inl h) a b = let e : min s t ≡ s = omega (arith, ltb→lt s t h) in rw e (lex_refl key s)
    least (inr h) a b = let e : min s t ≡ t = omega (arith, nltb→le s t h) in rw e (record { fewer = a; smaller = λ _. nltb→le s t h })

pub closer_right : (key : ℕ → ℕ) (s t : ℕ) → Lex key (closer key s t) t
unfolding closer
closer_right key s t =
    cond_has (λ x. Lex key x t) (ltb (key s) (key t)) (λ b. lex_fewer key s t b)
    (λ a. let a' = nltb→le (key s) (key t) a in
    cond_has (λ x. Lex key x t) (ltb (key t) (key s)) (λ _. lex_refl key t)
    (λ b. let b' = nltb→le (key t) (key s) b in least (decide (ltb s t)) a' b'))
  where
    least : T (ltb s t) ⊎ T (not (ltb s t)) → key t ≤ key s → key s ≤ key t → Lex key (min s t) t
    least (inl h) a b = let l = ltb→lt s t h in let e : min s t ≡ s = omega arith in rw e (record { fewer = b; smaller = λ _. omega arith })
    least (inr h) a b = let e : min s t ≡ t = omega (arith, nltb→le s t h) in rw e (lex_refl key t)

pub closer_one : (key : ℕ → ℕ) (s t : ℕ) → (closer key s t ≡ s) ⊎ (closer key s t ≡ t)
unfolding closer
closer_one key s t =
    cond_has (λ x. (x ≡ s) ⊎ (x ≡ t)) (ltb (key s) (key t)) (λ _. inl refl)
    (λ _. cond_has (λ x. (x ≡ s) ⊎ (x ≡ t)) (ltb (key t) (key s)) (λ _. inr refl)
    (λ _. ⊎_elim (λ h. inl (omega (arith, ltb→lt s t h))) (λ h. inr (omega (arith, nltb→le s t h))) (decide (ltb s t))))
