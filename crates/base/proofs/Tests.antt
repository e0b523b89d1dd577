-- Laws of tests and of choices by a test.
use Prim.Native.Nat.{ℕ, suc, ◌<◌}
use mathlib.Core.Path.{◌≡◌, refl, sym, ap, subst, ◌∙◌}
use mathlib.Core.Logic.{◌⊎◌, inl, inr}
use mathlib.Core.Bool.{Bool, true, false, cond, not, ◌&&◌, ◌||◌}
use native.Mathlib.Nat.{le_of_suc-le-suc, eq-or-lt_of_le}
use lib.Dec.{T, T_not, eqb, eqb→eq, eqb_refl}

pub and_intro : (a b : Bool) → T a → T b → T (a && b)
and_intro true b p q = q
and_intro false b p q = p

pub and_left : (a b : Bool) → T (a && b) → T a
and_left true b t = tt
and_left false b t = t

pub and_right : (a b : Bool) → T (a && b) → T b
and_right true b t = t
and_right false b t = absurd t

pub or_left : (a b : Bool) → T a → T (a || b)
or_left true b t = tt
or_left false b t = absurd t

pub or_right : (a b : Bool) → T b → T (a || b)
or_right true b t = tt
or_right false b t = t

pub or_cases : (a b : Bool) → T (a || b) → T a ⊎ T b
or_cases true b t = inl tt
or_cases false b t = inr t

pub decide : (b : Bool) → T b ⊎ T (not b)
decide true = inl tt
decide false = inr tt

-- a choice by a test has what both of its arms have
pub cond_has {ℓ} : {A : Type ℓ} (P : A → Type 0) (b : Bool) {x y : A} → (T b → P x) → (T (not b) → P y) → P (cond b x y)
cond_has P true f g = f tt
cond_has P false f g = g tt

-- two choices by one test
pub cond_has₂ {ℓ κ} : {A : Type ℓ} {B : Type κ} (P : A → B → Type 0) (b : Bool) {x y : A} {u v : B} → (T b → P x u) → (T (not b) → P y v)
    → P (cond b x y) (cond b u v)
cond_has₂ P true f g = f tt
cond_has₂ P false f g = g tt

pub cond_has₃ : {A B C : Type 0} (P : A → B → C → Type 0) (b : Bool) {x y : A} {u v : B} {m n : C} → (T b → P x u m) → (T (not b) → P y v n)
    → P (cond b x y) (cond b u v) (cond b m n)
cond_has₃ P true f g = f tt
cond_has₃ P false f g = g tt

pub below_suc : {i k : ℕ} → i < suc k → (i ≡ k) ⊎ (i < k)
below_suc h = eq-or-lt_of_le (le_of_suc-le-suc h)

pub eq_test : {a b : ℕ} → a ≡ b → T (eqb a b)
eq_test {a} {b} e = subst (λ x. T (eqb a x)) e (eqb_refl a)

pub eqb_yes : {A : Type 0} (a b : ℕ) (x y : A) → a ≡ b → cond (eqb a b) x y ≡ x
eqb_yes a b x y e = cond_has (λ z. z ≡ x) (eqb a b) (λ _. refl) (λ h. absurd (T_not (eqb a b) h (eq_test e)))

pub eqb_not : {A : Type 0} (a b : ℕ) (x y : A) → (a ≡ b → ⊥) → cond (eqb a b) x y ≡ y
eqb_not a b x y e = cond_has (λ z. z ≡ y) (eqb a b) (λ h. absurd (e (eqb→eq a b h))) (λ _. refl)

pub not_not : (b : Bool) → T (not (not b)) → T b
not_not true t = tt
not_not false t = t

-- a test that passes is true, one that does not is false
pub test_yes : (c : Bool) → T c → c ≡ true
test_yes true t = refl
test_yes false t = absurd t

pub test_no : (c : Bool) → T (not c) → c ≡ false
test_no true t = absurd t
test_no false t = refl

pub and_true : (c : Bool) → c && true ≡ c
and_true true = refl
and_true false = refl

pub and_false : (c : Bool) → c && false ≡ false
and_false true = refl
and_false false = refl

-- two tests that pass together are equal
pub test_ext : (a b : Bool) → (T a → T b) → (T b → T a) → a ≡ b
test_ext true true f g = refl
test_ext true false f g = absurd (f tt)
test_ext false true f g = absurd (g tt)
test_ext false false f g = refl

-- a test that is told by an equal one
pub told_yes : {r s : Bool} → r ≡ s → r ≡ true → T s
told_yes e t = subst T (sym t ∙ e) tt

pub told_no : {r s : Bool} → r ≡ s → r ≡ false → T (not s)
told_no e t = subst (λ x. T (not x)) (sym t ∙ e) tt

-- the same where the code asks for the contrary
pub denied : {r s : Bool} → r ≡ s → not r ≡ true → T (not s)
denied e t = subst T (sym t ∙ ap not e) tt

pub granted : {r s : Bool} → r ≡ s → not r ≡ false → T s
granted {r = true} e t = subst T e tt
granted {r = false} e t = absurd (subst T t tt)

-- of two tests neither passes
pub neither : (a b : Bool) → a || b ≡ false → (a ≡ false) × (b ≡ false)
neither true b e = absurd (subst T e tt)
neither false b e = (refl, e)
