-- Laws of a property that each element of a list has.
use Prim.Native.Nat.{ℕ, zero, suc, ◌<◌}
use mathlib.Core.Path.{◌≡◌, refl}
use mathlib.Core.List.{List, [], ◌∷◌, ◌++◌, map}
use native.Mathlib.Omega.{arith}
use native.Mathlib.Nat.{not-suc-le-zero, le_of_suc-le-suc}
use lib.ListN.{length, get_or}
use Rattle.base.specs.Each.{Each}

module _ {ℓ} {A : Type ℓ} where
  pub each_append : (P : A → Type 0) (xs ys : List A) → Each P xs → Each P ys → Each P (xs ++ ys)
  each_append P [] ys p q = q
  each_append P (x ∷ xs) ys p q = (p.0, each_append P xs ys p.1 q)

  pub each_weaken : (P Q : A → Type 0) → ((x : A) → P x → Q x) → (xs : List A) → Each P xs → Each Q xs
  each_weaken P Q f [] p = tt
  each_weaken P Q f (x ∷ xs) p = (f x p.0, each_weaken P Q f xs p.1)

  -- where no element can have the property there is none
  pub each_none : (P : A → Type 0) (xs : List A) → Each P xs → ((x : A) → P x → ⊥) → xs ≡ []
  each_none P [] p f = refl
  each_none P (x ∷ xs) p f = absurd (f x p.0)

  pub each_get_d : (P : A → Type 0) (xs : List A) (d : A) → Each P xs → (i : ℕ) → i < length xs → P (get_or xs i d)
  each_get_d P [] d p i h = absurd (not-suc-le-zero h)
  each_get_d P (x ∷ xs) d p zero h = p.0
  each_get_d P (x ∷ xs) d p (suc i) h = each_get_d P xs d p.1 i (le_of_suc-le-suc h)

  -- a list whose elements at each place have the property
  pub each_intro : (P : A → Type 0) (xs : List A) (d : A) → ((i : ℕ) → i < length xs → P (get_or xs i d)) → Each P xs
  each_intro P [] d h = tt
  each_intro P (x ∷ xs) d h = (h 0 (zero_lt (length xs)), each_intro P xs d (λ i l. h (suc i) (suc_lt l)))
    where
      zero_lt : (k : ℕ) → 0 < suc k
      zero_lt k = omega arith

      suc_lt : {i k : ℕ} → i < k → suc i < suc k
      suc_lt l = omega arith

-- the elements of a list under a function
module _ {ℓ κ} {A : Type ℓ} {B : Type κ} where
  pub each_map : (P : B → Type 0) (f : A → B) (xs : List A) → Each (λ x. P (f x)) xs → Each P (map f xs)
  each_map P f [] p = tt
  each_map P f (x ∷ xs) p = (p.0, each_map P f xs p.1)
