-- Laws of what a list of commands says, and of lists made entry by entry.
use Prim.Native.Nat.{ℕ, zero, suc}
use mathlib.Core.Path.{◌≡◌, refl, sym, ap, ◌∙◌}
use mathlib.Core.Bool.{true, false, ◌&&◌}
use mathlib.Core.List.{List, [], ◌∷◌, ◌++◌, append_assoc, append-nil}
use native.Mathlib.Omega.{arith}
use lib.ListN.{length, get_or}
use borrow.Author.Tests.{eq-eqb, ne_eqb}
use Rattle.sheet.specs.declared.Command.{Command}
use Rattle.sheet.specs.Commands.{is_empty, collect, about}

-- the commands of two lists
pub collect_append {ℓ} : {A : Type ℓ} (says : Command → List A) (cs ds : List Command) → collect says (cs ++ ds) ≡ collect says cs ++ collect says ds
unfolding collect
collect_append says [] ds = refl
collect_append says (c ∷ cs) ds = rw (collect_append says cs ds) (sym (append_assoc (says c) (collect says cs) (collect says ds)))

-- one command more
pub collect_snoc {ℓ} : {A : Type ℓ} (says : Command → List A) (cs : List Command) (c : Command) → collect says (cs ++ c ∷ []) ≡ collect says cs ++ says c
unfolding collect
collect_snoc says cs c = collect_append says cs (c ∷ []) ∙ ap (λ x. collect says cs ++ x) (append-nil (says c))

-- a command that says nothing of a kind changes nothing of it
pub silent {ℓ} : {A : Type ℓ} (says : Command → List A) (before : List Command) (c : Command)
    → says c ≡ [] → collect says (before ++ c ∷ []) ≡ collect says before
silent says before c e = collect_snoc says before c ∙ ap (λ x. collect says before ++ x) e ∙ append-nil (collect says before)

pub never {ℓ} : {A : Type ℓ} → false ≡ true → A
never e = let z : ◌≡◌ {A = ℕ} 0 1 = cc in absurd (omega arith)

pub is_empty_append {ℓ} : {A : Type ℓ} (xs ys : List A) → is_empty (xs ++ ys) ≡ is_empty xs && is_empty ys
is_empty_append [] ys = refl
is_empty_append (x ∷ xs) ys = refl

pub is_empty_nil {ℓ} : {A : Type ℓ} (xs : List A) → is_empty xs ≡ true → xs ≡ []
is_empty_nil [] e = refl
is_empty_nil (x ∷ xs) e = never e

pub about_same {ℓ} : {A : Type ℓ} (p : ℕ) (x : A) → about p p x ≡ x ∷ []
about_same p x = simp (eq-eqb p p refl)

pub about_other {ℓ} : {A : Type ℓ} (p q : ℕ) (x : A) → (q ≡ p → ⊥) → about p q x ≡ []
about_other p q x h = simp (ne_eqb q p h)

-- one element more changes no other
pub get_d_snoc_other {ℓ} : {A : Type ℓ} (xs : List A) (x d : A) (i : ℕ) → (i ≡ length xs → ⊥) → get_or xs i d ≡ get_or (xs ++ x ∷ []) i d
get_d_snoc_other [] x d zero h = absurd (h refl)
get_d_snoc_other [] x d (suc i) h = refl
get_d_snoc_other (y ∷ xs) x d zero h = refl
get_d_snoc_other (y ∷ xs) x d (suc i) h = get_d_snoc_other xs x d i (λ e. h (ap suc e))
