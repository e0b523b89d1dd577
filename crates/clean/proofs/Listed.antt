-- Laws of lists made piece by piece, and of what their commands say.
use Prim.Native.Nat.{ℕ, zero, suc, ◌<◌, ◌≤◌}
use mathlib.Core.Path.{◌≡◌, refl, sym, ap, ap₂, ◌∙◌}
use mathlib.Core.Logic.{⊎_elim}
use mathlib.Core.List.{List, [], ◌∷◌, ◌++◌, append-nil}
use native.Mathlib.Nat.{not-suc-le-zero}
use native.Mathlib.Omega.{arith}
use lib.ListN.{length, get_or, take, length-append}
use lib.Seq.{take-suc, take-length}
use Rattle.base.proofs.Tests.{below_suc}
use Rattle.table.specs.Bits.{sum}
use Rattle.sheet.specs.declared.Command.{Command}
use Rattle.sheet.specs.Commands.{collect}
use Rattle.sheet.proofs.Lists.{collect_append}
use Rattle.clean.specs.Copy.{listed}

module _ {ℓ} {A : Type ℓ} where
  pub listed_cong : (k : ℕ) (f g : ℕ → List A) → ((i : ℕ) → i < k → f i ≡ g i) → listed k f ≡ listed k g
  unfolding listed
  listed_cong zero f g h = refl
  listed_cong (suc k) f g h = ap₂ ◌++◌ (listed_cong k f g (λ i l. h i (omega arith))) (h k (omega arith))

  -- nothing but empty pieces
  pub listed_none : (k : ℕ) (f : ℕ → List A) → ((i : ℕ) → i < k → f i ≡ []) → listed k f ≡ []
  unfolding listed
  listed_none zero f h = refl
  listed_none (suc k) f h = ap₂ ◌++◌ (listed_none k f (λ i l. h i (omega arith))) (h k (omega arith))

  -- one piece and else empty ones
  pub listed_one : (k : ℕ) (f : ℕ → List A) (p : ℕ) → p < k → ((i : ℕ) → (i ≡ p → ⊥) → f i ≡ []) → listed k f ≡ f p
  unfolding listed
  listed_one zero f p l h = absurd (not-suc-le-zero l)
  listed_one (suc k) f p l h =
      ⊎_elim
      (λ (e : p ≡ k). rw (listed_none k f (λ i b. h i (λ d. omega arith)), e))
      (λ (b : p < k). ap₂ ◌++◌ (listed_one k f p b h) (h k (λ d. omega arith)) ∙ append-nil (f p))
      (below_suc l)

  -- the length of all pieces
  pub listed_length : (k : ℕ) (f : ℕ → List A) → length (listed k f) ≡ sum k (λ i. length (f i))
  unfolding listed sum
  listed_length zero f = refl
  listed_length (suc k) f = omega (arith, length-append (listed k f) (f k), listed_length k f)

  pub singles_length : (k : ℕ) (f : ℕ → A) → length (listed k (λ i. f i ∷ [])) ≡ k
  unfolding listed
  singles_length zero f = refl
  singles_length (suc k) f = omega (arith, length-append (listed k (λ i. f i ∷ [])) (f k ∷ []), singles_length k f)

  -- the elements of a list, one after the other
  pub listed_all : (xs : List A) (d : A) → listed (length xs) (λ i. get_or xs i d ∷ []) ≡ xs
  unfolding listed
  listed_all xs d = front (length xs) (omega arith) ∙ take-length xs
    where
      front : (k : ℕ) → k ≤ length xs → listed k (λ i. get_or xs i d ∷ []) ≡ take k xs
      front zero l = refl
      front (suc k) l = ap (λ ys. ys ++ get_or xs k d ∷ []) (front k (omega arith)) ∙ sym (take-suc xs k d l)

module _ {ℓ} {A : Type ℓ} (says : Command → List A) where
  pub collect_listed : (k : ℕ) (f : ℕ → List Command) → collect says (listed k f) ≡ listed k (λ i. collect says (f i))
  unfolding collect listed
  collect_listed zero f = refl
  collect_listed (suc k) f = collect_append says (listed k f) (f k) ∙ ap (λ xs. xs ++ collect says (f k)) (collect_listed k f)

  pub collect_then : (cs : List Command) (k : ℕ) (f : ℕ → List Command)
      → collect says (cs ++ listed k f) ≡ collect says cs ++ listed k (λ i. collect says (f i))
  collect_then cs k f = collect_append says cs (listed k f) ∙ ap (λ xs. collect says cs ++ xs) (collect_listed k f)

  -- pieces that say nothing of a kind change nothing of it
  pub pieces_silent : (cs : List Command) (k : ℕ) (f : ℕ → List Command) → ((i : ℕ) → collect says (f i) ≡ [])
      → collect says (cs ++ listed k f) ≡ collect says cs
  pieces_silent cs k f h =
      collect_then cs k f ∙ ap (λ xs. collect says cs ++ xs) (listed_none k (λ i. collect says (f i)) (λ i _. h i)) ∙ append-nil (collect says cs)
