-- The last element that passes a test, as a search of a slice from its end finds it.
use Rattle.std.proofs.Common.{◌≡◌, ℕ, ◌+◌, Bool, true, false, List, [], ◌∷◌, reverse, length, Option, None, Some, Iter, refl, sym, ap, subst, ◌∙◌}
use mathlib.Core.List.{reverse-append}
use denote.Ref.{Bor}
use denote.Param.Members.{Mut}
use Rattle.std.specs.Prelude.{MatchOption}
use Rattle.std.specs.Option.{IsSomeAnd}
use Rattle.std.specs.List.{FoldsTo, position}
use Rattle.std.specs.Fn.{Called}
use Rattle.std.specs.Iterator.{YieldsThen, FindsPositionBack}
use Rattle.std.specs.Slice.Iter.{iter_rest, iter_steps_back}
use Rattle.std.proofs.lemmas.List.{length-reverse}
use Rattle.std.proofs.lemmas.Iterator.{YieldsList}
use Rattle.std.proofs.lemmas.Iterator.Consumers.{YieldsList-from_shown}
use Rattle.std.proofs.lemmas.Iterator.Search.{position_from_yields_List}

-- the elements from the end
from_end : {A : Type 0} (s : Iter A) → YieldsList iter_steps_back (λ y. y.now) s (reverse (iter_rest s))
from_end s =
    YieldsList-from_shown iter_steps_back (λ y. y.now) (λ u. reverse (iter_rest u)) (λ u t p. length-reverse _ ∙ p.0)
    (λ u x t p. ap reverse p ∙ reverse-append (iter_rest t) (x.now ∷ [])) s

-- how far from the end a place is, among n
abbrev pub FromEnd : ℕ → Option ℕ → Option ℕ → Type 0
FromEnd n back r = MatchOption r (back ≡ None) (λ i. IsSomeAnd back (λ j. i + 1 + j ≡ n))

module _ {A F : Type 0} {g : Mut F (Bor A × Unit {0}) Bool} (s u : Iter A) (f : F) (n : ℕ) (test : A → Bool)
    (k : (x : Bor A) (b : Bool) (q : F) → Called g f (x, tt) b q → (q ≡ f) × (b ≡ test x.now)) where
  by : (r : Option ℕ) (xs : List (Bor A)) (j : F) (o : Option (Bor A)) → YieldsThen iter_steps_back s xs o u → FoldsTo (λ p x q. Called g p (x, tt) false q) f xs j
      → MatchOption o (r ≡ None) (λ x. IsSomeAnd r (λ i. i + 1 + length xs ≡ n) × ((h : F) × Called g j (x, tt) true h))
      → FromEnd n (position test (reverse (iter_rest s))) r
  by r xs j None y c e =
      let found : None ≡ position test (reverse (iter_rest s)) = position_from_yields_List test u f None (xs, None, j, y, c, refl) (from_end s) k in
      rw e (sym found)
  by None xs j (Some x) y c e = absurd e.0
  by (Some i) xs j (Some x) y c e =
      let found : Some (length xs) ≡ position test (reverse (iter_rest s)) =
      position_from_yields_List test u f (Some (length xs)) (xs, Some x, j, y, c, (refl, e.1)) (from_end s) k in
      rw (← found) e.0

-- the place that is found is told from the end
pub last_found : {A F : Type 0} {g : Mut F (Bor A × Unit {0}) Bool} {s : Iter A} {u : Iter A} {f : F} {r : Option ℕ} (test : A → Bool) (all : List A)
    → FindsPositionBack iter_steps_back g s f (length (iter_rest s)) r u → iter_rest s ≡ all
    → ((x : Bor A) (b : Bool) (q : F) → Called g f (x, tt) b q → (q ≡ f) × (b ≡ test x.now)) → FromEnd (length all) (position test (reverse all)) r
last_found {s = s} {u = u} {f = f} {r = r} test all d e k =
    subst (λ l. FromEnd (length l) (position test (reverse l)) r) e (by s u f (length (iter_rest s)) test k r d.0 d.2 d.1 d.3 d.4 d.5)
