-- The exit of a `?`: the error goes on as it is. And what `map_err` tells of the result before it.
use mathlib.Core.Path.{◌≡◌, refl, ap, subst, ◌∙◌}
use Rattle.std.specs.Prelude.{Result, Ok, Err, MatchResult}
use Rattle.std.specs.Result.{IsErrAnd}
use Rattle.std.proofs.lemmas.Result.{err_from_is_err_and}

pub passed_on : {T E : Type 0} (r : Result T E) (e : E) → IsErrAnd r (λ y. y ≡ e) → r ≡ Err e
passed_on r e h = let p = err_from_is_err_and r h in p.1 ∙ ap Err p.2

module _ {T E : Type 0} (q : Result T E) where
  one_ok : (x y : T) → q ≡ Ok x → q ≡ Ok y → x ≡ y
  one_ok x y e f = cc

  one_err : (x y : E) → q ≡ Err x → q ≡ Err y → x ≡ y
  one_err x y e f = cc

  not_both : {A : Type 0} (x : T) (y : E) → q ≡ Ok x → q ≡ Err y → A
  not_both x y e f = absurd cc

module _ {T E D : Type 0} (P : E → D → Type 0) where
  pub mapped_ok : (r : Result T E) (q : Result T D) (x : T) → MatchResult r (λ y. q ≡ Ok y) (λ e. IsErrAnd q (P e)) → q ≡ Ok x → r ≡ Ok x
  mapped_ok (Ok y) q x h e = ap Ok (one_ok q y x h e)
  mapped_ok (Err d) q x h e = let p = err_from_is_err_and q h in not_both q x p.0 e p.1

  pub mapped_err : (r : Result T E) (q : Result T D) (d : D) → MatchResult r (λ y. q ≡ Ok y) (λ e. IsErrAnd q (P e)) → q ≡ Err d → (e : E) × (r ≡ Err e) × P e d
  mapped_err (Ok y) q d h e = not_both q y d h e
  mapped_err (Err x) q d h e = let p = err_from_is_err_and q h in (x, refl, subst (P x) (one_err q p.0 d p.1 e) p.2)
