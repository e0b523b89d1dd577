-- What the exit of a `?` hands on.
use mathlib.Core.Path.{◌≡◌}
use Rattle.std.specs.Prelude.{Result, Err, IsErrAnd}
use Rattle.std.proofs.lemmas.Result.{err_from_is_err_and}
use Rattle.base.specs.declared.Refusal.{Refusal}

-- the callee's refusal, however the result is told
pub exit_told : {T Z : Type 0} (tell : Result T Refusal → Z) (r : Result T Refusal) (f : Refusal) (z : Z) → IsErrAnd r (λ x. x ≡ f) → tell (Err f) ≡ z → tell r ≡ z
exit_told tell r f z h e = let x = err_from_is_err_and r h in rw (x.1, x.2) e
