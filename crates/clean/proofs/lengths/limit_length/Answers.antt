use mathlib.Core.Path.{sym, ap, ◌∙◌}
use mathlib.Core.Bool.{Bool, cond}
use native.Mathlib.Omega.{arith}
use Rattle.clean.proofs.lengths.limit_length.Goals as goal

pub returns-then-permits_all : goal.returns-then-permits_all
returns-then-permits_all c = (sym (ap (λ (b : Bool). cond b 0 4) (sym c.permits_all.ensures ∙ c.if-permits_all.true)), omega arith)

pub returns-else-permits_all : goal.returns-else-permits_all
returns-else-permits_all c = (sym (ap (λ (b : Bool). cond b 0 4) (sym c.permits_all.ensures ∙ c.if-permits_all.false)), omega arith)
