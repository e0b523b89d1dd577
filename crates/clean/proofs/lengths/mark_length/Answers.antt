use mathlib.Core.Path.{sym, ap}
use mathlib.Core.Bool.{Bool, cond}
use native.Mathlib.Omega.{arith}
use borrow.Author.Tests.{eq-eqb, ne_eqb}
use Rattle.clean.proofs.lengths.mark_length.Goals as goal

pub returns-then-mark-eq-DONT_CARE : goal.returns-then-mark-eq-DONT_CARE
returns-then-mark-eq-DONT_CARE c = (sym (ap (λ (b : Bool). cond b 2 3) (eq-eqb _ _ c.if-mark-eq-DONT_CARE.true)), omega arith)

pub returns-else-mark-eq-DONT_CARE : goal.returns-else-mark-eq-DONT_CARE
returns-else-mark-eq-DONT_CARE c = (sym (ap (λ (b : Bool). cond b 2 3) (ne_eqb _ _ c.if-mark-eq-DONT_CARE.false)), omega arith)
