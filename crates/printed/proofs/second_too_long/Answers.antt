-- `second_too_long` meets its contract: what reading refuses of the first sheet, or the length of the second.
use mathlib.Core.Path.{sym, ap, ◌∙◌}
use Rattle.base.specs.Cases.{refusing, second_refused_outcome}
use Rattle.unit.proofs.Relating.{related_held, related_turned}
use Rattle.printed.specs.Printed.{before_too_long}
use Rattle.printed.proofs.second_too_long.Goals as goal

pub returns-in-Ok : goal.returns-in-Ok
unfolding before_too_long
returns-in-Ok c =
    let h = related_held c.args.first.now c.in-Ok.field-0 c.in-Ok.ensures in
    ap (refusing second_refused_outcome) c.too_long.ensures ∙ sym (ap before_too_long h.1)

pub returns-in-Err : goal.returns-in-Err
unfolding before_too_long
returns-in-Err c = sym (ap before_too_long (related_turned c.args.first.now c.in-Err.refusal c.in-Err.ensures))
