-- `form` meets its contract: the reading decides, and then the test of the relation.
use mathlib.Core.Path.{ap, sym, ◌∙◌}
use Rattle.base.proofs.Passing.{passed_on}
use Rattle.sheet.specs.Limits.{max_inputs}
use Rattle.relation.specs.Handed.{check_of}
use Rattle.unit.specs.Cases.{formed_reply}
use Rattle.unit.specs.Inner.Forming.{checked_reply}
use Rattle.unit.proofs.Forming.{formed_refused, after_check}
use Rattle.unit.proofs.Relating.{related_held, related_turned}
use Rattle.unit.proofs.form.Goals as goal

pub returns-in_err-relation : goal.returns-in_err-relation
returns-in_err-relation c =
    let h = c.in_err-relation in
    ap formed_reply (passed_on c.from_residual.result h.field-0.0 c.from_residual.ensures.1)
    ∙ sym (formed_refused _ _ (related_turned _ h.field-0.0 h.ensures))

pub returns-in_err-check : goal.returns-in_err-check
returns-in_err-check c =
    let h = c.in_ok-relation in
    let k = c.in_err-check in
    let held = related_held _ h.relation h.ensures in
    ap formed_reply (passed_on c.from_residual-in_err-check.result k.field-0.0 c.from_residual-in_err-check.ensures.1)
    ∙ ap (checked_reply h.relation) k.ensures ∙ ap (λ r. checked_reply r (check_of max_inputs r)) held.2 ∙ after_check _ held.0 held.1

pub returns : goal.returns
returns c =
    let h = c.in_ok-relation in
    let held = related_held _ h.relation h.ensures in
    ap (checked_reply h.relation) c.in_ok-check.ensures ∙ ap (λ r. checked_reply r (check_of max_inputs r)) held.2 ∙ after_check _ held.0 held.1
