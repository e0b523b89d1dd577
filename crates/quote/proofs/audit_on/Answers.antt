use mathlib.Core.Path.{◌≡◌, ap, sym, ◌∙◌}
use Rattle.std.proofs.Common.{Err}
use Rattle.quote.specs.declared.AuditRefusal.TheVariants.{Sheet as SheetRefused}
use Rattle.base.proofs.Passing.{passed_on, mapped_ok, mapped_err}
use Rattle.unit.specs.Cases.{formed_reply}
use Rattle.quote.specs.Cases.{audited_case}
use Rattle.quote.proofs.Auditing.{formed_audit, turned_audit}
use Rattle.quote.proofs.audit_on.Goals as goal

pub returns-in_err-relation : goal.returns-in_err-relation
returns-in_err-relation c =
    let a = c.args in
    let h = c.in_err-relation in
    let p = mapped_err _ c.form.result c.map_err.result h.field-0.0 c.map_err.ensures.cases h.was in
    let same : h.field-0.0 ≡ SheetRefused p.0 = p.2 in
    ap audited_case (passed_on c.from_residual.result h.field-0.0 c.from_residual.ensures.1 ∙ ap Err same)
    ∙ turned_audit a.kind a.sheet.now a.stage.now p.0 (sym (ap formed_reply p.1) ∙ c.form.ensures)

pub returns : goal.returns
returns c =
    let a = c.args in
    let h = c.in_ok-relation in
    let formed = mapped_ok _ c.form.result c.map_err.result h.relation c.map_err.ensures.cases h.was in
    c.audit_stage.ensures ∙ formed_audit a.kind a.sheet.now a.stage.now h.relation (sym (ap formed_reply formed) ∙ c.form.ensures)
