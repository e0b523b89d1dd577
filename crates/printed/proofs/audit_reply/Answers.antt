-- `audit_reply` meets its contract: the sheet is too long, or the audit says it.
use mathlib.Core.Path.{ap}
use Rattle.base.specs.Cases.{refusing, refused_outcome}
use Rattle.report.proofs.Reports.{printed}
use Rattle.printed.proofs.Printing.{audit_too_long, audit_line_lem}
use Rattle.printed.proofs.audit_reply.Goals as goal

pub returns-then-sheet-gt-LONGEST_SHEET : goal.returns-then-sheet-gt-LONGEST_SHEET
returns-then-sheet-gt-LONGEST_SHEET c =
    let a = c.args in
    let e = ap (refusing refused_outcome) c.too_long.ensures in
    printed _ _ _ c.report_audit.ensures (audit_too_long a.kind a.sheet.now _ a.stage.now e c.if-sheet-gt-LONGEST_SHEET.true)

pub returns : goal.returns
returns c =
    let a = c.args in
    printed _ _ _ c.report_audit-2.ensures (audit_line_lem a.kind a.sheet.now _ a.stage.now c.audit_on-audited.ensures c.if-sheet-gt-LONGEST_SHEET.false)
