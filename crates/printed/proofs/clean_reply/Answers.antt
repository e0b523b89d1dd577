-- `clean_reply` meets its contract: the sheet is too long, or its copy says it.
use mathlib.Core.Path.{ap}
use Rattle.base.specs.Cases.{refused_case}
use Rattle.report.proofs.Reports.{printed}
use Rattle.printed.proofs.Printing.{clean_too_long, clean_line}
use Rattle.printed.proofs.clean_reply.Goals as goal

pub returns-then-sheet-gt-LONGEST_SHEET : goal.returns-then-sheet-gt-LONGEST_SHEET
returns-then-sheet-gt-LONGEST_SHEET c =
    printed _ _ _ c.report_copy.ensures (clean_too_long c.args.sheet.now _ _ (ap refused_case c.too_long.ensures) c.if-sheet-gt-LONGEST_SHEET.true)

pub returns : goal.returns
returns c =
    let w = c.clean-written.ensures in
    printed _ _ _ c.report_copy-2.ensures (clean_line c.args.sheet.now _ _ w.reply w.bytes c.if-sheet-gt-LONGEST_SHEET.false)
