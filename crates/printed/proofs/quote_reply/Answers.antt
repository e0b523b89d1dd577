-- `quote_reply` meets its contract: the sheet is too long, or the quote says it.
use mathlib.Core.Path.{ap}
use Rattle.quote.specs.Inner.Refused.{refused_quote}
use Rattle.report.proofs.Reports.{printed}
use Rattle.printed.proofs.Printing.{quote_too_long, quote_lines}
use Rattle.printed.proofs.quote_reply.Goals as goal

pub returns-then-sheet-gt-LONGEST_SHEET : goal.returns-then-sheet-gt-LONGEST_SHEET
returns-then-sheet-gt-LONGEST_SHEET c =
    let a = c.args in
    printed _ _ _ c.report.ensures (quote_too_long a.kind a.sheet.now _ _ (ap refused_quote c.too_long.ensures) c.if-sheet-gt-LONGEST_SHEET.true)

pub returns : goal.returns
returns c =
    let a = c.args in
    let q = c.quote_on-quoted.ensures in
    printed _ _ _ c.report-2.ensures (quote_lines a.kind a.sheet.now _ _ q.reply q.bytes c.if-sheet-gt-LONGEST_SHEET.false)
