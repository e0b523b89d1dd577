-- `joined_reply` meets its contract: the first sheet is too long, or the second, or the joint quote says it.
use mathlib.Core.Path.{ap}
use Rattle.base.specs.Cases.{refusing, refused_outcome}
use Rattle.quote.specs.Cases.{no_quote}
use Rattle.report.proofs.Reports.{printed}
use Rattle.printed.proofs.Printing.{joined_first_long, joined_second_long, joined_lines}
use Rattle.printed.proofs.joined_reply.Goals as goal

pub returns-then-first-gt-LONGEST_SHEET : goal.returns-then-first-gt-LONGEST_SHEET
returns-then-first-gt-LONGEST_SHEET c =
    let a = c.args in
    let e = ap (λ f. no_quote (refusing refused_outcome f)) c.too_long.ensures in
    printed _ _ _ c.report_joint.ensures (joined_first_long a.first.now a.second.now _ _ e c.if-first-gt-LONGEST_SHEET.true)

pub returns-then-second-gt-LONGEST_SHEET : goal.returns-then-second-gt-LONGEST_SHEET
returns-then-second-gt-LONGEST_SHEET c =
    let a = c.args in
    let e = ap no_quote c.second_too_long.ensures in
    printed _ _ _ c.report_joint-then-second-gt-LONGEST_SHEET.ensures
    (joined_second_long a.first.now a.second.now c.if-first-gt-LONGEST_SHEET.false _ _ e c.if-second-gt-LONGEST_SHEET.true)

pub returns : goal.returns
returns c =
    let a = c.args in
    let w = c.quote_joined-quoted.ensures in
    printed _ _ _ c.report_joint-2.ensures
    (joined_lines a.first.now a.second.now c.if-first-gt-LONGEST_SHEET.false _ _ w.reply w.bytes c.if-second-gt-LONGEST_SHEET.false)
