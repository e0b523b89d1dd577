use mathlib.Core.Path.{ap, ◌∙◌}
use Rattle.std.proofs.Common.{Err}
use Rattle.sheet.proofs.Judging.{row_repeated, row_taken}
use Rattle.sheet.proofs.Sheet.row.Goals as goal

pub returns-then-self-i-ne-NO_MARK : goal.returns-then-self-i-ne-NO_MARK
returns-then-self-i-ne-NO_MARK c before e =
    let a = c.args in ap Err c.at.ensures ∙ row_repeated before a.at a.self e a.p c.requires a.v c.if-self-i-ne-NO_MARK.true

pub returns : goal.returns
returns c before e = let a = c.args in row_taken before a.at a.self e a.p c.requires a.v c.if-self-i-ne-NO_MARK.false
