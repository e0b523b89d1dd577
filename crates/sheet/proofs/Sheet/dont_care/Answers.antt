use mathlib.Core.Path.{ap, ◌∙◌}
use Rattle.std.proofs.Common.{Err}
use Rattle.sheet.proofs.Judging.{dont_care_repeated, dont_care_taken}
use Rattle.sheet.proofs.Sheet.dont_care.Goals as goal

pub returns-then-self-i-ne-NO_MARK : goal.returns-then-self-i-ne-NO_MARK
returns-then-self-i-ne-NO_MARK c before e =
    let a = c.args in ap Err c.at.ensures ∙ dont_care_repeated before a.at a.self e a.p c.requires c.if-self-i-ne-NO_MARK.true

pub returns : goal.returns
returns c before e = let a = c.args in dont_care_taken before a.at a.self e a.p c.requires c.if-self-i-ne-NO_MARK.false
