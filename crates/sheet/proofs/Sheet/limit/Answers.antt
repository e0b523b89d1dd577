use Rattle.sheet.proofs.Judging.{limit_taken}
use Rattle.sheet.proofs.Sheet.limit.Goals as goal

pub returns : goal.returns
returns c before e =
    let a = c.args in
    limit_taken before 0 a.self e a.p a.set c.requires
