use mathlib.Core.Path.{◌≡◌, ap, sym, subst, ◌∙◌}
use Prim.Native.Nat.{◌<◌}
use Rattle.std.proofs.Common.{Ok}
use Rattle.sheet.specs.declared.Command.{Command}
use Rattle.sheet.specs.Commands.{is_sizes, is_empty}
use Rattle.sheet.specs.Judged.{judged}
use Rattle.sheet.specs.Limits.{max_patterns}
use Rattle.sheet.specs.Inner.Gathering.{pattern_of, gathered_reply}
use Rattle.sheet.proofs.Judging.{sizes_taken, end_taken}
use Rattle.sheet.proofs.Sheet.add.Goals as goal

pub row-requires : goal.row-requires
row-requires c = subst (λ (x : Command). pattern_of x < max_patterns) c.in-Row.is c.requires

pub dont_care-requires : goal.dont_care-requires
dont_care-requires c = subst (λ (x : Command). pattern_of x < max_patterns) c.in-DontCare.is c.requires

pub limit-requires : goal.limit-requires
limit-requires c = subst (λ (x : Command). pattern_of x < max_patterns) c.in-Limit.is c.requires

pub returns-in-End : goal.returns-in-End
returns-in-End c before e f =
    let a = c.args in
    rw c.in-End.is (end_taken before a.at a.self e)

pub returns-in-Sizes : goal.returns-in-Sizes
returns-in-Sizes c before e f =
    let a = c.args in
    let g = c.in-Sizes.is in
    let z = sym (subst (λ (x : Command). is_sizes x ≡ is_empty before) g f) in
    rw g (ap Ok c.fresh.ensures ∙ sizes_taken before a.at _ _ z)

pub returns-in-Row : goal.returns-in-Row
returns-in-Row c before e f = rw c.in-Row.is (c.row.ensures before e)

pub returns-in-DontCare : goal.returns-in-DontCare
returns-in-DontCare c before e f = rw c.in-DontCare.is (c.dont_care.ensures before e)

pub returns-in-Gate : goal.returns-in-Gate
returns-in-Gate c before e f = rw c.in-Gate.is (c.gate.ensures before e)

pub returns-in-Output : goal.returns-in-Output
returns-in-Output c before e f = rw c.in-Output.is (c.output.ensures before e)

pub returns-in-Limit : goal.returns-in-Limit
unfolding judged gathered_reply
returns-in-Limit c before e f = rw c.in-Limit.is (ap Ok (c.limit.ensures before e))
