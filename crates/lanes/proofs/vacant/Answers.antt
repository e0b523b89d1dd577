-- `vacant` meets its contract.
use borrow.Author.Rules.{rules}
use mir.Val.{Fits}
use mir.Syntax.{w64}
use Rattle.lanes.proofs.Empty.{under_highest, empty_lanes}
use Rattle.lanes.proofs.vacant.Goals as goal

pub overflow_sub-result : goal.overflow_sub-result
overflow_sub-result c =
    let fit : Fits w64 c.args.x = search rules in
    under_highest c.args.x fit.fits c.requires

pub returns : goal.returns
returns c =
    let fit : Fits w64 c.args.x = search rules in
    empty_lanes c.args.x fit.fits c.requires
