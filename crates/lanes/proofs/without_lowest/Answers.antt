-- `without_lowest` meets its contract.
use borrow.Author.Rules.{rules}
use mir.Val.{Fits}
use mir.Syntax.{w64}
use Rattle.lanes.proofs.First.{first_emptied}
use Rattle.lanes.proofs.without_lowest.Goals as goal

pub returns : goal.returns
returns c =
    let x = c.args.x in
    let fit : Fits w64 x = search rules in
    first_emptied x fit.fits c.requires.0 c.requires.1
