-- `lowest_wire` meets its contract.
use borrow.Author.Rules.{rules}
use native.Mathlib.Omega.{arith}
use mir.Val.{Fits}
use mir.Syntax.{w64}
use Rattle.lanes.proofs.First.{first_found, first_lt}
use Rattle.lanes.proofs.lowest_wire.Goals as goal

pub returns : goal.returns
returns c =
    let x = c.args.x in
    let fit : Fits w64 x = search rules in
    let e = first_found x fit.fits c.requires.0 c.requires.1 in
    (e, omega (arith, e, first_lt x fit.fits c.requires.0 c.requires.1))
