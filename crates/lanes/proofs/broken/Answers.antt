-- `broken` meets its contract: in each lane the bit that the wire drives chooses.
use borrow.Author.Rules.{rules}
use mir.Val.{Fits}
use mir.Syntax.{w64}
use Rattle.lanes.proofs.Chosen.{chosen_is, lane_chosen, chosen_bits, chosen_lt}
use Rattle.lanes.proofs.broken.Goals as goal

pub returns : goal.returns
returns c =
    let d = c.args.driven in
    let z = c.args.zeroless in
    let o = c.args.oneless in
    let p = c.requires in
    let fd : Fits w64 d = search rules in
    let fz : Fits w64 z = search rules in
    let fo : Fits w64 o = search rules in
    let fr : Fits w64 c.choose.result = search rules in
    rw (chosen_is d z o c.choose.result fd.fits fz.fits fo.fits fr.fits c.choose.ensures) (
      lane_chosen d z o p.0 p.1 p.2,
      chosen_bits d z o p.0 p.1 p.2,
      chosen_lt d z o p.0 p.1 p.2 fd.fits fz.fits fo.fits,
    )
