-- `put_lane` meets its contract: the old lane is taken off, and the new one is put there.
use borrow.Author.Rules.{rules}
use mir.Val.{Fits}
use mir.Syntax.{w64}
use Rattle.lanes.proofs.Replaced.{lane_put, lane_fits}
use Rattle.lanes.proofs.put_lane.Goals as goal

pub overflow_add-result : goal.overflow_add-result
overflow_add-result c =
    let a = c.args in
    let fit : Fits w64 a.x = search rules in
    record { fits = lane_fits a.x a.j a.y c.requires.0 c.requires.1 fit.fits }

pub returns : goal.returns
returns c =
    let a = c.args in
    let fit : Fits w64 a.x = search rules in
    lane_put a.x a.j a.y c.requires.0 c.requires.1 fit.fits
