-- `cut_row` meets its contract: what is lost of each wire stands in its own lane, so that no lane borrows from the next.
use borrow.Author.Rules.{rules}
use mir.Val.{Fits}
use mir.Syntax.{w64}
use Rattle.parts.proofs.RowCuts.{row_less}
use Rattle.parts.proofs.masks.cut_row.Goals as goal

pub returns : goal.returns
returns c =
    let i = c in
    let h : Fits w64 i.args.row = search rules in
    row_less i.args.row i.args.p i.args.set h.fits c.lost_in.ensures.0 c.seat_of.ensures.0
