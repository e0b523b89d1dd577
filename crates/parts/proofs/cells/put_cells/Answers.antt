-- `put_cells` meets its contract: the wire's byte is taken off, and its cells are put there.
use borrow.Author.Rules.{rules}
use mir.Val.{Fits}
use mir.Syntax.{w64}
use Rattle.parts.proofs.CellBytes.{cells_put, cells_fit}
use Rattle.parts.proofs.cells.put_cells.Goals as goal

pub overflow_add-result : goal.overflow_add-result
overflow_add-result c =
    let a = c.args in
    let fit : Fits w64 a.cells = search rules in
    record { fits = cells_fit a.cells a.j a.k c.requires.0 c.requires.1 fit.fits }

pub returns : goal.returns
returns c =
    let a = c.args in
    let fit : Fits w64 a.cells = search rules in
    cells_put a.cells a.j a.k c.requires.0 c.requires.1 fit.fits
