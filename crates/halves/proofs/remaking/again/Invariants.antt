-- `again` meets its contract: one wire after the other is made again, as long as the cells stay below the best.
use Prim.Native.Nat.{◌<◌}
use Rattle.parts.specs.Inner.Masks.{words_of}
use Rattle.parts.specs.Inner.Cells.{cells_sum}
use Rattle.halves.proofs.MadeAgain.{Partly}
use Rattle.halves.proofs.remaking.again.Given as goal

abbrev pub invariant-loop-left : goal.invariant-loop-left
invariant-loop-left l = Partly l.e (words_of l.masks) l.wires l.tables l.cells l.initial.state l.state l.left l.low l.all × (cells_sum l.all < l.initial.state.cells)

abbrev pub decreases-loop-left : goal.decreases-loop-left
decreases-loop-left l = l.left
