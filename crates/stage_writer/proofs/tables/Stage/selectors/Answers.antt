use Rattle.std.proofs.Common.{refl, arith, add-one}
use Rattle.table.specs.Cells.{total}
use Rattle.table.specs.Bits.{sum}
use Rattle.stage_writer.proofs.tables.Stage.selectors.Goals as goal

pub loop-j-init : goal.loop-j-init
unfolding total sum
loop-j-init c = (refl, omega arith)

pub loop-j-preserved : goal.loop-j-preserved
unfolding total sum
loop-j-preserved c =
    let l = c.loop-j in
    (rw (add-one l.j) (cc (l.invariant.0, c.selectors-all.ensures.0)), omega (arith, l.invariant, c.selectors-all.ensures))
