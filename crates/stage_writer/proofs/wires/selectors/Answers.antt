-- `selectors` meets its contract: the selectors of a tree are counted, and every node of a diagram has an entry.
use native.Mathlib.Omega.{arith}
use Rattle.stage.proofs.TreeTables.{patterns_most, reduced_selectors_lt}
use Rattle.stage_writer.proofs.wires.selectors.Goals as goal

pub returns-in-Tree : goal.returns-in-Tree
returns-in-Tree c =
    let n = c.args.n in
    let e = c.selector_count.ensures 0 in
    (rw c.in-Tree.is e, omega (arith, e, reduced_selectors_lt n 0 c.args.t, patterns_most n (rw c.in-Tree.is at c.requires.0)))
