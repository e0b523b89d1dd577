-- `selector_cost` meets its contract: the bytes at both places decide.
use Rattle.std.proofs.Common.{arith}
use Rattle.std.proofs.lemmas.Bool.Decides.{nat_tests}
use Rattle.table.specs.Cells.{selector_cells}
use Rattle.stage_reader.proofs.trees.selector_cost.Goals as goal
use Rattle.stage_reader.proofs.trees.selector_cost.Goals.{then-zero, else-zero}

pub returns : goal.returns
unfolding selector_cells
returns c = elim c.if-zero.branch [ then-zero w ↦ grind (arith, nat_tests) | else-zero w ↦ grind (arith, nat_tests) ]
