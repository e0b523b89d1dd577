-- `price` meets its contract: both numbers that the entry names decide.
use Rattle.std.proofs.Common.{arith}
use Rattle.std.proofs.lemmas.Bool.Decides.{nat_tests}
use Rattle.table.specs.Cells.{selector_cells}
use Rattle.diagram.specs.Diagram.{wired_entry, entry_price}
use Rattle.stage_reader.proofs.numbers.Entry.price.Goals as goal
use Rattle.stage_reader.proofs.numbers.Entry.price.Goals.{then-zero, else-zero}

pub returns : goal.returns
unfolding selector_cells wired_entry entry_price
returns c = elim c.if-zero.branch [ then-zero w ↦ grind (arith, nat_tests) | else-zero w ↦ grind (arith, nat_tests) ]
