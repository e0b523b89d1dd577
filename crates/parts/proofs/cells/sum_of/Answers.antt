-- `sum_of` meets its contract: the product has the sum in one byte.
use native.Mathlib.Omega.{arith}
use Rattle.parts.proofs.CellBytes.{sum_found}
use Rattle.parts.proofs.cells.sum_of.Goals as goal

pub returns : goal.returns
returns c = (sum_found c.args.cells c.requires.0 c.requires.1, omega arith)
