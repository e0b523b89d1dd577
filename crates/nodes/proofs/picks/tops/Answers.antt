-- `tops` meets its contract: the rule of the table is one test over all of its entries.
use native.Mathlib.Omega.{arith}
use Rattle.table.specs.Bits.{bit, all}
use Rattle.table.specs.Cells.{low, high, full, wired_table, selector_cells}
use Rattle.table.specs.Pick.{suits, nearer, least, least_of}
use Rattle.table.specs.Inner.Ranks.{masked}
use Rattle.table.specs.Inner.Blocks.{block_entry, best_block}
use Rattle.table.proofs.BestBlocks.{right, tested}
use Rattle.nodes.specs.Nodes.{price}
use Rattle.nodes.specs.Inner.Tops.{top_price, four_times}
use Rattle.nodes.proofs.picks.tops.Goals as goal

pub returns : goal.returns
unfolding right best_block block_entry top_price price least_of least nearer suits masked all bit low high full wired_table selector_cells
returns c = tested four_times top_price _ (omega arith) tt
