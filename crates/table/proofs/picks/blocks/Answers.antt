-- `blocks` meets its contract: the rule of the table is one test over all of its entries.
use native.Mathlib.Omega.{arith}
use Rattle.table.specs.Bits.{bit, all}
use Rattle.table.specs.Cells.{low, high, full, wired_table, selector_cells, cells}
use Rattle.table.specs.Pick.{suits, nearer, least, least_of}
use Rattle.table.specs.Inner.Ranks.{masked, pick_key}
use Rattle.table.specs.Inner.Blocks.{block_entry, best_block}
use Rattle.table.proofs.BestBlocks.{right, tested}
use Rattle.table.proofs.picks.blocks.Goals as goal

pub returns : goal.returns
unfolding right best_block block_entry least_of least nearer suits masked all bit cells low high full wired_table selector_cells
returns c = tested (λ x. x) (pick_key 2) _ (omega arith) tt
