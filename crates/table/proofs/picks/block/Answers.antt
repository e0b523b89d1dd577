-- `block` meets its contract: the entry at its place.
use Rattle.table.proofs.Places.{block_at_lem}
use Rattle.table.proofs.picks.block.Goals as goal

pub returns : goal.returns
returns c = block_at_lem c.requires.0 c.args.at c.requires.1
