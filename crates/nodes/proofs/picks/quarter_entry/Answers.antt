-- `quarter_entry` meets its contract: the table has it at its place.
use Rattle.nodes.proofs.QuarterEntries.{quarter_at}
use Rattle.nodes.proofs.picks.quarter_entry.Goals as goal

pub returns : goal.returns
returns c = quarter_at c.requires c.args.at
