-- `class` meets its contract: the entry's digits at the places.
use Rattle.nodes.proofs.QuarterEntries.{class_at_lem}
use Rattle.nodes.proofs.picks.class.Goals as goal

pub returns : goal.returns
returns c = class_at_lem c.args.at c.args.places c.quarter_entry.result c.quarter_entry.ensures.0 c.quarter_entry.ensures.1
