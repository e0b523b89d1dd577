-- The inputs that are left fall.
use Rattle.stage_writer.proofs.trees.+selector_count.Given as goal

abbrev pub decreases-selector_count : goal.decreases-selector_count
decreases-selector_count l = l.w
