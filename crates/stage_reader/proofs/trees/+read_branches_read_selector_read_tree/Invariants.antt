-- The inputs that are left fall at each selector. A tree calls a selector, a selector its branches, and these the trees below.
use Rattle.std.proofs.Common.{◌+◌, ◌*◌, ◌-◌}
use Rattle.stage_reader.proofs.trees.+read_branches_read_selector_read_tree.Given as goal

abbrev pub decreases-read_tree : goal.decreases-read_tree
decreases-read_tree l = 3 * (l.n - l.k) + 2

abbrev pub decreases-read_selector : goal.decreases-read_selector
decreases-read_selector l = 3 * (l.n - l.k) + 1

abbrev pub decreases-read_branches : goal.decreases-read_branches
decreases-read_branches l = 3 * (l.n - l.i) + 3
