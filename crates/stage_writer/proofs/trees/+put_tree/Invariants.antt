-- The inputs that are left fall.
use Rattle.stage_writer.proofs.trees.+put_tree.Given as goal

abbrev pub decreases-put_tree : goal.decreases-put_tree
decreases-put_tree l = l.w
