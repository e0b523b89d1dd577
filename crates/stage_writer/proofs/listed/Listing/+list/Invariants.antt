-- The inputs that are left fall.
use Rattle.stage_writer.proofs.listed.Listing.+list.Given as goal

abbrev pub decreases-list : goal.decreases-list
decreases-list l = l.w
