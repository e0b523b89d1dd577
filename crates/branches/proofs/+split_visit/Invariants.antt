-- The cycle of the search ends: each split closes a pair that was open.
use Prim.Native.Nat.{◌+◌, ◌*◌}
use Rattle.relation.specs.Tests.{of_sets, open_pairs}
use Rattle.parts.specs.Inner.Boards.{lent_inputs, lent_wires}
use Rattle.branches.proofs.+split_visit.Given as goal

abbrev pub decreases-split : goal.decreases-split
decreases-split l = 2 * open_pairs (lent_inputs l.e.now) (lent_wires l.e.now) (of_sets l.sets.now)

abbrev pub decreases-visit : goal.decreases-visit
decreases-visit l = 2 * open_pairs (lent_inputs l.e.now) (lent_wires l.e.now) (of_sets l.sets.now) + 1
