-- `clear_past` meets its contract: the sets passed are those of the meaning, and none is left past them.
use mathlib.Core.Path.{◌≡◌}
use Prim.Native.Nat.{◌-◌, ◌≤◌}
use lib.ListN.{length, get_or}
use Rattle.sheet.specs.Limits.{max_patterns}
use Rattle.relation.proofs.Fronts.{Front}
use Rattle.relation.proofs.patterns.clear_past.Given as goal

abbrev pub invariant-loop-p : goal.invariant-loop-p
invariant-loop-p l = (l.p ≤ l.p-end) × (length l.next ≡ max_patterns) × Front l.p (λ q. get_or l.sets q 0) (λ _. 0) l.next

abbrev pub decreases-loop-p : goal.decreases-loop-p
decreases-loop-p l = l.p-end - l.p
