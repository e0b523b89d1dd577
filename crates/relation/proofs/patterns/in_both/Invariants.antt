-- `in_both` meets its contract: the sets passed are those of both.
use mathlib.Core.Path.{◌≡◌}
use Prim.Native.Nat.{ℕ, ◌-◌, ◌<◌, ◌≤◌}
use lib.Bits.{bit_and}
use lib.ListN.{length, get_or}
use Rattle.sheet.specs.Limits.{max_patterns}
use Rattle.relation.proofs.patterns.in_both.Given as goal

abbrev pub invariant-loop-at : goal.invariant-loop-at
invariant-loop-at l = (l.at ≤ max_patterns) × (length l.both ≡ max_patterns) × ((q : ℕ) → q < l.at → get_or l.both q 0 ≡ bit_and (get_or l.first q 0) (get_or l.second q 0))

abbrev pub decreases-loop-at : goal.decreases-loop-at
decreases-loop-at l = max_patterns - l.at
