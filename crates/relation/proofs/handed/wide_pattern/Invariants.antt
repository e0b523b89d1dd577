-- `wide_pattern` meets its contract: no set passed is too wide.
use mathlib.Core.Path.{◌≡◌}
use mathlib.Core.Bool.{not}
use Prim.Native.Nat.{ℕ, ◌-◌, ◌<◌, ◌≤◌, ◌^◌}
use lib.Dec.{T, leb}
use lib.ListN.{get_or}
use Rattle.relation.proofs.handed.wide_pattern.Given as goal

abbrev pub invariant-loop-p : goal.invariant-loop-p
invariant-loop-p l = (l.p ≤ 2 ^ l.n) × (l.limit ≡ 2 ^ (2 ^ l.m)) × ((q : ℕ) → q < l.p → T (not (leb (2 ^ (2 ^ l.m)) (get_or l.sets q 0))))

abbrev pub decreases-loop-p : goal.decreases-loop-p
decreases-loop-p l = 2 ^ l.n - l.p
