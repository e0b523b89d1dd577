-- `empty_pattern` meets its contract: no set passed is 0.
use mathlib.Core.Bool.{not}
use Prim.Native.Nat.{ℕ, ◌-◌, ◌<◌, ◌≤◌, ◌^◌}
use lib.Dec.{T, eqb}
use lib.ListN.{get_or}
use Rattle.relation.proofs.handed.empty_pattern.Given as goal

abbrev pub invariant-loop-p : goal.invariant-loop-p
invariant-loop-p l = (l.p ≤ 2 ^ l.n) × ((q : ℕ) → q < l.p → T (not (eqb (get_or l.sets q 0) 0)))

abbrev pub decreases-loop-p : goal.decreases-loop-p
decreases-loop-p l = 2 ^ l.n - l.p
