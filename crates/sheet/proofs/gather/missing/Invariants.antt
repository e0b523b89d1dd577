use Prim.Native.Nat.{ℕ, ◌-◌, ◌≤◌, ◌<◌}
use mathlib.Core.Bool.{not}
use lib.Dec.{T, eqb}
use lib.ListN.{get_or}
use Rattle.sheet.specs.Gathered.{no_mark}
use Rattle.sheet.proofs.gather.missing.Given as goal

abbrev pub invariant-loop-p : goal.invariant-loop-p
invariant-loop-p l = (l.p ≤ l.count) × ((q : ℕ) → q < l.p → T (not (eqb (get_or l.marks q 0) no_mark)))

abbrev pub decreases-loop-p : goal.decreases-loop-p
decreases-loop-p l = l.count - l.p
