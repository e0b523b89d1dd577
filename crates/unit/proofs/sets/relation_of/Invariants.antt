-- `relation_of` meets its contract: the patterns passed have their sets, and the others none.
use Prim.Native.Nat.{ℕ, ◌-◌, ◌<◌, ◌≤◌}
use mathlib.Core.Path.{◌≡◌}
use lib.ListN.{length, get_or}
use Rattle.sheet.specs.Limits.{max_patterns}
use Rattle.unit.specs.Formed.{set_on}
use Rattle.reader.specs.Inner.WasRead.{WasRead}
use Rattle.unit.proofs.sets.relation_of.Given as goal

abbrev pub invariant-loop-p : goal.invariant-loop-p
invariant-loop-p l = (l.p ≤ l.p-end) × (length l.sets ≡ max_patterns) × ((q : ℕ) → l.p ≤ q → get_or l.sets q 0 ≡ 0)
    × ((h : WasRead l.sheet) (q : ℕ) → q < l.p → get_or l.sets q 0 ≡ set_on h.commands q)

abbrev pub decreases-loop-p : goal.decreases-loop-p
decreases-loop-p l = l.p-end - l.p
