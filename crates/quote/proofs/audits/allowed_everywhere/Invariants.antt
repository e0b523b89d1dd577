use Prim.Native.Nat.{ℕ, ◌-◌, ◌<◌, ◌≤◌}
use lib.Dec.{T}
use Rattle.sheet.specs.Limits.{max_wires}
use Rattle.relation.specs.Source.{value}
use Rattle.relation.specs.Tests.{of_sets}
use Rattle.table.specs.Cells.{wires}
use Rattle.quote.proofs.audits.allowed_everywhere.Given as goal

abbrev pub invariant-loop-p : goal.invariant-loop-p
invariant-loop-p l = (l.p ≤ l.count) × ((q : ℕ) → q < l.p → T (of_sets l.sets q (value max_wires (wires l.tables) q)))

abbrev pub decreases-loop-p : goal.decreases-loop-p
decreases-loop-p l = l.count - l.p
