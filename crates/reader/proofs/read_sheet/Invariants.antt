use Prim.Native.Nat.{◌-◌, ◌≤◌}
use mathlib.Core.Path.{◌≡◌}
use lib.ListN.{length}
use Rattle.reader.proofs.Turns.{Going}
use Rattle.reader.proofs.read_sheet.Given as goal

abbrev pub invariant-loop : goal.invariant-loop
invariant-loop l = (l.counter ≤ l.end) × (l.end ≡ length l.s) × Going l.s (length l.s - l.counter) l.sheet l.reader

abbrev pub decreases-loop : goal.decreases-loop
decreases-loop l = l.end - l.counter
