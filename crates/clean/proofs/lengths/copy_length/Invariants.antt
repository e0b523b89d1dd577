-- `copy_length` meets its contract. The loop's invariant: the bytes of the patterns passed are counted.
use Prim.Native.Nat.{◌+◌, ◌*◌, ◌-◌, ◌≤◌}
use mathlib.Core.Path.{◌≡◌}
use lib.ListN.{get_or}
use Rattle.table.specs.Bits.{sum}
use Rattle.writer.specs.Inner.Widths.{longest_command}
use Rattle.clean.specs.Copy.{mark_length, limit_length}
use Rattle.clean.proofs.lengths.copy_length.Given as goal

abbrev pub invariant-loop-p : goal.invariant-loop-p
invariant-loop-p l = (l.p ≤ l.p-end)
    × (l.length ≡ l.initial.length + sum l.p (λ q. mark_length (get_or l.marks q 0)) + sum l.p (λ q. limit_length l.m (get_or l.limits q 0)))
    × (l.length ≤ l.initial.length + 2 * longest_command * l.p)

abbrev pub decreases-loop-p : goal.decreases-loop-p
decreases-loop-p l = l.p-end - l.p
