-- `put_command` meets its contract. The loop's invariant: the bytes passed are put.
use Prim.Native.Nat.{◌+◌, ◌-◌, ◌≤◌}
use mathlib.Core.Path.{◌≡◌}
use lib.ListN.{length as count, take}
use Rattle.base.specs.Inner.Put.{Put}
use Rattle.writer.proofs.put_command.Given as goal

abbrev pub invariant-loop-i : goal.invariant-loop-i
invariant-loop-i l = (l.i ≤ l.length) × (count l.out ≡ count l.initial.out) × Put l.initial.out l.at (take l.i l.bytes) l.out (l.at + l.i)

abbrev pub decreases-loop-i : goal.decreases-loop-i
decreases-loop-i l = l.length - l.i
