-- `alike` meets its contract: what is found so far is the set of the values on which the outputs passed are the same.
use Prim.Native.Nat.{◌-◌, ◌≤◌}
use mathlib.Core.Path.{◌≡◌}
use lib.ListN.{get_or}
use Rattle.table.specs.Bits.{all}
use Rattle.sheet.specs.Limits.{max_outputs, max_values}
use Rattle.unit.specs.Inner.Forming.{same_bit}
use Rattle.unit.proofs.Members.{told}
use Rattle.unit.proofs.sets.alike.Given as goal

abbrev pub invariant-loop-i : goal.invariant-loop-i
invariant-loop-i l = (l.i ≤ max_outputs) × (l.found ≡ told max_values (λ v. all l.i (λ k. same_bit (get_or l.outputs k 0) l.u v)))

abbrev pub decreases-loop-i : goal.decreases-loop-i
decreases-loop-i l = max_outputs - l.i
