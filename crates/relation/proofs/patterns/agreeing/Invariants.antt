-- `agreeing` meets its contract: the sets passed are those of the meaning, and past the last pattern they are empty before and after.
use Prim.Native.Nat.{ℕ}
use mathlib.Core.List.{List}
use Rattle.relation.specs.Inner.Members.{with_bit}
use Rattle.table.specs.Bits.{bit}
use mathlib.Core.Path.{◌≡◌}
use Prim.Native.Nat.{◌-◌, ◌≤◌}
use lib.ListN.{length, get_or}
use Rattle.sheet.specs.Limits.{max_patterns}
use Rattle.relation.proofs.Fronts.{Front}
use Rattle.relation.proofs.patterns.agreeing.Given as goal

-- the set of pattern q once wire j has table t
abbrev pub agrees_on : List ℕ → ℕ → ℕ → ℕ → ℕ
agrees_on sets j t q = with_bit (get_or sets q 0) j (bit t q)

abbrev pub invariant-loop-p : goal.invariant-loop-p
invariant-loop-p l = (l.p ≤ l.count) × (length l.next ≡ max_patterns) × Front l.p (agrees_on l.sets l.j l.t) (λ q. get_or l.sets q 0) l.next

abbrev pub decreases-loop-p : goal.decreases-loop-p
decreases-loop-p l = l.count - l.p
