-- `pick4` meets its contract: the least without the inverse of input 4 and with it.
use Prim.Native.Nat.{ℕ, zero, suc, ◌+◌, ◌≤◌, min}
use mathlib.Core.Path.{◌≡◌}
use Rattle.nodes.specs.Inner.Ways.{one_node, no_inverted, way_of}
use Rattle.nodes.proofs.picks.pick4.Given as goal

-- `pick4` meets its contract: the least without the inverse of input 4 and with it.
abbrev pub turns : ℕ
turns = 2

-- more than any rank
abbrev pub no_pick : ℕ
no_pick = 0xFFFFFFFF

-- the masks of the turn that is due, and the least of the turns before it
unfoldable pub Passed : (w masks best u : ℕ) → Type 0
Passed w masks best zero = (masks ≡ no_inverted w) × (no_pick ≤ best)
Passed w masks best (suc zero) = (masks ≡ w) × (best ≡ way_of (no_inverted w))
Passed w masks best (suc (suc u)) = best ≡ min (way_of (no_inverted w)) (one_node + way_of w)

abbrev pub invariant-loop-inverses : goal.invariant-loop-inverses
invariant-loop-inverses l = Passed l.pair l.masks l.best l.inverses
