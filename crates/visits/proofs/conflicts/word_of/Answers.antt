-- `word_of` meets its contract: the tables of the first section are handed down, those of the others stand in the state.
use Prim.Native.Nat.{ℕ, zero, suc, ◌-◌}
use mathlib.Core.Path.{◌≡◌, ap}
use native.Mathlib.Omega.{arith}
use lib.ListN.{get_or}
use Rattle.parts.specs.declared.states.Running.{Running}
use Rattle.parts.specs.Inner.States.{side_at}
use Rattle.visits.proofs.conflicts.word_of.Goals as goal

past_first : (low : ℕ) (s : Running) (q : ℕ) → (q ≡ 0 → ⊥) → get_or s.rest (q - 1) 0 ≡ side_at low s q
unfolding side_at
past_first low s zero ne = absurd (omega (arith, ne))
past_first low s (suc i) ne = let e : suc i - 1 ≡ i = omega arith in ap (λ k. get_or s.rest k 0) e

pub returns-then-q-eq0 : goal.returns-then-q-eq0
unfolding side_at
returns-then-q-eq0 c = rw c.if-q-eq0.true

pub returns-else-q-eq0 : goal.returns-else-q-eq0
returns-else-q-eq0 c = past_first c.args.low c.args.state.now c.args.q c.if-q-eq0.false
