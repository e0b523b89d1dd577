-- `signal_words` meets its contract: the signals so far are those of the gates passed.
use Prim.Native.Nat.{ℕ, ◌+◌, ◌-◌, ◌<◌, ◌≤◌}
use mathlib.Core.Path.{◌≡◌}
use lib.ListN.{length, get_or}
use Rattle.sheet.specs.Limits.{max_values}
use Rattle.table.specs.Bits.{bit, tabulate}
use Rattle.unit.proofs.Signals.{up_to}
use Rattle.sheet.specs.Commands.{no_gate}
use Rattle.unit.proofs.HeldSignals.{max_signals}
use Rattle.unit.proofs.gates.signal_words.Given as goal

abbrev pub invariant-loop-i : goal.invariant-loop-i
invariant-loop-i l = (l.i ≤ l.i-end) × (length l.signals ≡ max_signals)
    × ((v : ℕ) → v < max_values → (q : ℕ) → q < l.m + l.i → bit (get_or l.signals q 0) v ≡ get_or (up_to (tabulate l.m (bit v)) (λ i. get_or l.gates i no_gate) l.i) q 0)

abbrev pub decreases-loop-i : goal.decreases-loop-i
decreases-loop-i l = l.i-end - l.i
