-- `output_words` meets its contract: the outputs passed have their words, and the others 0.
use Prim.Native.Nat.{ℕ, ◌-◌, ◌<◌, ◌≤◌}
use mathlib.Core.Path.{◌≡◌}
use lib.ListN.{length, get_or}
use Rattle.sheet.specs.Limits.{max_outputs}
use Rattle.unit.proofs.gates.output_words.Given as goal

abbrev pub invariant-loop-i : goal.invariant-loop-i
invariant-loop-i l = ((k : ℕ) → k < l.i → get_or l.words k 0 ≡ get_or l.signals (get_or l.numbers k 0) 0) × ((k : ℕ) → l.i ≤ k → get_or l.words k 0 ≡ 0)
    × (l.i ≤ l.i-end) × (length l.words ≡ max_outputs)

abbrev pub decreases-loop-i : goal.decreases-loop-i
decreases-loop-i l = l.i-end - l.i
