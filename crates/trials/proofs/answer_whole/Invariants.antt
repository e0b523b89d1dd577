-- The place lies within the bytes, and the replies leave room for another. The measure is what is left of the bytes. Assumes nothing.
use Rattle.std.proofs.Common.{length, ◌-◌, ◌≤◌}
use Rattle.trials.specs.Inner.Window.{nearly_full}
use Rattle.trials.proofs.answer_whole.Given as goal

abbrev pub invariant-loop-at : goal.invariant-loop-at
invariant-loop-at l = (l.at ≤ length l.s) × (l.page.place ≤ nearly_full)

abbrev pub decreases-loop-at : goal.decreases-loop-at
decreases-loop-at l = length l.s - l.at
