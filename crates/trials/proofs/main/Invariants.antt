-- What is held lies within the window. Assumes nothing.
use Rattle.std.proofs.Common.{◌≤◌}
use Rattle.trials.specs.Inner.Window.{window}
use Rattle.trials.proofs.main.Given as goal

abbrev pub invariant-loop : goal.invariant-loop
invariant-loop l = l.held ≤ window
