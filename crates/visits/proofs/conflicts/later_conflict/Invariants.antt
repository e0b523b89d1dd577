-- `later_conflict`: the sections from the second up to q are without conflict.
use Rattle.visits.proofs.Clearing.{PassedLater}
use Rattle.visits.proofs.conflicts.later_conflict.Given as goal

abbrev pub invariant-loop-q : goal.invariant-loop-q
invariant-loop-q l = PassedLater l.state l.count l.q
