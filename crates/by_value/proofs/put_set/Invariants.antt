-- `put_set`: the words below k have the pattern put in.
use mathlib.Core.Path.{◌≡◌}
use Rattle.by_value.proofs.Puts.{with_first}
use Rattle.by_value.proofs.put_set.Given as goal

abbrev pub invariant-loop-k : goal.invariant-loop-k
invariant-loop-k l = l.words ≡ with_first l.initial.words l.p l.set l.k
