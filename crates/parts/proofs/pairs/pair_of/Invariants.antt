-- `pair_of` meets its contract: one pattern after the other is put into the words of the wire.
use mathlib.Core.Path.{◌≡◌}
use Rattle.parts.proofs.WordSums.{pairs_to, alone}
use Rattle.parts.proofs.pairs.pair_of.Given as goal

abbrev pub invariant-loop-p : goal.invariant-loop-p
invariant-loop-p l = l.words ≡ pairs_to l.sets (alone l.p l.j)
