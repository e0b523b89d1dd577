-- `pairs_of` meets its contract: one pattern after the other is put into the words of all wires.
use mathlib.Core.Path.{◌≡◌}
use Rattle.parts.proofs.WordSums.{pairs_to, firsts}
use Rattle.parts.proofs.pairs.pairs_of.Given as goal

abbrev pub invariant-loop-p : goal.invariant-loop-p
invariant-loop-p l = l.words ≡ pairs_to l.sets (firsts l.p 0)

abbrev pub invariant-loop-j : goal.invariant-loop-j
invariant-loop-j l = l.words ≡ pairs_to l.sets (firsts l.p l.j)
