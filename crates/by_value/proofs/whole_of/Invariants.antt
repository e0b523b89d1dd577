-- `whole_of` meets its contract: one pattern after the other is put in.
use mathlib.Core.Path.{◌≡◌}
use Rattle.by_value.specs.Inner.ByValue.{filled}
use Rattle.by_value.proofs.Words.{value_words_to}
use Rattle.by_value.proofs.whole_of.Given as goal

abbrev pub invariant-loop-p : goal.invariant-loop-p
invariant-loop-p l = l.words ≡ value_words_to l.p (filled l.count l.sets)
