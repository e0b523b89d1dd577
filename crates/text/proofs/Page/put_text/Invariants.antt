-- `put_text` meets its contract. The loop's invariant: the bytes passed are put.
use lib.ListN.{take}
use Rattle.text.specs.Inner.Page.{Adds}
use Rattle.text.proofs.Page.put_text.Given as goal

abbrev pub invariant-loop-b : goal.invariant-loop-b
invariant-loop-b l = Adds l.b-index (take l.b-index l.text) l.initial.self l.self
