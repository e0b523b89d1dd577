-- `put_hex_pairs` meets its contract. The loop's invariant: the pairs of the bytes passed are put.
use Prim.Native.Nat.{◌*◌}
use lib.ListN.{take}
use Rattle.text.specs.Inner.Page.{Adds}
use Rattle.text.specs.Text.{further_pairs}
use Rattle.text.proofs.Page.put_hex_pairs.Given as goal

abbrev pub invariant-loop-b : goal.invariant-loop-b
invariant-loop-b l = Adds (3 * l.b-index) (further_pairs (take l.b-index l.further)) l.initial.self l.self
