-- `put_tables` meets its contract. The loop's invariant: the tables passed are put, each with its space.
use Rattle.std.proofs.Common.{◌*◌}
use Rattle.text.specs.Inner.Page.{Adds}
use Rattle.samples.specs.Inner.Lengths.{longest_spaced}
use Rattle.samples.proofs.Tables.{first_tables}
use Rattle.samples.proofs.lines.put_tables.Given as goal

abbrev pub invariant-loop-x : goal.invariant-loop-x
invariant-loop-x l = Adds (l.x-index * longest_spaced) (first_tables l.x-index l.fn.tables) l.initial.page l.page
