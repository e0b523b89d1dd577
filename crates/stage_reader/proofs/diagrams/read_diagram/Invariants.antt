-- `read_diagram` meets its contract. The loop's invariant: the entries so far are read.
use Rattle.stage_reader.proofs.Entries.{Gathered}
use Rattle.stage_reader.proofs.diagrams.read_diagram.Given as goal

abbrev pub invariant-loop : goal.invariant-loop
invariant-loop l = Gathered l.s l.n l.from l.counter l.at l.numbers
