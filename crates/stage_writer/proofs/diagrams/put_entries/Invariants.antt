-- `put_entries` meets its contract. The loop's invariant: the entries of the nodes passed are stored.
use Rattle.std.proofs.Common.{take}
use Rattle.base.specs.Inner.Put.{Put}
use Rattle.diagram.specs.Bytes.{entries_bytes}
use Rattle.diagram.specs.Written.{entries_of}
use Rattle.stage_writer.specs.Inner.Listed.{nodes_of}
use Rattle.stage_writer.proofs.diagrams.put_entries.Given as goal

abbrev pub invariant-loop-k : goal.invariant-loop-k
invariant-loop-k l = Put l.initial.buffer l.at (entries_bytes (entries_of l.n (nodes_of (take l.k l.listed)))) l.buffer l.next
