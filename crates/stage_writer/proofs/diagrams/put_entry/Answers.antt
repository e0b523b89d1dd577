-- `put_entry` meets its contract: a node's halves are tables, so that each has its number.
use Rattle.std.proofs.Common.{arith}
use Rattle.table.proofs.Halves.{low_lt, high_lt}
use Rattle.stage_writer.proofs.diagrams.put_entry.Goals as goal

pub number_of-for_zero-requires : goal.number_of-for_zero-requires
number_of-for_zero-requires c = (c.requires.0, omega arith, rw c.halves-low.ensures.0 (low_lt _ _))

pub number_of-for_one-requires : goal.number_of-for_one-requires
number_of-for_one-requires c = (c.requires.0, omega arith, rw c.halves-low.ensures.1 (high_lt _ _ c.requires.2.bound))
