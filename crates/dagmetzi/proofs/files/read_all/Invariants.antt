-- No more bytes are read than the buffer has.
use Rattle.std.proofs.Common.{◌≤◌, length}
use Rattle.dagmetzi.proofs.files.read_all.Given as goal

abbrev pub invariant-loop : goal.invariant-loop
invariant-loop g l = l.done ≤ length l.buffer
