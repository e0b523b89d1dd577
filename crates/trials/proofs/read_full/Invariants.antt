-- No more bytes are read than the buffer has. Assumes nothing.
use Rattle.std.proofs.Common.{◌≤◌, length}
use Rattle.trials.proofs.read_full.Given as goal

abbrev pub invariant-loop : goal.invariant-loop
invariant-loop g l = l.done ≤ length l.buffer
