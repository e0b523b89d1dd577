-- `put_bytes` meets its contract. The loop's invariant: the bytes passed are written.
use Rattle.std.proofs.Common.{◌≡◌, ◌+◌, take}
use Rattle.base.specs.Inner.Put.{Put}
use Rattle.stage_writer.proofs.common.put_bytes.Given as goal

abbrev pub invariant-loop-b : goal.invariant-loop-b
invariant-loop-b l = (l.next ≡ l.at + l.b-index) × Put l.initial.buffer l.at (take l.b-index l.bytes) l.buffer l.next
