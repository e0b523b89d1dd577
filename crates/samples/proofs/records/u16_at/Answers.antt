-- `u16_at` meets its contract: the number of the bytes, the lowest first.
use Rattle.std.proofs.Common.{◌∙◌}
use Rattle.samples.proofs.Numbers.{two_read}
use Rattle.samples.proofs.records.u16_at.Goals as goal

pub returns : goal.returns
returns c = rw c.bytes_at.ensures at c.from_le_bytes.ensures ∙ two_read c.args.s.now c.args.at
