-- `u64_at` meets its contract: the number of the bytes, the lowest first.
use Rattle.std.proofs.Common.{◌∙◌}
use Rattle.samples.proofs.Numbers.{eight_read}
use Rattle.samples.proofs.records.u64_at.Goals as goal

pub returns : goal.returns
returns c = rw c.bytes_at.ensures at c.from_le_bytes.ensures ∙ eight_read c.args.s.now c.args.at
