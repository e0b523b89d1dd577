use Rattle.std.proofs.Common.{arith}
use lib.Pow.{pow_mono}
use Rattle.sheet.specs.Limits.{max_shared_inputs}
use Rattle.stage_writer.proofs.listed.Listing.of_table.Goals as goal

pub list-requires : goal.list-requires
list-requires c = (c.requires, rw c.empty-all.ensures (omega (arith, pow_mono {i = c.args.n} {j = max_shared_inputs} c.requires)))
