-- `bytes_at` meets its contract: each byte is that at its place.
use Rattle.std.proofs.Common.{◌+◌, rules}
use Rattle.base.proofs.FromFn.{from_fn_tabulate}
use Rattle.samples.specs.Inner.Records.{byte_at}
use Rattle.samples.proofs.records.bytes_at.Goals as goal

pub returns : goal.returns
returns g c = from_fn_tabulate c.from_fn.ensures.items (λ i. byte_at c.args.s.now (c.args.at + i)) (λ i y after called. (search rules, search rules))
