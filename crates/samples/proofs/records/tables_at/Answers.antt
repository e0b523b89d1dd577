-- `tables_at` meets its contract: each table is the number at its place.
use Rattle.std.proofs.Common.{◌+◌, ◌*◌, rules}
use Rattle.base.proofs.FromFn.{from_fn_tabulate}
use Rattle.samples.specs.Inner.Records.{eight_at}
use Rattle.samples.proofs.records.tables_at.Goals as goal

pub returns : goal.returns
returns c = from_fn_tabulate c.from_fn.ensures.items (λ i. eight_at c.args.s.now (c.args.from + 8 * i)) (λ i y after called. (search rules, search rules))
