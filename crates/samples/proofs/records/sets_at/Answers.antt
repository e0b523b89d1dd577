-- `sets_at` meets its contract: each set is the number at its place.
use Rattle.std.proofs.Common.{◌+◌, ◌*◌, rules}
use Rattle.base.proofs.FromFn.{from_fn_tabulate}
use Rattle.samples.specs.Inner.Records.{two_at}
use Rattle.samples.proofs.records.sets_at.Goals as goal

pub returns : goal.returns
returns c = from_fn_tabulate c.from_fn.ensures.items (λ i. two_at c.args.s.now (c.args.from + 2 * i)) (λ i y after called. (search rules, search rules))
