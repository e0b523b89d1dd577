-- `join` meets its contract: its sets are those of both, its sizes those of the first.
use mathlib.Core.Path.{ap}
use Rattle.relation.specs.Joined.{join_of}
use Rattle.relation.proofs.Relation.join.Goals as goal

pub returns : goal.returns
unfolding join_of
returns c = ap (λ s. record { n = c.args.self.n; m = c.args.self.m; sets = s }) c.in_both-sets.ensures
