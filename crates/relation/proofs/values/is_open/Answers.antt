-- `is_open` meets its contract.
use mathlib.Core.Path.{sym, ◌∙◌}
use Rattle.relation.specs.Tests.{is_open}
use Rattle.relation.proofs.values.is_open.Goals as goal

pub returns-then-has : goal.returns-then-has
unfolding is_open
returns-then-has c = rw (sym c.has.ensures ∙ c.if-has.true) c.has-then-has.ensures

pub returns-else-has : goal.returns-else-has
unfolding is_open
returns-else-has c = rw (sym c.has.ensures ∙ c.if-has.false) c.if-has.false
