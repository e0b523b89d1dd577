-- `section_of` meets its contract.
use mathlib.Core.Path.{refl}
use Rattle.relation.specs.Inner.Side.{section}
use Rattle.relation.proofs.Side.{section_lt}
use Rattle.relation.proofs.patterns.section_of.Goals as goal

pub returns : goal.returns
unfolding section
returns c = (refl, section_lt c.args.table c.args.q)
