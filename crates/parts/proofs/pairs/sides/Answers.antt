-- `sides` meets its contract: the bits that occur.
use mathlib.Core.Path.{ap₂, ◌∙◌}
use Rattle.parts.specs.Inner.Pairs.{bits_of, sides_of}
use Rattle.parts.proofs.pairs.sides.Goals as goal

pub returns : goal.returns
unfolding sides_of
returns c = (c.bits_of.ensures.0 ∙ ap₂ bits_of c.has.ensures c.has-2.ensures, c.bits_of.ensures.1)
