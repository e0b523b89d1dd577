use mathlib.Core.Path.{sym, ◌∙◌}
use borrow.Author.Tests.{le-ltb}
use Rattle.sheet.specs.Limits.{word_bits}
use Rattle.sheet.proofs.Powers.{shifted, below_power}
use Rattle.sheet.proofs.limits.beyond.Goals as goal

pub returns-then-k-lt-WORD_BITS : goal.returns-then-k-lt-WORD_BITS
returns-then-k-lt-WORD_BITS c = shifted c.args.x c.args.k

pub returns-else-k-lt-WORD_BITS : goal.returns-else-k-lt-WORD_BITS
returns-else-k-lt-WORD_BITS c = le-ltb c.args.k word_bits c.if-k-lt-WORD_BITS.false ∙ sym (below_power _ word_bits _ c.ranges.x.fits c.if-k-lt-WORD_BITS.false)
