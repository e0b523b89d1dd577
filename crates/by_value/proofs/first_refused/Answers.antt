-- `first_refused` meets its contract: the lowest bit of the contrary number, unless there is none.
use mathlib.Core.Path.{sym}
use Rattle.by_value.proofs.Refused.{all_fine, found}
use Rattle.by_value.proofs.first_refused.Goals as goal

pub returns-then-fine-eq-EVERY_PATTERN : goal.returns-then-fine-eq-EVERY_PATTERN
returns-then-fine-eq-EVERY_PATTERN c = sym (all_fine c.args.fine c.if-fine-eq-EVERY_PATTERN.true)

pub returns-else-fine-eq-EVERY_PATTERN : goal.returns-else-fine-eq-EVERY_PATTERN
returns-else-fine-eq-EVERY_PATTERN c = found c.args.fine c.requires c.if-fine-eq-EVERY_PATTERN.false
