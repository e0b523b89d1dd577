-- `put_spaced` meets its contract: the number, then the space.
use Rattle.samples.specs.Inner.Lines.{spaced_text}
use Rattle.text.proofs.Pages.{adds_then}
use Rattle.samples.proofs.lines.put_spaced.Goals as goal

pub returns : goal.returns
unfolding spaced_text
returns c = adds_then c.put_decimal.ensures c.put_byte.ensures
