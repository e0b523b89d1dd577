-- `put_hex_pair` meets its contract: the high digit, then the low one.
use Rattle.text.specs.Text.{hex_pair}
use Rattle.text.proofs.Pages.{adds_then}
use Rattle.text.proofs.Page.put_hex_pair.Goals as goal

pub returns : goal.returns
unfolding hex_pair
returns c = rw (← c.hex_digit.ensures, ← c.hex_digit-2.ensures) (adds_then c.put_byte.ensures c.put_byte-2.ensures)
