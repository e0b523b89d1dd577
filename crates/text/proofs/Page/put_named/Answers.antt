-- `put_named` meets its contract: the name, then the number.
use Rattle.text.specs.Text.{named}
use Rattle.text.proofs.Pages.{adds_then}
use Rattle.text.proofs.Page.put_named.Goals as goal

pub returns : goal.returns
unfolding named
returns c = adds_then c.put_text.ensures c.put_decimal.ensures
