-- `quote` meets its contract: it is `quote_on` on the board of trees.
use Rattle.quote.proofs.quote.Goals as goal

pub returns : goal.returns
returns c = c.quote_on.ensures
