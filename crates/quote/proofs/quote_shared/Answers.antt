-- `quote_shared` meets its contract: it is `quote_on` on the board that shares.
use Rattle.quote.proofs.quote_shared.Goals as goal

pub returns : goal.returns
returns c = c.quote_on.ensures
