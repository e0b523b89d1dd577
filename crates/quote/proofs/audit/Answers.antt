-- `audit` meets its contract: it is `audit_on` on the board of trees.
use Rattle.quote.proofs.audit.Goals as goal

pub returns : goal.returns
returns c = c.audit_on.ensures
