-- `audit_shared` meets its contract: it is `audit_on` on the board that shares.
use Rattle.quote.proofs.audit_shared.Goals as goal

pub returns : goal.returns
returns c = c.audit_on.ensures
