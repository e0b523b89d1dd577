-- `choose` meets its contract: where t has a 1 the second number's bit comes through.
use Rattle.lanes.proofs.Chosen.{choose_bit}
use Rattle.lanes.proofs.choose.Goals as goal

pub returns : goal.returns
returns c = choose_bit c.args.t c.args.zero c.args.one
