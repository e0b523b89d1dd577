-- `in_lanes` meets its contract: the products with the lowest places stand side by side.
use Rattle.by_value.proofs.Lanes.{lanes_bit}
use Rattle.by_value.proofs.in_lanes.Goals as goal

pub returns : goal.returns
returns c = lanes_bit c.args.x c.requires
