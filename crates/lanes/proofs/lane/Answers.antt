-- `lane` meets its contract.
use mathlib.Core.Path.{refl}
use Rattle.lanes.specs.Inner.Lanes.{lane_of}
use Rattle.lanes.proofs.Lanes.{lane_lt}
use Rattle.lanes.proofs.lane.Goals as goal

pub returns : goal.returns
unfolding lane_of
returns c = (refl, lane_lt c.args.x c.args.j)
