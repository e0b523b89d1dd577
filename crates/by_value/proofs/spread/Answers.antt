-- `spread` meets its contract: tried for each number that there is.
use Prim.Native.Nat.{◌*◌}
use lib.Bits.{and_le_r}
use Rattle.lanes.specs.Inner.Lanes.{each_lane}
use Rattle.by_value.proofs.Spreads.{copies, spread_taken}
use Rattle.by_value.proofs.spread.Goals as goal

pub returns : goal.returns
returns c = (spread_taken c.args.x c.requires, and_le_r (c.args.x * copies) each_lane)
