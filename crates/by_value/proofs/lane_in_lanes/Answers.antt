-- `lane_in_lanes` meets its contract: the lane that was taken is put into each lane.
use mathlib.Core.Path.{ap, ◌∙◌}
use Rattle.table.specs.Bits.{bit}
use Rattle.lanes.proofs.Lanes.{lane_bit}
use Rattle.by_value.proofs.lane_in_lanes.Goals as goal

pub returns : goal.returns
returns c i p li lp =
    let a = c.args in
    c.in_lanes.ensures i p li lp ∙ ap (λ y. bit y p) c.lane.ensures.0 ∙ lane_bit a.x a.j p lp
