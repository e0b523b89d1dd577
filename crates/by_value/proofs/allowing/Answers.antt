-- `allowing` meets its contract: two choices find the word, two the lane.
use native.Mathlib.Omega.{arith}
use Rattle.by_value.proofs.Chosen.{chosen_allowed}
use Rattle.by_value.proofs.allowing.Goals as goal

pub returns : goal.returns
returns c =
    let w = c in
    let a = w.args in (
      omega arith,
      λ p lp. chosen_allowed a.a a.b a.c a.d a.tables p lp w.lane_in_lanes-wire_3.result w.lane_in_lanes-wire_2.result
          w.lane_in_lanes-wire_1.result c.choose.result c.choose-2.result
          c.choose-four.result c.choose-two.result c.choose-3.result w.lane_in_lanes-wire_3.ensures w.lane_in_lanes-wire_2.ensures
          w.lane_in_lanes-wire_1.ensures c.choose.ensures c.choose-2.ensures
          c.choose-four.ensures c.choose-two.ensures c.choose-3.ensures,
    )
