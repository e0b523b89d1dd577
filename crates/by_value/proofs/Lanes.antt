-- Laws of lanes: one number in each of them.
use Prim.Native.Nat.{ℕ, ◌+◌, ◌*◌, ◌<◌}
use mathlib.Core.Path.{◌≡◌, sym, ap, ◌∙◌}
use Rattle.sheet.specs.Limits.{max_wires}
use Rattle.table.specs.Bits.{bit}
use Rattle.lanes.specs.Inner.Lanes.{lane_bits, lane_space, each_lane, lane_of}
use Rattle.lanes.proofs.Lanes.{lane_bit, lane_lanes}
use Rattle.lanes.proofs.Empty.{each_times}

-- a lane's number times one in each lane stands in each lane
pub lanes_bit : (x : ℕ) → x < lane_space → (i p : ℕ) → i < max_wires → p < lane_bits → bit (x * each_lane) (lane_bits * i + p) ≡ bit x p
lanes_bit x l i p li lp =
    sym (lane_bit (x * each_lane) i p lp) ∙ ap (λ y. bit (lane_of y i) p) (each_times x) ∙ ap (λ y. bit y p) (lane_lanes (λ _. x) (λ _ _. l) i li)
