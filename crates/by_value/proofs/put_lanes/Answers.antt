-- `put_lanes` meets its contract: there is room for the pattern, so that nothing is carried.
use Prim.Native.Nat.{◌+◌, ◌*◌, ◌^◌}
use mathlib.Core.Path.{ap, ◌∙◌}
use Rattle.table.specs.Bits.{bit}
use Rattle.lanes.specs.Inner.Lanes.{lanes_of}
use Rattle.by_value.specs.Inner.ByValue.{added}
use Rattle.by_value.proofs.Spreads.{moved}
use Rattle.by_value.proofs.put_lanes.Goals as goal

pub returns : goal.returns
unfolding added
returns c =
    let i = c in
    ap (λ y. i.args.word + y)
    (moved i.args.word c.spread.result i.args.p c.spread.ensures.1 i.requires.2
    ∙ ap (λ y. y * 2 ^ i.args.p) (c.spread.ensures.0 ∙ ap (λ y. lanes_of (bit y)) c.values_in.ensures.0))
