-- `row_of` meets its contract: the four numbers of the row side by side.
use Prim.Native.Nat.{◌/◌}
use Rattle.parts.specs.Inner.Masks.{row_patterns}
use Rattle.parts.proofs.MaskRows.{row_made}
use Rattle.parts.proofs.masks.row_of.Goals as goal

pub returns : goal.returns
returns c =
    let i = c in
    row_made i.args.masks.now (i.args.p / row_patterns) c.row_place-at.ensures.0
    c.half_at.ensures.0 c.half_at-2.ensures.0 c.half_at-3.ensures.0 c.half_at-4.ensures.0
