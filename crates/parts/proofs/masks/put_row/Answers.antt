-- `put_row` meets its contract: the lanes of the row are put one wire after the other.
use Prim.Native.Nat.{◌/◌}
use native.Mathlib.Omega.{arith}
use Rattle.parts.specs.Inner.Masks.{row_patterns}
use Rattle.parts.proofs.MaskRows.{first_place, row_put}
use Rattle.parts.proofs.masks.put_row.Goals as goal

pub returns : goal.returns
returns c =
    let i = c in
    row_put i.args.masks.now (i.args.p / row_patterns) i.args.row (omega (arith, i.requires)) i.told-masks _ (first_place (i.args.p / row_patterns) c.row_place-at.ensures.0)
    c.half_of.ensures c.half_of-2.ensures c.half_of-3.ensures c.half_of-4.ensures
