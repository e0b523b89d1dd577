-- `pick5` meets its contract: the picks of two pairs and of what they have in common, and the line that stands for two halves where it fits.
use Prim.Native.Nat.{min}
use mathlib.Core.Path.{◌≡◌}
use mathlib.Core.Bool.{cond}
use native.Mathlib.Omega.{arith}
use Rattle.table.specs.Pick.{least_of}
use Rattle.table.specs.Inner.Ranks.{masked, narrow_space, pick_key}
use Rattle.table.specs.Inner.Pairs.{zeros_in, ones_in}
use Rattle.table.specs.Inner.Blocks.{no_table}
use Rattle.table.specs.Inner.Wide.{five_space, two_masks, line_fits, line_of_five, FiveShown}
use Rattle.table.proofs.Entries.{shown_some, twice_shown, pair_shown, twice_most}
use Rattle.table.proofs.SideBySide.{five_found}
use Rattle.table.proofs.wide.pick5.Goals as goal

pub returns : goal.returns
returns c =
    let l = c.five_line_or in
    let d = c.common_four-c in
    let b = c.pick4-b in
    let a = c.pick4-a in
    let i = c.args in
    let told : l.result ≡ cond (line_fits i.low i.high) line_of_five (pair_shown narrow_space a.result b.result) = l.ensures in
    let least : c.min.result ≡ min (twice_shown narrow_space d.result) l.result = c.min.ensures in
    let s = five_found i.low i.high a.result b.result d.result a.ensures.1 b.ensures.1 d.ensures.2 a.ensures.0 b.ensures.0 d.ensures.0 in
    let r : FiveShown i.low i.high c.min.result = rw (least, told) s in (
      r,
      shown_some 5 five_space
          (least_of (pick_key 5) 5 (masked (two_masks (zeros_in i.low) (zeros_in i.high)) (two_masks (ones_in i.low) (ones_in i.high)))) c.min.result r,
      omega (arith, least, twice_most narrow_space no_table d.result (omega arith) d.ensures.2),
    )
