-- `no_zeros` meets its contract: its mask has in each lane the values that have the wire at 0.
use borrow.Author.Rules.{rules}
use mathlib.Core.Path.{◌∙◌}
use Prim.Native.Nat.{◌*◌}
use mir.Val.{Fits}
use mir.Syntax.{w16}
use Rattle.lanes.proofs.Projected.{kept_low, zeros_absent}
use Rattle.table.specs.Bits.{bit, sum, of_bits, is_one, all}
use Rattle.table.specs.Inner.Columns.{column_of}
use Rattle.lanes.specs.Inner.Lanes.{each_lane, lane_of, lanes_of}
use Rattle.lanes.proofs.no_zeros.Goals as goal

pub vacant-requires : goal.vacant-requires
unfolding all lane_of
vacant-requires c = kept_low (c.args.set * each_lane) _ tt

pub returns : goal.returns
unfolding lanes_of sum column_of of_bits bit is_one
returns c =
    let s = c.args.set in
    let fit : Fits w16 s = search rules in
    c.vacant.ensures ∙ zeros_absent s fit.fits _ tt
