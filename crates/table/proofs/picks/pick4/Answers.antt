-- `pick4` meets its contract: the bytes of the pair are places, and so are two of them bit by bit together; the line stands for two halves where the pair has
-- what it needs.
use Prim.Native.Nat.{◌+◌, ◌*◌, min}
use mathlib.Core.Path.{◌≡◌}
use native.Mathlib.Omega.{arith}
use lib.Bits.{bit_and}
use lib.Dec.{eqb}
use Rattle.table.specs.Cells.{full}
use Rattle.table.specs.Pick.{least_of}
use Rattle.table.specs.Inner.Ranks.{masked, narrow_space, pick_key}
use Rattle.table.specs.Inner.Pairs.{zeros_in, ones_in}
use Rattle.table.specs.Inner.Blocks.{three_space, no_table, PickShown}
use Rattle.table.specs.Inner.Lines.{line, needs_of_four, line_by}
use Rattle.table.proofs.Entries.{shown_some, line_choice, twice_shown, pair_shown, twice_most}
use Rattle.table.proofs.Places.{four_places}
use Rattle.table.proofs.picks.pick4.Goals as goal

pub returns : goal.returns
unfolding line full
returns c =
    let l = c.line_or in
    let d = c.pick3-c in
    let b = c.pick3-b in
    let a = c.pick3-a in
    let w = c.args.pair in
    let two = pair_shown three_space a.result b.result in
    let told : l.result ≡ line_by w needs_of_four (narrow_space + line 3) two = l.ensures in
    let least : c.min.result ≡ min (twice_shown three_space d.result) l.result = c.min.ensures in
    let s = four_places w a.result b.result d.result (omega arith) a.ensures.0 b.ensures.0 d.ensures.0 in
    let e = line_choice (eqb (bit_and w needs_of_four) needs_of_four) (narrow_space + line 3) (no_table * narrow_space) (twice_shown three_space d.result) two
    (omega (arith, d.ensures.2)) (omega (arith, a.ensures.1, b.ensures.1)) in
    let r : PickShown 4 narrow_space (zeros_in w) (ones_in w) c.min.result = rw (least, told, e) s in (
      r,
      shown_some 4 narrow_space (least_of (pick_key 4) 4 (masked (zeros_in w) (ones_in w))) c.min.result r,
      omega (arith, least, twice_most three_space no_table d.result (omega arith) d.ensures.2),
    )
