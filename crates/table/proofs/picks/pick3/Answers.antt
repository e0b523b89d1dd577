-- `pick3` meets its contract: the blocks at two places and at both together, and the line that stands for two blocks where the pair has what it needs.
use Prim.Native.Nat.{◌+◌, ◌/◌, ◌%◌, min}
use mathlib.Core.Path.{◌≡◌}
use native.Mathlib.Omega.{arith}
use lib.Bits.{bit_and}
use lib.Dec.{eqb}
use Rattle.table.specs.Cells.{full}
use Rattle.table.specs.Pick.{least_of}
use Rattle.table.specs.Inner.Ranks.{masked, pick_key}
use Rattle.table.specs.Inner.Blocks.{entries, three_space, no_entry, zeros_at, ones_at, HalvesShow}
use Rattle.table.specs.Inner.Lines.{line, needs_of_three, line_by}
use Rattle.table.proofs.Entries.{shown_some, two_blocks, line_choice}
use Rattle.table.proofs.Places.{three_places}
use Rattle.table.proofs.picks.pick3.Goals as goal

pub returns : goal.returns
unfolding line full
returns c =
    let l = c.line_or in
    let d = c.block-c in
    let b = c.block-b in
    let a = c.block-a in
    let w = c.args.pair in
    let two = two_blocks a.result b.result in
    let told : l.result ≡ line_by w needs_of_three (three_space + line 2) two = l.ensures in
    let least : c.min.result ≡ min d.result l.result = c.min.ensures in
    let s = three_places w a.result b.result d.result a.ensures.0 b.ensures.0 d.ensures.0 in
    let e = line_choice (eqb (bit_and w needs_of_three) needs_of_three) (three_space + line 2) no_entry d.result two d.ensures.2
    (omega (arith, a.ensures.1, b.ensures.1)) in
    let low = w % entries in
    let high = w / entries % entries in
    let r : HalvesShow low high c.min.result = rw (least, told, e) s in
    (r, shown_some 3 three_space (least_of (pick_key 3) 3 (masked (zeros_at low high) (ones_at low high))) c.min.result r, omega (arith, least, d.ensures.2))
