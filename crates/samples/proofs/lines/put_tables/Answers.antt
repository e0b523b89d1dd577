use Rattle.std.proofs.Common.{◌≡◌, arith}
use Rattle.text.proofs.Pages.{adds_none, adds_then, adds_widened}
use Rattle.samples.proofs.Tables.{tables_none, tables_more, tables_all}
use Rattle.samples.proofs.lines.put_tables.Goals as goal

pub loop-x-init : goal.loop-x-init
loop-x-init c = rw (tables_none c.args.tables) adds_none

pub loop-x-preserved : goal.loop-x-preserved
loop-x-preserved c =
    let l = c.loop-x in
    rw (tables_more c.args.tables l.x-index) (adds_widened (adds_then l.invariant c.put_spaced.ensures) (omega arith))

pub returns : goal.returns
returns c =
    let all : c.loop-x.x-index ≡ 4 = omega arith in
    rw (← tables_all c.args.tables) (rw all at c.loop-x.invariant)
