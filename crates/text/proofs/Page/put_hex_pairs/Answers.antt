use Rattle.std.proofs.Common.{arith}
use Rattle.std.proofs.lemmas.List.{take_all}
use Rattle.text.proofs.Pages.{adds_none, adds_then, adds_widened}
use Rattle.text.proofs.Pairs.{pairs_none, pairs_some, further_none, further_step}
use Rattle.text.proofs.Page.put_hex_pairs.Goals as goal

pub returns-in_default : goal.returns-in_default
returns-in_default c = rw (pairs_none c.args.bytes.now c.in_default.ensures.cases) adds_none

pub loop-b-init : goal.loop-b-init
loop-b-init c = rw further_none adds_none

pub loop-b-preserved : goal.loop-b-preserved
loop-b-preserved c =
    let l = c.loop-b in
    let pair = adds_then c.put_byte.ensures c.put_hex_pair-in-loop-b.ensures in
    rw (further_step c.in-Some.further.now l.b-index c.loop-b-test.true) (adds_widened (adds_then l.invariant pair) (omega arith))

pub returns : goal.returns
returns c =
    let l = c.loop-b in
    let rest = rw (take_all l.b-index c.in-Some.further.now c.loop-b-test.false) at l.invariant in
    rw (c.in-Some.ensures.cases.0, pairs_some) (adds_widened (adds_then c.put_hex_pair.ensures rest) (omega arith))
