-- `pairs_of` meets its contract: one pattern after the other is put into the words of all wires.
use Prim.Native.Nat.{◌+◌, ◌<◌}
use mathlib.Core.Path.{◌∙◌}
use native.Mathlib.Omega.{arith}
use Rattle.sheet.specs.Limits.{max_patterns}
use Rattle.table.specs.Bits.{tabulate}
use Rattle.parts.proofs.WordSums.{pairs_none, pairs_room, pairs_more, firsts, firsts_none, firsts_at, firsts_next, firsts_other, firsts_all}
use Rattle.parts.proofs.pairs.pairs_of.Goals as goal

pub loop-p-init : goal.loop-p-init
unfolding tabulate
loop-p-init c = pairs_none c.args.sets.now (firsts 0 0) (firsts_none 0)

pub put_in-requires : goal.put_in-requires
put_in-requires c =
    let p = c.loop-p.p in
    let l = c.loop-j in
    let b : p < max_patterns = omega (arith, c.patterns_of-count.ensures.1) in
    (b, omega arith, pairs_room c.args.sets.now (firsts p l.j) p l.j b (omega arith) l.invariant (firsts_at p l.j))

pub loop-j-preserved : goal.loop-j-preserved
loop-j-preserved c =
    let p = c.loop-p.p in
    let l = c.loop-j in
    pairs_more c.args.sets.now (firsts p l.j) p l.j (omega (arith, c.patterns_of-count.ensures.1)) (omega arith) l.invariant (firsts_at p l.j) (firsts p (l.j + 1)) (firsts_next p l.j)
    (firsts_other p l.j) c.put_in.ensures

pub returns : goal.returns
returns c =
    let i = c in
    let l = c.loop-p in
    l.invariant ∙ firsts_all i.args.n l.p i.args.sets.now i.requires.1 (omega (arith, c.patterns_of-count.ensures.2 i.requires.0))
