use Prim.Native.Nat.{◌+◌, ◌<◌}
use mathlib.Core.Path.{◌≡◌, ◌∙◌}
use native.Mathlib.Omega.{arith}
use Rattle.sheet.specs.Limits.{max_patterns}
use Rattle.table.specs.Bits.{tabulate}
use Rattle.parts.specs.Inner.Words.{word_count}
use Rattle.parts.proofs.WordSums.{pairs_to, pairs_none, pairs_room, pairs_more, alone, alone_none, alone_at, alone_other, alone_all}
use Rattle.parts.proofs.pairs.pair_of.Goals as goal

pub loop-p-init : goal.loop-p-init
unfolding tabulate
loop-p-init c =
    let e : tabulate word_count (λ _. 0) ≡ pairs_to c.args.sets.now (alone 0 c.args.j) = pairs_none c.args.sets.now (alone 0 c.args.j) (alone_none c.args.j) in
    e

pub put_in-requires : goal.put_in-requires
put_in-requires c =
    let i = c in
    let l = c.loop-p in
    let b : l.p < max_patterns = omega (arith, c.patterns_of-count.ensures.1) in
    (b, i.requires.1, pairs_room i.args.sets.now (alone l.p i.args.j) l.p i.args.j b i.requires.1 l.invariant (alone_at l.p i.args.j))

pub loop-p-preserved : goal.loop-p-preserved
loop-p-preserved c =
    let i = c in
    let l = c.loop-p in
    let j = i.args.j in
    let b : l.p < max_patterns = omega (arith, c.patterns_of-count.ensures.1) in
    pairs_more i.args.sets.now (alone l.p j) l.p j b i.requires.1 l.invariant (alone_at l.p j) (alone (l.p + 1) j) (alone_at (l.p + 1) j) (alone_other l.p j) c.put_in.ensures

pub returns : goal.returns
returns c =
    let i = c in
    let l = c.loop-p in
    l.invariant ∙ alone_all i.args.n l.p i.args.sets.now i.args.j i.requires.2 (omega (arith, c.patterns_of-count.ensures.2 i.requires.0))
