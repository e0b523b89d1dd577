-- `put_set` meets its contract: one word of the section after the other has the pattern put in.
use Prim.Native.Nat.{suc, ◌+◌, ◌<◌}
use mathlib.Core.Path.{◌≡◌, ap, ◌∙◌}
use native.Mathlib.Omega.{arith}
use Rattle.by_value.specs.Inner.ByValue.{section_words}
use Rattle.by_value.proofs.Puts.{with_first, first_none, first_all, first_room, first_next}
use Rattle.by_value.proofs.put_set.Goals as goal

pub loop-k-init : goal.loop-k-init
loop-k-init c = first_none c.args.words.now c.args.p c.args.set c.told-words

pub put_word-requires : goal.put_word-requires
put_word-requires c =
    let l = c.loop-k in
    let a = c.args in
    let k : l.k < section_words = omega arith in
    (c.requires.0, k, first_room a.words.now a.p a.set c.requires.0 l.k k l.invariant (c.requires.1 l.k k))

pub loop-k-preserved : goal.loop-k-preserved
loop-k-preserved c =
    let l = c.loop-k in
    let a = c.args in
    let k : l.k < section_words = omega arith in
    let e : suc l.k ≡ l.k + 1 = omega arith in
    first_next a.words.now a.p a.set c.requires.0 l.k k l.invariant c.put_word.ensures ∙ ap (with_first a.words.now a.p a.set) e

pub returns : goal.returns
returns c =
    let l = c.loop-k in
    let a = c.args in
    let e : l.k ≡ section_words = omega arith in
    l.invariant ∙ ap (with_first a.words.now a.p a.set) e ∙ first_all a.words.now a.p a.set
