use borrow.Author.Rules.{rules}
use Prim.Native.Nat.{◌<◌}
use mathlib.Core.Path.{◌≡◌, refl, ap, ◌∙◌}
use native.Mathlib.Omega.{arith}
use Rattle.sheet.specs.Limits.{max_patterns}
use Rattle.table.specs.Bits.{tabulate}
use Rattle.by_value.specs.Inner.ByValue.{section_words, all_words, added, filled, with_set}
use Rattle.by_value.proofs.SectionSums.{to_none}
use Rattle.by_value.proofs.Words.{value_words_to, to_room, to_more, to_all}
use Rattle.by_value.proofs.whole_of.Goals as goal

pub loop-p-init : goal.loop-p-init
unfolding tabulate
loop-p-init c =
    let sets = filled c.args.count c.args.sets.now in
    let e : tabulate all_words (λ _. 0) ≡ value_words_to 0 sets = to_none added all_words section_words sets (λ _. 0) (λ _. refl) in
    e

pub put_set-requires : goal.put_set-requires
put_set-requires c =
    let l = c.loop-p in
    let a = c.args in
    let sets = filled a.count a.sets.now in
    let lp : l.p < max_patterns = search rules in
    (lp, to_room l.p sets l.words lp l.invariant)

pub loop-p-preserved : goal.loop-p-preserved
loop-p-preserved c =
    let l = c.loop-p in
    let a = c.args in
    let sets = filled a.count a.sets.now in
    c.put_set.ensures ∙ ap (with_set l.words l.p) c.set_at.ensures ∙ to_more l.p sets l.words (omega arith) l.invariant

pub returns : goal.returns
returns c =
    let l = c.loop-p in
    let s = c in
    let e : l.p ≡ s.args.seen = omega arith in
    let sets = filled s.args.count s.args.sets.now in
    to_all s.args.seen sets l.words s.requires.0 s.requires.1 (l.invariant ∙ ap (λ p. value_words_to p sets) e)
