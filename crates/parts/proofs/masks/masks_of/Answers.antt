use borrow.Author.Rules.{rules}
use mathlib.Core.Path.{◌≡◌, subst}
use native.Mathlib.Omega.{arith}
use lib.ListN.{length}
use Rattle.parts.specs.Inner.Words.{word_count}
use Rattle.parts.proofs.MaskRows.{HalvesTo, halves_all}
use Rattle.parts.proofs.masks.masks_of.Goals as goal

pub returns : goal.returns
returns c =
    let words = c.args.words.now in
    let masks = c.loop-i.masks in
    let long : length words ≡ word_count = search rules in
    let end : c.loop-i.i ≡ word_count = omega arith in
    (halves_all words masks long (subst (HalvesTo words masks) end c.loop-i.invariant.1), c.loop-i.invariant.0)
