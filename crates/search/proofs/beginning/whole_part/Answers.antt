-- `whole_part` makes the picks of all wires: what is carried of the whole relation.
use borrow.Author.Rules.{rules}
use mathlib.Core.Path.{refl, ◌∙◌}
use native.Mathlib.Omega.{arith}
use lib.ListN.{get_or}
use mir.Val.{Fits}
use mir.Syntax.{w16}
use Rattle.parts.specs.Inner.Masks.{Halved}
use Rattle.parts.proofs.Lending.{board_small, inputs_told, inputs_few}
use Rattle.search.proofs.WholePicks.{all_below, none_few, none_sum, whole_cover, is_some, whole_carried}
use Rattle.search.proofs.beginning.whole_part.Goals as goal

pub overflow_cast-e : goal.overflow_cast-e
overflow_cast-e c = omega (arith, board_small c.requires.0)

pub pairs_of-words-requires : goal.pairs_of-words-requires
pairs_of-words-requires c = let q = c.requires in
    let en = inputs_told c.args.e.now c.inputs_of.ensures in
    (rw en (inputs_few q.0), rw en q.2.past)

pub again-requires : goal.again-requires
again-requires c =
    let q = c.requires in
    let w = c.masks_of-masks.ensures.0 ∙ c.pairs_of-words.ensures in
    (q.0, whole_cover q.0 q.1 q.2 c.masks_of-masks.result w, λ i l. omega (arith, q.3 i l), all_below, omega arith, none_few, rw none_sum (omega arith))

pub unwrap-found-requires : goal.unwrap-found-requires
unwrap-found-requires c =
    let q = c.requires in
    is_some q.0 q.1 q.2 c.masks_of-masks.result (c.masks_of-masks.ensures.0 ∙ c.pairs_of-words.ensures) q.3 refl c.again.ensures

pub returns : goal.returns
returns c =
    let q = c.requires in
    let m = c.masks_of-masks in
    let halved : Halved m.result = λ i. let h : Fits w16 (get_or m.result i 0) = search rules in h.fits in
    whole_carried q.0 q.1 q.2 m.result (m.ensures.0 ∙ c.pairs_of-words.ensures) q.3 refl c.again.ensures c.unwrap-found.ensures m.ensures.1 halved
