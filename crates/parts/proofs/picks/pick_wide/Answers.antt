-- `pick_wide` meets its contract: the pick of the four words, whose first section is told and whose others are put into the state.
use mathlib.Core.Path.{sym, subst, ◌∙◌}
use mathlib.Core.Bool.{true}
use native.Mathlib.Omega.{arith}
use Rattle.parts.specs.Inner.Boards.{lent_kind, lent_inputs}
use Rattle.parts.specs.Inner.Masks.{words_of}
use Rattle.parts.specs.Inner.Picks.{pick_on}
use Rattle.parts.specs.Inner.States.{PutRest}
use Rattle.parts.proofs.MaskRows.{words_told}
use Rattle.parts.proofs.Keeping.{count_byte}
use Rattle.parts.proofs.LentPicks.{lent_few, wide_asked, wide_table, wide_cells, wide_side}
use Rattle.parts.proofs.picks.pick_wide.Goals as goal

pub wide_pick-found-requires : goal.wide_pick-found-requires
wide_pick-found-requires c =
    let i = c in
    let masks = i.args.masks.now in
    let j = i.args.j in
    let ea = c.pair_at.ensures ∙ sym (words_told masks 0 j (omega arith) i.requires.3) in
    let eb = c.pair_at-2.ensures ∙ sym (words_told masks 1 j (omega arith) i.requires.3) in
    let ec = c.pair_at-3.ensures ∙ sym (words_told masks 2 j (omega arith) i.requires.3) in
    let ed = c.pair_at-4.ensures ∙ sym (words_told masks 3 j (omega arith) i.requires.3) in
    wide_asked _ i.requires.0 _ i.requires.1 i.requires.2 (words_of masks) j ea eb ec ed i.requires.4

pub overflow_mul-result : goal.overflow_mul-result
overflow_mul-result c =
    let i = c in
    let masks = i.args.masks.now in
    let j = i.args.j in
    let ea = c.pair_at.ensures ∙ sym (words_told masks 0 j (omega arith) i.requires.3) in
    let eb = c.pair_at-2.ensures ∙ sym (words_told masks 1 j (omega arith) i.requires.3) in
    let ec = c.pair_at-3.ensures ∙ sym (words_told masks 2 j (omega arith) i.requires.3) in
    let ed = c.pair_at-4.ensures ∙ sym (words_told masks 3 j (omega arith) i.requires.3) in
    let r = c.wide_pick-found.ensures in
    let t = wide_table _ i.requires.0 _ i.requires.1 i.requires.2 (words_of masks) j ea eb ec ed r.0 in
    let few = count_byte (lent_kind i.args.e.now) (lent_inputs i.args.e.now) (pick_on i.args.e.now (words_of masks) j) (lent_few i.args.e.now i.requires.0) in
    let k = wide_cells _ i.requires.0 _ i.requires.1 i.requires.2 (words_of masks) j ea eb ec ed t r.1 in
    record { fits = omega (arith, k, few) }

pub overflow_add-result : goal.overflow_add-result
overflow_add-result c =
    let i = c in
    let masks = i.args.masks.now in
    let j = i.args.j in
    let ea = c.pair_at.ensures ∙ sym (words_told masks 0 j (omega arith) i.requires.3) in
    let eb = c.pair_at-2.ensures ∙ sym (words_told masks 1 j (omega arith) i.requires.3) in
    let ec = c.pair_at-3.ensures ∙ sym (words_told masks 2 j (omega arith) i.requires.3) in
    let ed = c.pair_at-4.ensures ∙ sym (words_told masks 3 j (omega arith) i.requires.3) in
    let r = c.wide_pick-found.ensures in
    let t = wide_table _ i.requires.0 _ i.requires.1 i.requires.2 (words_of masks) j ea eb ec ed r.0 in
    let few = count_byte (lent_kind i.args.e.now) (lent_inputs i.args.e.now) (pick_on i.args.e.now (words_of masks) j) (lent_few i.args.e.now i.requires.0) in
    let k = wide_cells _ i.requires.0 _ i.requires.1 i.requires.2 (words_of masks) j ea eb ec ed t r.1 in
    record { fits = omega (arith, k, few) }

pub returns : goal.returns
returns c =
    let i = c in
    let masks = i.args.masks.now in
    let j = i.args.j in
    let ea = c.pair_at.ensures ∙ sym (words_told masks 0 j (omega arith) i.requires.3) in
    let eb = c.pair_at-2.ensures ∙ sym (words_told masks 1 j (omega arith) i.requires.3) in
    let ec = c.pair_at-3.ensures ∙ sym (words_told masks 2 j (omega arith) i.requires.3) in
    let ed = c.pair_at-4.ensures ∙ sym (words_told masks 3 j (omega arith) i.requires.3) in
    let r = c.wide_pick-found.ensures in
    let t = wide_table _ i.requires.0 _ i.requires.1 i.requires.2 (words_of masks) j ea eb ec ed r.0 in (
      wide_side _ i.requires.0 _ i.requires.1 i.requires.2 (words_of masks) j ea eb ec ed t (wide_cells _ i.requires.0 _ i.requires.1 i.requires.2 (words_of masks) j ea eb ec ed t r.1),
      subst (λ x. PutRest true j x i.args.state.now c.put_rest.new.state) t c.put_rest.ensures,
    )
