-- `pick_at` meets its contract: on a wide board the pick of all words, on any other that of the first, which leaves the state as it was.
use Prim.Native.Nat.{◌<◌}
use mathlib.Core.Path.{refl, sym, ◌∙◌}
use native.Mathlib.Omega.{arith}
use lib.Dec.{leb→le, nleb→lt}
use Rattle.base.proofs.Tests.{told_yes, told_no}
use Rattle.parts.specs.Inner.Boards.{wide_mark, board_in}
use Rattle.parts.specs.Inner.Masks.{words_of}
use Rattle.parts.proofs.MaskRows.{words_told}
use Rattle.parts.proofs.RestPut.{rest_kept, rest_wide}
use Rattle.parts.proofs.LentPicks.{lent_byte, narrow_inputs_lem, one_word, rank_side}
use Rattle.parts.proofs.picks.pick_at.Goals as goal

pub overflow_cast-board : goal.overflow_cast-board
unfolding board_in
overflow_cast-board c =
    let i = c in
    record { fits = omega (arith, lent_byte i.args.e.now i.requires.0) }

pub pick_narrow-requires : goal.pick_narrow-requires
unfolding board_in
pick_narrow-requires c =
    let i = c in
    let e = i.args.e.now in
    let masks = i.args.masks.now in
    let j = i.args.j in
    let low : board_in e < wide_mark = omega (arith, c.if-board-eq-NARROW_INPUTS.true) in
    let few = narrow_inputs_lem e i.requires.0 (board_in e) refl low in
    let ex = c.pair_at.ensures ∙ sym (words_told masks 0 j (omega arith) i.requires.1) in
    let one = one_word e i.requires.0 (words_of masks) j _ few i.requires.2 ex in
    (i.requires.0, sym c.if-board-eq-NARROW_INPUTS.true, omega arith, one.0, one.1, one.2)

pub returns-then-board-eq-NARROW_INPUTS : goal.returns-then-board-eq-NARROW_INPUTS
unfolding board_in
returns-then-board-eq-NARROW_INPUTS c =
    let i = c in
    let e = i.args.e.now in
    let masks = i.args.masks.now in
    let j = i.args.j in
    let low : board_in e < wide_mark = omega (arith, c.if-board-eq-NARROW_INPUTS.true) in
    let few = narrow_inputs_lem e i.requires.0 (board_in e) refl low in
    let ex = c.pair_at.ensures ∙ sym (words_told masks 0 j (omega arith) i.requires.1) in
    (rank_side e i.requires.0 (words_of masks) j _ few i.requires.2 ex c.pick_narrow.ensures, rest_kept i.args.state.now j _ e low)

pub pick_wide-requires : goal.pick_wide-requires
unfolding board_in
pick_wide-requires c =
    let i = c in
    (i.requires.0, refl, leb→le wide_mark _ (told_yes c.is_wide.ensures c.if-is_wide.true), i.requires.1, i.requires.2)

pub returns-then-is_wide : goal.returns-then-is_wide
unfolding board_in
returns-then-is_wide c =
    let i = c in
    let high = leb→le wide_mark _ (told_yes c.is_wide.ensures c.if-is_wide.true) in
    (c.pick_wide.ensures.0, rest_wide i.args.e.now high c.pick_wide.ensures.1)

pub pick_narrow-requires-2 : goal.pick_narrow-requires-2
unfolding board_in
pick_narrow-requires-2 c =
    let i = c in
    let e = i.args.e.now in
    let masks = i.args.masks.now in
    let j = i.args.j in
    let low : board_in e < wide_mark = nleb→lt wide_mark _ (told_no c.is_wide.ensures c.if-is_wide.false) in
    let few = narrow_inputs_lem e i.requires.0 (board_in e) refl low in
    let ex = c.pair_at-2.ensures ∙ sym (words_told masks 0 j (omega arith) i.requires.1) in
    let one = one_word e i.requires.0 (words_of masks) j _ few i.requires.2 ex in
    (i.requires.0, refl, low, one.0, one.1, one.2)

pub returns : goal.returns
unfolding board_in
returns c =
    let i = c in
    let e = i.args.e.now in
    let masks = i.args.masks.now in
    let j = i.args.j in
    let low : board_in e < wide_mark = nleb→lt wide_mark _ (told_no c.is_wide.ensures c.if-is_wide.false) in
    let few = narrow_inputs_lem e i.requires.0 (board_in e) refl low in
    let ex = c.pair_at-2.ensures ∙ sym (words_told masks 0 j (omega arith) i.requires.1) in
    (rank_side e i.requires.0 (words_of masks) j _ few i.requires.2 ex c.pick_narrow-2.ensures, rest_kept i.args.state.now j _ e low)
