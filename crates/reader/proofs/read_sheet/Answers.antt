use borrow.Author.Rules.{rules}
use mathlib.Core.Path.{ap, sym, ◌∙◌}
use native.Mathlib.Omega.{arith}
use Rattle.std.proofs.Common.{Err}
use Rattle.sheet.specs.Cases.{sheet_reply}
use Rattle.base.proofs.Passing.{passed_on}
use Rattle.reader.proofs.Replies.{reply_told_lem}
use Rattle.reader.proofs.Turns.{going_first, goes_on, stops, cuts, ends}
use Rattle.reader.proofs.read_sheet.Goals as goal

pub loop-init : goal.loop-init
loop-init c = (search rules, search rules, going_first c.args.s.now _ _ c.fresh-sheet.ensures c.new-reader.ensures)

pub take_turn-requires : goal.take_turn-requires
take_turn-requires c = c.loop.invariant.2.small

pub returns-in_err-turn : goal.returns-in_err-turn
returns-in_err-turn c =
    let l = c.loop in
    let g = l.invariant.2 in
    let h = c.in_err-turn in
    ap sheet_reply (passed_on c.from_residual.result h.field-0.0 c.from_residual.ensures.1
    ∙ cuts c.args.s.now l.sheet l.reader _ _ g h.field-0.0 (omega arith)
    (sym h.was ∙ c.take_turn.ensures g.before g.gathered_is g.reader_is))
    ∙ reply_told_lem _

pub returns-in-None : goal.returns-in-None
returns-in-None c =
    let l = c.loop in
    let g = l.invariant.2 in
    let h = c.in_ok-turn in
    ap sheet_reply
    (stops c.args.s.now l.sheet l.reader _ _ g h.turn (omega arith)
    (sym h.was ∙ c.take_turn.ensures g.before g.gathered_is g.reader_is) c.in-None.is)
    ∙ reply_told_lem _

pub loop-preserved : goal.loop-preserved
loop-preserved c =
    let l = c.loop in
    let g = l.invariant.2 in
    let h = c.in_ok-turn in (
      omega arith,
      l.invariant.1,
      goes_on c.args.s.now l.sheet l.reader _ _ g h.turn _ (omega arith)
          (sym h.was ∙ c.take_turn.ensures g.before g.gathered_is g.reader_is) c.in-Some.is,
    )

pub returns : goal.returns
returns c =
    let l = c.loop in
    ap sheet_reply (ap Err c.at.ensures ∙ ends c.args.s.now l.sheet l.reader _ _ l.invariant.2 (omega arith))
    ∙ reply_told_lem _
