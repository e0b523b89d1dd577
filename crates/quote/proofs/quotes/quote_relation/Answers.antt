use mathlib.Core.Path.{ap}
use native.Mathlib.Omega.{arith}
use Rattle.base.proofs.Passing.{passed_on}
use Rattle.quote.specs.Cases.{quote_reply}
use Rattle.std.proofs.Common.{refl}
use Rattle.quote.proofs.Quoting.{no_search, with_stage_lem, no_stage_lem}
use Rattle.quote.proofs.quotes.quote_relation.Goals as goal

-- the relation is too wide for the board
pub returns-then-most_inputs-n : goal.returns-then-most_inputs-n
returns-then-most_inputs-n c =
    let a = c.args in
    no_search a.kind a.relation a.budget a.buffer.now c.at.result (omega (arith, c.most_inputs.ensures, c.if-most_inputs-n.true)) c.at.ensures refl

-- the search refuses it
pub returns-in_err-answer : goal.returns-in_err-answer
returns-in_err-answer c =
    let a = c.args in
    let h = c.in_err-answer in
    no_stage_lem a.kind a.relation a.budget a.buffer.now (omega (arith, c.most_inputs.ensures, c.if-most_inputs-n.false)) h.field-0.0 h.ensures
    (ap quote_reply (passed_on c.from_residual.result h.field-0.0 c.from_residual.ensures.1))

pub returns : goal.returns
returns c =
    let a = c.args in
    let h = c.in_ok-answer in
    let q = c.quote_answer.ensures in
    with_stage_lem a.kind a.relation a.budget a.buffer.now (omega (arith, c.most_inputs.ensures, c.if-most_inputs-n.false)) h.answer h.ensures q.0 q.1
