use mathlib.Core.Path.{ap, ◌∙◌}
use Rattle.base.proofs.Passing.{passed_on}
use Rattle.quote.specs.Cases.{quote_reply}
use Rattle.quote.proofs.Quoting.{with_length, with_refusal}
use Rattle.quote.proofs.quotes.quote_answer.Goals as goal

pub returns-in_err-length : goal.returns-in_err-length
returns-in_err-length c =
    let h = c.in_err-length in
    let passed = ap quote_reply (passed_on c.from_residual.result h.field-0.0 c.from_residual.ensures.1) in
    (passed ∙ with_refusal c.args.answer h.field-0.0 h.ensures.0, h.ensures.1)

pub returns : goal.returns
returns c = let h = c.in_ok-length in (with_length c.args.answer h.length h.ensures.0, h.ensures.1)
