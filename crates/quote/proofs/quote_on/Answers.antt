use mathlib.Core.Path.{ap}
use Rattle.base.proofs.Passing.{passed_on}
use Rattle.quote.specs.Cases.{quote_reply}
use Rattle.quote.proofs.Quoting.{formed_quote, turned_quote}
use Rattle.quote.proofs.quote_on.Goals as goal

pub returns-in_err-relation : goal.returns-in_err-relation
returns-in_err-relation c =
    let a = c.args in
    let h = c.in_err-relation in
    let passed = ap quote_reply (passed_on c.from_residual.result h.field-0.0 c.from_residual.ensures.1) in
    let k = turned_quote a.kind a.sheet.now a.budget a.buffer.now h.field-0.0 h.ensures passed in
    record { reply = k.0; bytes = k.1.0; promise = k.1.1 }

pub returns : goal.returns
returns c =
    let a = c.args in
    let h = c.in_ok-relation in
    let q = c.quote_relation.ensures in
    let k = formed_quote a.kind a.sheet.now a.budget a.buffer.now h.relation h.ensures q.0 q.1 in
    record { reply = k.0; bytes = k.1.0; promise = k.1.1 }
