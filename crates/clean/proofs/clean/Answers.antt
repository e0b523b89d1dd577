-- `clean` meets its contract: the reading decides, and then the length.
use mathlib.Core.Path.{refl, ap, ◌∙◌}
use Rattle.base.specs.Cases.{written_case}
use Rattle.base.proofs.Passing.{passed_on}
use Rattle.reader.proofs.Replies.{accepted_held}
use Rattle.clean.proofs.Promises.{clauses, written_cleaned, refused_cleaned}
use Rattle.clean.proofs.clean.Goals as goal

pub returns-in_err-gathered : goal.returns-in_err-gathered
returns-in_err-gathered c =
    let a = c.args in
    let h = c.in_err-gathered in
    let r = refused_cleaned a.sheet.now a.buffer.now h.field-0.0 h.ensures in
    let passed = ap written_case (passed_on c.from_residual.result h.field-0.0 c.from_residual.ensures.1) in
    let k = clauses a.sheet.now a.buffer.now (passed ∙ r.0, r.1) in
    record { reply = k.0; bytes = k.1.0; copy = k.1.1 }

pub write_copy-requires : goal.write_copy-requires
write_copy-requires c = accepted_held _ c.in_ok-gathered.gathered c.in_ok-gathered.ensures

pub returns : goal.returns
unfolding accepted_held
returns c =
    let a = c.args in
    let h = c.in_ok-gathered in
    let own = accepted_held a.sheet.now h.gathered h.ensures in
    let k = clauses a.sheet.now a.buffer.now (written_cleaned a.sheet.now a.buffer.now h.gathered own refl c.write_copy.ensures) in
    record { reply = k.0; bytes = k.1.0; copy = k.1.1 }
