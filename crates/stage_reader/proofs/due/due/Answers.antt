-- `due` meets its contract: the byte at the place, if there is one, is the command or it is not.
use Rattle.std.proofs.Common.{ℕ, Err, sym, ap, ◌∙◌}
use borrow.Author.Tests.{eq-eqb, ne_eqb}
use Rattle.diagram.specs.Forms.{form_of}
use Rattle.base.specs.Refusals.{refusal_at}
use Rattle.stage.specs.Steps.{misplaced, due_number, due}
use Rattle.stage_reader.proofs.Exits.{exit_told}
use Rattle.stage_reader.proofs.Places.{byte_there, no_byte, misplaced_stops}
use Rattle.stage_reader.proofs.due.due.Goals as goal

pub returns-in_err-b : goal.returns-in_err-b
unfolding due due_number
returns-in_err-b c =
    let a = c.args in
    let cut = c.in_err-b.ensures in
    exit_told (λ r. r) _ _ _ c.from_residual.ensures.1 (rw (cut.1, no_byte a.s.now a.at cut.0))

pub returns-then-b-want : goal.returns-then-b-want
unfolding due due_number
returns-then-b-want c =
    let a = c.args in
    let b = c.in_ok-b.ensures in
    rw (byte_there a.s.now a.at b.0, eq-eqb _ _ (sym b.1 ∙ c.if-b-want.true))

pub returns-else-b-want : goal.returns-else-b-want
unfolding due due_number
returns-else-b-want c =
    let a = c.args in
    let b = c.in_ok-b.ensures in
    let known = (form_of a.kind).known in
    let fault = c.misplaced.ensures ∙ ap (λ (x : ℕ). refusal_at (misplaced known x) a.at) b.1 in
    rw (byte_there a.s.now a.at b.0, ne_eqb _ _ (λ e. c.if-b-want.false (b.1 ∙ e))) (ap Err fault ∙ sym (misplaced_stops known _ a.at Err _))
