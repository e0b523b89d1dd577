-- `read_end` meets its contract: where 2F stands, what comes after it decides.
use Rattle.std.proofs.Common.{◌+◌, ◌<◌, ◌≤◌, Err, length, sym, arith}
use Rattle.stage.specs.Read.{end_at, nothing_after}
use Rattle.diagram.specs.Forms.{form_of}
use Rattle.stage_reader.proofs.Exits.{exit_told}
use Rattle.stage_reader.proofs.Places.{byte_there, no_byte, due_within, due_stops, due_goes}
use Rattle.stage_reader.proofs.read_end.Goals as goal

pub returns-in_err-due : goal.returns-in_err-due
unfolding end_at
returns-in_err-due c =
    let a = c.args in
    let stopped = due_stops (form_of a.kind).known 0x2F a.at a.s.now Err _ _ c.in_err-due.ensures in
    exit_told (λ r. r) _ _ _ c.from_residual.ensures.1 (sym stopped)

pub overflow_add-at : goal.overflow_add-at
overflow_add-at c =
    let a = c.args in
    omega (arith, due_within (form_of a.kind).known 0x2F a.at a.s.now _ c.in_ok-due.ensures)

pub returns-then-at-s : goal.returns-then-at-s
unfolding end_at nothing_after
returns-then-at-s c =
    let a = c.args in
    let more : a.at + 1 < length a.s.now = c.if-at-s.true in
    rw (due_goes (form_of a.kind).known 0x2F a.at a.s.now Err _ _ c.in_ok-due.ensures, byte_there _ _ more, c.at.ensures)

pub returns : goal.returns
unfolding end_at nothing_after
returns c =
    let a = c.args in
    let none : length a.s.now ≤ a.at + 1 = c.if-at-s.false in
    rw (due_goes (form_of a.kind).known 0x2F a.at a.s.now Err _ _ c.in_ok-due.ensures, no_byte _ _ none)
