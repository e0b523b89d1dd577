-- `read_diagram_wire` meets its contract: its head judged, then the entries and the top.
use Rattle.std.proofs.Common.{refl, ◌∙◌, arith}
use Rattle.stage.specs.Steps.{fault}
use Rattle.diagram.specs.Diagrams.{diagram_drawing}
use Rattle.diagram.specs.Read.{diagram_known}
use Rattle.stage_reader.proofs.Places.{judged_stops, judged_goes, due_within}
use Rattle.stage_reader.proofs.DiagramPlaces.{wire_stops, no_number, no_count, wire_opens}
use Rattle.stage_reader.proofs.Taken.{exit_refused}
use Rattle.stage_reader.proofs.diagrams.read_diagram_wire.Goals as goal

pub returns-in_err-due : goal.returns-in_err-due
returns-in_err-due c = exit_refused diagram_drawing _ _ _ _ _ c.from_residual.ensures.1 (wire_stops _ _ _ _ _ _ c.in_err-due.ensures) refl

pub overflow_add-at : goal.overflow_add-at
overflow_add-at c = omega (arith, due_within diagram_known 0x26 c.args.at c.args.s.now _ c.in_ok-due.ensures)

pub returns-in_err-i : goal.returns-in_err-i
returns-in_err-i c =
    let cut = c.in_err-i.ensures in
    exit_refused diagram_drawing _ _ _ _ _ c.from_residual-in_err-i.ensures.1 (no_number _ _ _ _ _ _ c.in_ok-due.ensures cut.0) cut.1

pub returns-in_err-count : goal.returns-in_err-count
returns-in_err-count c =
    let cut = c.in_err-count.ensures in
    exit_refused diagram_drawing _ _ _ _ _ c.from_residual-in_err-count.ensures.1
    (no_count _ _ _ _ _ _ c.in_ok-due.ensures c.in_ok-i.ensures.0 cut.0) cut.1

-- a command that is whole: the turn of its wire decides
pub returns-in_err-turn : goal.returns-in_err-turn
returns-in_err-turn c =
    let a = c.args in
    let i = c.in_ok-i.ensures in
    let count = c.in_ok-count.ensures in
    let opens = wire_opens a.s.now a.n a.m a.j a.at _ c.in_ok-due.ensures i.0 count.0 in
    exit_refused diagram_drawing _ _ _ _ _ c.from_residual-in_err-turn.ensures.1
    (opens ∙ judged_stops a.at _ fault _ _ (rw (i.1, count.1) at c.in_err-turn.ensures)) refl

pub returns : goal.returns
returns c =
    let a = c.args in
    let i = c.in_ok-i.ensures in
    let count = c.in_ok-count.ensures in
    let opens = wire_opens a.s.now a.n a.m a.j a.at _ c.in_ok-due.ensures i.0 count.0 in
    rw (opens, judged_goes a.at _ _ (rw (i.1, count.1) at c.in_ok-turn.ensures), ← count.1) c.read_diagram.ensures
