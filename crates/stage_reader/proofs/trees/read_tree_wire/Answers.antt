-- `read_tree_wire` meets its contract: its head judged, then the tree.
use Rattle.std.proofs.Common.{refl, ◌∙◌, arith}
use Rattle.stage.specs.Steps.{fault}
use Rattle.stage.specs.TreeRead.{tree_known}
use Rattle.stage.specs.Trees.{tree_drawing}
use Rattle.stage_reader.proofs.Places.{judged_stops, judged_goes, due_within}
use Rattle.stage_reader.proofs.TreePlaces.{wire_stops, wire_cut, wire_opens}
use Rattle.stage_reader.proofs.Taken.{exit_refused}
use Rattle.stage_reader.proofs.trees.read_tree_wire.Goals as goal

pub returns-in_err-due : goal.returns-in_err-due
returns-in_err-due c =
    exit_refused tree_drawing _ _ _ _ _ c.from_residual.ensures.1 (wire_stops _ _ _ _ _ _ c.in_err-due.ensures) refl

pub overflow_add-at : goal.overflow_add-at
overflow_add-at c =
    let a = c.args in
    omega (arith, due_within tree_known 0x21 a.at a.s.now _ c.in_ok-due.ensures)

pub returns-in_err-i : goal.returns-in_err-i
returns-in_err-i c =
    let cut = c.in_err-i.ensures in
    exit_refused tree_drawing _ _ _ _ _ c.from_residual-in_err-i.ensures.1 (wire_cut _ _ _ _ _ _ c.in_ok-due.ensures cut.0) cut.1

pub returns-in_err-turn : goal.returns-in_err-turn
returns-in_err-turn c =
    let a = c.args in
    let i = c.in_ok-i.ensures in
    let opens = wire_opens a.s.now a.n a.m a.j a.at _ c.in_ok-due.ensures i.0 in
    exit_refused tree_drawing _ _ _ _ _ c.from_residual-in_err-turn.ensures.1
    (opens ∙ judged_stops a.at _ fault _ _ (rw i.1 at c.in_err-turn.ensures)) refl

pub returns : goal.returns
returns c =
    let a = c.args in
    let i = c.in_ok-i.ensures in
    let opens = wire_opens a.s.now a.n a.m a.j a.at _ c.in_ok-due.ensures i.0 in
    rw (opens, judged_goes a.at _ _ (rw i.1 at c.in_ok-turn.ensures)) c.read_tree.ensures
