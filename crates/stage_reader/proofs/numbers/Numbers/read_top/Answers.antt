-- `read_top` meets its contract: a number that an entry or a constant has, or none.
use Rattle.std.proofs.Common.{◌<◌, ◌≤◌, get_or, arith}
use Rattle.diagram.specs.Diagram.{next_number}
use Rattle.diagram.specs.Diagrams.{diagram_drawing}
use Rattle.stage_reader.specs.Inner.Numbers.{entries_so_far}
use Rattle.stage_reader.specs.Inner.Wires.{step_of}
use Rattle.stage_reader.proofs.DiagramPlaces.{top_cut, top_past, top_there}
use Rattle.stage_reader.proofs.Numbering.{own_number}
use Rattle.stage_reader.proofs.Taken.{step_refused_lem, exit_refused}
use Rattle.stage_reader.proofs.numbers.Numbers.read_top.Goals as goal

pub returns-in_err-top : goal.returns-in_err-top
returns-in_err-top c =
    let a = c.args in
    let cut = c.in_err-top.ensures in
    exit_refused diagram_drawing _ _ _ _ _ c.from_residual.ensures.1 (top_cut a.s.now _ a.at cut.0) cut.1

pub returns-then-self-top : goal.returns-then-self-top
returns-then-self-top c =
    let a = c.args in
    let x = c.self.inside in
    let top = c.in_ok-top.ensures in
    let past : next_number (entries_so_far x) ≤ get_or a.s.now a.at 0 = omega (arith, own_number x c.self.invariant, top.1, c.if-self-top.true) in
    rw (← c.self.view_is) (step_refused_lem diagram_drawing _ _ _ _ (top_past a.s.now (entries_so_far x) a.at top.0 past) c.at.ensures)

pub returns : goal.returns
unfolding step_of
returns c =
    let a = c.args in
    let x = c.self.inside in
    let t = c.self.invariant in
    let top = c.in_ok-top.ensures in
    let lower : get_or a.s.now a.at 0 < next_number (entries_so_far x) = omega (arith, own_number x t, top.1, c.if-self-top.false) in
    let tells = t.tell (get_or a.s.now a.at 0) lower in
    rw (← c.self.view_is, top.1, top_there a.s.now (entries_so_far x) a.at top.0 lower, tells.table, t.counted)
