-- A wire that is read goes on with what is gathered; a refusal of it, and what the end makes of it all, are the reply.
use Rattle.std.proofs.Common.{arith}
use native.Mathlib.Nat.{sub-zero, add-zero}
use Rattle.table.specs.Drawing.{drawn_cells}
use Rattle.diagram.specs.Forms.{form_of}
use Rattle.diagram.proofs.Forms.{form_laws}
use Rattle.stage_reader.specs.Cases.{stage_reply}
use Rattle.stage_reader.proofs.Exits.{exit_told}
use Rattle.stage_reader.proofs.Gather.{filled, reply_with, from_nothing, goes_on, stops, ends}
use Rattle.stage_reader.proofs.Counts.{wire_few}
use Rattle.stage_reader.proofs.read_wires.Goals as goal

pub loop-j-init : goal.loop-j-init
loop-j-init c =
    let a = c.args in
    (omega arith, simp sub-zero (from_nothing (form_of a.kind) (form_laws a.kind) a.s.now a.n a.m c.requires.1))

pub overflow_add-cells : goal.overflow_add-cells
overflow_add-cells c =
    let a = c.args in
    let l = c.loop-j in
    let few = wire_few a.kind a.s.now a.n a.m l.j l.at _ _ _ c.in_ok-wire.ensures c.requires.0 in
    omega (arith, few, l.invariant, c.requires)

pub returns-in_err-wire : goal.returns-in_err-wire
returns-in_err-wire c =
    let l = c.loop-j in
    let a = c.args in
    let stopped = stops (form_of a.kind) (form_laws a.kind) a.s.now a.n a.m l.j l.at l.tables l.cells _ l.invariant.1 _ c.loop-j-test.true c.in_err-wire.ensures in
    exit_told stage_reply _ _ _ c.from_residual.ensures.1 (simp sub-zero at stopped)

pub loop-j-preserved : goal.loop-j-preserved
loop-j-preserved c =
    let l = c.loop-j in
    let a = c.args in
    let few = wire_few a.kind a.s.now a.n a.m l.j l.at _ _ _ c.in_ok-wire.ensures c.requires.0 in (
      omega (arith, few, l.invariant),
      goes_on (form_of a.kind) (form_laws a.kind) a.s.now a.n a.m l.j l.at l.tables l.cells _ l.invariant.1 _ _ _ c.loop-j-test.true c.in_ok-wire.ensures,
    )

pub returns-in_err-read_end : goal.returns-in_err-read_end
returns-in_err-read_end c =
    let l = c.loop-j in
    let a = c.args in
    let ended =
    ends (form_of a.kind) (form_laws a.kind) a.s.now a.n a.m l.j l.at l.tables l.cells _ l.invariant.1 _ c.loop-j-test.false c.in_err-read_end.ensures in
    exit_told stage_reply _ _ _ c.from_residual-in_err-read_end.ensures.1 (simp sub-zero at ended)

pub returns : goal.returns
unfolding reply_with filled drawn_cells
returns c =
    let l = c.loop-j in
    let a = c.args in
    let ended =
    ends (form_of a.kind) (form_laws a.kind) a.s.now a.n a.m l.j l.at l.tables l.cells _ l.invariant.1 _ c.loop-j-test.false c.in_ok-read_end.ensures in
    simp (add-zero, sub-zero) at ended
