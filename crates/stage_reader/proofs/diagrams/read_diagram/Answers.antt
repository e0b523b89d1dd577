-- An entry is judged at its place, and the top after all entries.
use Rattle.std.proofs.Common.{◌≡◌, refl, ◌∙◌, arith}
use Rattle.stage.specs.Steps.{fault}
use Rattle.diagram.specs.Diagrams.{diagram_drawing}
use Rattle.stage_reader.proofs.Places.{judged_stops, judged_goes}
use Rattle.stage_reader.proofs.DiagramPlaces.{entry_cut}
use Rattle.stage_reader.proofs.Entries.{Gathered, start, diagram_read, diagram_refused, judged, entry_fits, one_more}
use Rattle.stage_reader.proofs.Taken.{exit_refused}
use Rattle.stage_reader.proofs.diagrams.read_diagram.Goals as goal

pub loop-init : goal.loop-init
loop-init c = rw c.constants-numbers.ensures (start c.args.s.now c.args.n c.args.from)

pub returns-in_err-entry : goal.returns-in_err-entry
returns-in_err-entry c =
    let g = c.loop.invariant in
    let cut = c.in_err-entry.ensures in
    exit_refused diagram_drawing _ _ _ _ _ c.from_residual.ensures.1
    (diagram_refused g _ c.args.count (entry_cut _ _ _ _ cut.0) c.loop-test.true) cut.1

pub returns-in_err-judge : goal.returns-in_err-judge
returns-in_err-judge c =
    let g = c.loop.invariant in
    let e = c.in_ok-entry.ensures in
    let stops = judged g _ e.0 e.1 ∙ judged_stops c.loop.at _ fault _ _ c.in_err-judge.ensures in
    exit_refused diagram_drawing _ _ _ _ _ c.from_residual-in_err-judge.ensures.1 (diagram_refused g _ c.args.count stops c.loop-test.true) refl

pub push-requires : goal.push-requires
push-requires c =
    let g = c.loop.invariant in
    let e = c.in_ok-entry.ensures in
    (omega (arith, g.many, c.loop-test.true, c.requires), entry_fits g _ e.0 e.1 (judged_goes c.loop.at _ _ c.in_ok-judge.ensures))

pub loop-preserved : goal.loop-preserved
loop-preserved c =
    let e = c.in_ok-entry.ensures in
    rw c.push.ensures (one_more c.loop.invariant _ e.0 e.1 (judged_goes c.loop.at _ _ c.in_ok-judge.ensures))

pub returns : goal.returns
returns c =
    let a = c.args in
    let l = c.loop in
    let all : l.counter ≡ a.count = omega arith in
    let g : Gathered a.s.now a.n a.from a.count l.at l.numbers = rw all at l.invariant in
    rw (diagram_read g, ← g.inputs) c.read_top.ensures
