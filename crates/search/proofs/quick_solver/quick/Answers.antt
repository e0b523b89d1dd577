use Rattle.parts.proofs.Keeping.{count_few}
use mathlib.Core.Path.{refl, ap, sym, ◌∙◌}
use native.Mathlib.Omega.{arith}
use Rattle.parts.specs.Inner.Boards.{lent_kind, lent_inputs, lent_wires}
use Rattle.parts.specs.Inner.Picks.{table_of}
use Rattle.parts.proofs.Lending.{board_small, wires_small, inputs_told, wires_told, inputs_few}
use Rattle.search.proofs.FirstAnswer.{none_taken, next_taken, all_taken}
use Rattle.search.proofs.quick_solver.quick.Goals as goal

pub overflow_cast-e : goal.overflow_cast-e
overflow_cast-e c = omega (arith, board_small c.requires.0)

pub overflow_cast-m : goal.overflow_cast-m
overflow_cast-m c = omega (arith, wires_small c.args.e.now c.requires.1)

pub loop-j-init : goal.loop-j-init
loop-j-init c =
    let e = c.args.e.now in
    let q = c.requires in
    (none_taken (lent_kind e) (lent_inputs e) (lent_wires e) c.args.sets q.2, λ _. refl)

pub pick_left-cells-requires : goal.pick_left-cells-requires
pick_left-cells-requires c =
    let e = c.args.e.now in
    let q = c.requires in
    let l = c.loop-j.invariant in (
      q.0,
      q.1,
      l.0.kept,
      omega (arith, wires_small e q.1),
      λ z. (q.3 ∙ ap (λ s. table_of (lent_kind e) (lent_inputs e) s 0) (sym (l.1 z)), q.4),
    )

pub overflow_add-cells : goal.overflow_add-cells
overflow_add-cells c =
    let e = c.args.e.now in
    let q = c.requires in
    let l = c.loop-j in
    let k = count_few (lent_kind e) (lent_inputs e) (table_of (lent_kind e) (lent_inputs e) l.left l.j) (inputs_few q.0) in
    omega (arith, q.1.m_most, l.invariant.0.few, l.invariant.0.reached, c.pick_left-cells.ensures.1, k)

pub bounds-tables-j : goal.bounds-tables-j
bounds-tables-j c = omega (arith, wires_small c.args.e.now c.requires.1)

pub agreeing-next-requires : goal.agreeing-next-requires
agreeing-next-requires c =
    let e = c.args.e.now in
    let q = c.requires in
    let en = inputs_told e c.inputs_of-n.ensures in
    (rw en (inputs_few q.0), omega (arith, wires_small e q.1), rw en c.loop-j.invariant.0.kept.past)

pub loop-j-preserved : goal.loop-j-preserved
unfolding lent_wires
loop-j-preserved c =
    let q = c.requires in
    let l = c.loop-j.invariant in
    let r = c.pick_left-cells.ensures in
    (next_taken q.1 l.0 c.loop-j-test.true r.0 r.1 c.agreeing-next.ensures, λ z. absurd (omega arith))

pub returns : goal.returns
returns c =
    let e = c.args.e.now in
    let q = c.requires in
    let l = c.loop-j.invariant in
    all_taken q.1 (omega (arith, l.0.reached, c.loop-j-test.false, wires_told e)) l.0
