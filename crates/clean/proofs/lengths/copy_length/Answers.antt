use mathlib.Core.Path.{◌≡◌, ◌∙◌}
use native.Mathlib.Omega.{arith}
use Rattle.reader.proofs.Placed.{placed}
use Rattle.clean.proofs.CopyLengths.{count_none, count_more, count_all}
use Rattle.clean.proofs.lengths.copy_length.Goals as goal

pub loop-p-init : goal.loop-p-init
loop-p-init c = (omega arith, count_none _ _ _, omega arith)

pub bounds-marks-p : goal.bounds-marks-p
bounds-marks-p c = omega (arith, c.patterns_of-p-end.ensures.1)

pub bounds-limits-p : goal.bounds-limits-p
bounds-limits-p c = omega (arith, c.patterns_of-p-end.ensures.1)

pub overflow_add-length-in-loop-p : goal.overflow_add-length-in-loop-p
overflow_add-length-in-loop-p c = omega (arith, c.limit_length.ensures.1, c.mark_length.ensures.1)

pub overflow_add-length-in-loop-p-2 : goal.overflow_add-length-in-loop-p-2
overflow_add-length-in-loop-p-2 c =
    let l = c in
    omega (arith, c.limit_length.ensures.1, c.mark_length.ensures.1, l.loop-p.invariant.2, l.patterns_of-p-end.ensures.1)

pub loop-p-preserved : goal.loop-p-preserved
loop-p-preserved c =
    let l = c.loop-p in (
      omega arith,
      count_more _ l.length l.p _ _ l.invariant.1 c.mark_length.ensures.0 c.limit_length.ensures.0,
      omega (arith, c.limit_length.ensures.1, c.mark_length.ensures.1, l.invariant.2),
    )

pub returns : goal.returns
returns c =
    let l = c.loop-p in
    let p = c.patterns_of-p-end in
    let s = c in
    let e : l.p ≡ p.result = omega arith in
    count_all s.args.sheet (placed s.requires) l.length l.p (e ∙ p.ensures.2 (placed s.requires).few_inputs) l.invariant.1
