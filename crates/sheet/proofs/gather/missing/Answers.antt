use lib.Dec.{T, eqb, eqb→eq, not_T}
use lib.ListN.{get_or}
use Rattle.base.proofs.Lowest.{first_at, first_none}
use Rattle.base.proofs.Tests.{eq_test}
use Rattle.sheet.specs.Gathered.{no_mark}
use Rattle.sheet.proofs.gather.missing.Goals as goal
use mathlib.Core.Path.{sym}
use mathlib.Core.Bool.{not}
use native.Mathlib.Omega.{arith}
use borrow.Author.Count.{below_more}

pub loop-p-init : goal.loop-p-init
loop-p-init c = (omega arith, λ q h. absurd (omega arith))

pub loop-p-preserved : goal.loop-p-preserved
loop-p-preserved c =
    let l = c.loop-p in
    let marks = c.args.marks in (
      omega arith,
      below_more (λ q. T (not (eqb (get_or marks q 0) no_mark))) l.p l.invariant.1
          (not_T (eqb (get_or marks l.p 0) no_mark) (λ t. c.if-marks-p-eq-NO_MARK.false (eqb→eq (get_or marks l.p 0) no_mark t))),
    )

pub returns-then-marks-p-eq-NO_MARK : goal.returns-then-marks-p-eq-NO_MARK
returns-then-marks-p-eq-NO_MARK c =
    sym (first_at _ (λ p. eqb (get_or c.args.marks p 0) no_mark) _ c.loop-p-test.true (eq_test c.if-marks-p-eq-NO_MARK.true) c.loop-p.invariant.1)

pub returns : goal.returns
returns c = sym (first_none _ (λ p. eqb (get_or c.args.marks p 0) no_mark) (λ j h. c.loop-p.invariant.1 j (omega arith)))
