use mathlib.Core.Path.{sym}
use Prim.Native.Nat.{ℕ, ◌^◌}
use native.Mathlib.Omega.{arith}
use lib.Dec.{eqb, not_T, eqb→eq}
use lib.ListN.{get_or}
use borrow.Author.Count.{below_none, below_more}
use Rattle.base.proofs.Tests.{eq_test}
use Rattle.base.proofs.Lowest.{first_at, first_none}
use Rattle.relation.proofs.handed.empty_pattern.Goals as goal

pub loop-p-init : goal.loop-p-init
loop-p-init c = (omega (arith, c.patterns_of-p-end.ensures.2), below_none _)

pub returns-then-sets-p-eq0 : goal.returns-then-sets-p-eq0
returns-then-sets-p-eq0 c =
    let a = c.args in
    let l = c.loop-p in
    sym (first_at (2 ^ a.n) (λ q. eqb (get_or a.sets q 0) 0) l.p (omega arith) (eq_test c.if-sets-p-eq0.true) l.invariant.1)

pub loop-p-preserved : goal.loop-p-preserved
loop-p-preserved c =
    let l = c.loop-p in
    let w : ℕ = get_or c.args.sets l.p 0 in
    (omega arith, below_more _ _ l.invariant.1 (not_T (eqb w 0) (λ t. c.if-sets-p-eq0.false (eqb→eq w 0 t))))

pub returns : goal.returns
returns c =
    let a = c.args in
    let l = c.loop-p in
    sym (first_none (2 ^ a.n) (λ q. eqb (get_or a.sets q 0) 0) (λ q b. l.invariant.1 q (omega arith)))
