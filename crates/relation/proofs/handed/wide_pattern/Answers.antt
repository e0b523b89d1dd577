use mathlib.Core.Path.{◌∙◌, sym, ap}
use Prim.Native.Nat.{ℕ, ◌<◌, ◌≤◌, ◌^◌}
use native.Mathlib.Omega.{arith}
use lib.Dec.{leb, le→leb, not_T, leb→le}
use lib.ListN.{get_or}
use borrow.Author.Count.{below_none, below_more}
use Rattle.base.proofs.Lowest.{first_at, first_none}
use Rattle.table.proofs.Bits.{shifted_one}
use Rattle.relation.proofs.handed.wide_pattern.Goals as goal

pub loop-p-init : goal.loop-p-init
loop-p-init c =
    let limit = c.values_of in
    (omega arith, shifted_one limit.result 32 (omega arith) ∙ ap (λ k. 2 ^ k) (limit.ensures.2 (omega arith)), below_none _)

pub returns-then-limit-sets : goal.returns-then-limit-sets
returns-then-limit-sets c =
    let a = c.args in
    let l = c.loop-p in
    let wide : 2 ^ (2 ^ a.m) ≤ get_or a.sets l.p 0 = omega (arith, c.if-limit-sets.true, l.invariant.1) in
    sym
    (first_at (2 ^ a.n) (λ q. leb (2 ^ (2 ^ a.m)) (get_or a.sets q 0)) l.p (omega arith) (le→leb (2 ^ (2 ^ a.m)) (get_or a.sets l.p 0) wide)
    l.invariant.2)

pub loop-p-preserved : goal.loop-p-preserved
loop-p-preserved c =
    let a = c.args in
    let l = c.loop-p in
    let k : ℕ = 2 ^ (2 ^ a.m) in
    let w : ℕ = get_or a.sets l.p 0 in
    let fits : w < k = omega (arith, c.if-limit-sets.false, l.invariant.1) in
    (omega arith, l.invariant.1, below_more _ _ l.invariant.2 (not_T (leb k w) (λ t. omega (arith, leb→le k w t))))

pub returns : goal.returns
returns c =
    let a = c.args in
    let l = c.loop-p in
    sym (first_none (2 ^ a.n) (λ q. leb (2 ^ (2 ^ a.m)) (get_or a.sets q 0)) (λ q b. l.invariant.2 q (omega arith)))
