use borrow.Author.Rules.{rules}
use mathlib.Core.Path.{◌≡◌, refl, sym, ap}
use mathlib.Core.Bool.{Bool, cond}
use Prim.Native.Nat.{ℕ, ◌<◌, ◌^◌}
use native.Mathlib.Omega.{arith}
use lib.Dec.{ltb}
use lib.ListN.{length, get_or, length-set}
use borrow.Author.Tests.{lt-ltb, le-ltb}
use Rattle.base.proofs.Tabulate.{zeros_entry}
use Rattle.sheet.specs.Limits.{max_patterns}
use Rattle.table.specs.Bits.{tabulate}
use Rattle.relation.specs.Inner.Narrowed.{cleared}
use Rattle.relation.proofs.Fronts.{front_more, front_whole}
use Rattle.relation.proofs.patterns.clear_past.Goals as goal

pub loop-p-init : goal.loop-p-init
unfolding tabulate
loop-p-init c =
    (omega arith, search rules, record { filled = λ q l. absurd (omega arith); left = λ q l. zeros_entry max_patterns q })

pub loop-p-preserved : goal.loop-p-preserved
loop-p-preserved c =
    let a = c.args in
    let l = c.loop-p in
    let b : l.p < length l.next = omega (arith, c.patterns_of-p-end.ensures.1) in (
      omega arith,
      simp length-set l.invariant.1,
      front_more (λ q. get_or a.sets q 0) (λ _. 0) l.next l.p (get_or a.sets l.p 0) b l.invariant.2 refl,
    )

pub returns : goal.returns
unfolding cleared
returns c =
    let a = c.args in
    let l = c.loop-p in
    let e : l.p ≡ 2 ^ a.n = omega (arith, c.patterns_of-p-end.ensures.2 c.requires) in
    let r : ℕ → ℕ = λ q. cond (ltb q (2 ^ a.n)) (get_or a.sets q 0) 0 in
    front_whole max_patterns (λ q. get_or a.sets q 0) (λ _. 0) r l.next l.p l.invariant.1 l.invariant.2
    (λ q d. sym (ap (λ (b : Bool). cond b (get_or a.sets q 0) 0) (lt-ltb q (2 ^ a.n) (omega arith))))
    (λ q d. sym (ap (λ (b : Bool). cond b (get_or a.sets q 0) 0) (le-ltb q (2 ^ a.n) (omega arith))))
