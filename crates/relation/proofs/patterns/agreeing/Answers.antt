use borrow.Author.Rules.{rules}
use mathlib.Core.Path.{◌≡◌, refl, ◌∙◌, ap, sym}
use mathlib.Core.Logic.{⊎_elim}
use mathlib.Core.Bool.{cond}
use Prim.Native.Nat.{ℕ, ◌<◌, ◌^◌}
use native.Mathlib.Omega.{arith}
use lib.Bits.{bit_and}
use lib.Dec.{eqb}
use lib.ListN.{length, get_or, length-set}
use Rattle.table.specs.Bits.{bit}
use Rattle.table.proofs.Bits.{bit_cases}
use Rattle.table.specs.Inner.Columns.{column_of}
use Rattle.sheet.specs.Limits.{max_patterns}
use Rattle.relation.specs.Inner.Members.{with_bit}
use Rattle.relation.specs.Inner.Narrowed.{agreed}
use Rattle.relation.proofs.Members.{with_le}
use Rattle.relation.proofs.Fronts.{front_more, front_whole}
use Rattle.relation.proofs.patterns.agreeing.Invariants.{agrees_on}
use Rattle.relation.proofs.patterns.agreeing.Goals as goal

-- `agreeing` meets its contract: the sets passed are those of the meaning, and past the last pattern they are empty before and after.
-- the column chosen is the column of the bit
chosen : (j t p : ℕ) {z o b : ℕ} → z ≡ column_of j 0 → o ≡ column_of j 1 → b ≡ bit t p → cond (eqb b 1) o z ≡ column_of j (bit t p)
chosen j t p {z} {o} ez eo eb =
    ⊎_elim
    (λ d. ap (λ x. cond (eqb x 1) o z) (eb ∙ d) ∙ ez ∙ ap (column_of j) (sym d))
    (λ d. ap (λ x. cond (eqb x 1) o z) (eb ∙ d) ∙ eo ∙ ap (column_of j) (sym d))
    (bit_cases t p)

pub loop-p-init : goal.loop-p-init
loop-p-init c = (omega arith, search rules, record { filled = λ q l. absurd (omega arith); left = λ q l. refl })

pub loop-p-preserved : goal.loop-p-preserved
unfolding with_bit
loop-p-preserved c =
    let a = c.args in
    let l = c.loop-p in
    let w = get_or a.sets l.p 0 in
    let z = c.column-zero.ensures in
    let o = c.column-one.ensures in
    let e = c.choose.ensures ∙ chosen a.j a.t l.p z o c.bit_of.ensures.0 in
    let b : l.p < length l.next = omega (arith, c.patterns_of-count.ensures.1) in (
      omega arith,
      simp length-set l.invariant.1,
      front_more (agrees_on a.sets a.j a.t) (λ q. get_or a.sets q 0) l.next l.p (bit_and w c.choose.result) b l.invariant.2 (ap (bit_and w) e),
    )

pub returns : goal.returns
unfolding agreed
returns c =
    let a = c.args in
    let pre = c.requires in
    let l = c.loop-p in
    let e : l.p ≡ 2 ^ a.n = omega (arith, c.patterns_of-count.ensures.2 pre.0) in
    front_whole max_patterns (agrees_on a.sets a.j a.t) (λ q. get_or a.sets q 0) (agrees_on a.sets a.j a.t) l.next l.p l.invariant.1 l.invariant.2
    (λ q d. refl) (λ q d. omega (arith, pre.2 q (omega arith), with_le (get_or a.sets q 0) a.j (bit a.t q)))
