use Prim.Native.Nat.{ℕ, ◌^◌, ◌<◌}
use mathlib.Core.Path.{◌≡◌, sym, ap, ◌∙◌}
use mathlib.Core.Bool.{Bool, not}
use mathlib.Core.List.{List}
use native.Mathlib.Omega.{arith}
use borrow.Author.Count.{below_more}
use lib.Dec.{T, T_not, not_T}
use lib.ListN.{get_or}
use Rattle.base.proofs.Tests.{told_no, told_yes, test_yes, test_no}
use Rattle.table.specs.Bits.{all}
use Rattle.table.proofs.Bits.{all_at, all_intro}
use Rattle.sheet.specs.Limits.{max_wires}
use Rattle.relation.specs.Source.{value}
use Rattle.relation.specs.Tests.{of_sets}
use Rattle.table.specs.Cells.{wires}
use Rattle.relation.specs.Inner.Members.{member}
use Rattle.relation.proofs.Members.{member_sets}
use Rattle.quote.proofs.audits.allowed_everywhere.Goals as goal

-- the code's test, in the relation's terms
here : (sets tables : List ℕ) (p : ℕ) {r : Bool} {v : ℕ}
    → r ≡ member (get_or sets p 0) v → v ≡ value max_wires (wires tables) p → r ≡ of_sets sets p (value max_wires (wires tables) p)
here sets tables p er ev = er ∙ ap (member (get_or sets p 0)) ev ∙ ap (λ S. S (value max_wires (wires tables) p)) (sym (member_sets sets p))

pub loop-p-init : goal.loop-p-init
loop-p-init c = (omega arith, λ q l. absurd (omega arith))

pub returns-then-not-contains : goal.returns-then-not-contains
returns-then-not-contains c =
    let a = c.args in
    let p = c.loop-p.p in
    let f : ℕ → Bool = λ q. of_sets a.sets q (value max_wires (wires a.tables) q) in
    let count = c.patterns_of-count.ensures.2 (omega arith) in
    let lp : p < 2 ^ a.n = omega (arith, count) in
    let no : T (not (f p)) = told_no (here a.sets a.tables p c.contains.ensures c.value_of.ensures.0) c.if-not-contains.true in
    sym (test_no (all (2 ^ a.n) f) (not_T (all (2 ^ a.n) f) (λ t. T_not (f p) no (all_at (2 ^ a.n) f t p lp))))

pub loop-p-preserved : goal.loop-p-preserved
loop-p-preserved c =
    let a = c.args in
    let p = c.loop-p.p in (
      omega arith,
      below_more _ _ c.loop-p.invariant.1
          (told_yes (here a.sets a.tables p c.contains.ensures c.value_of.ensures.0) c.if-not-contains.false),
    )

pub returns : goal.returns
returns c =
    let a = c.args in
    let f : ℕ → Bool = λ q. of_sets a.sets q (value max_wires (wires a.tables) q) in
    let count = c.patterns_of-count.ensures.2 (omega arith) in
    sym (test_yes (all (2 ^ a.n) f) (all_intro (2 ^ a.n) f (λ q l. c.loop-p.invariant.1 q (omega (arith, count, c.loop-p-test.false)))))
