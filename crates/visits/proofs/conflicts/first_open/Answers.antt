-- `first_open` meets its contract: a pattern that is passed over is without conflict, and one that is not has an open wire.
use Prim.Native.Nat.{◌/◌, ◌^◌, ◌<◌}
use mathlib.Core.Path.{sym, ◌∙◌}
use native.Mathlib.Omega.{arith}
use borrow.Author.Count.{below_more}
use Rattle.base.proofs.Tests.{told_yes, told_no}
use Rattle.table.specs.Inner.Pairs.{narrow_patterns}
use Rattle.parts.specs.Inner.Boards.{lent_kind, lent_inputs}
use Rattle.parts.proofs.Keeping.{kept_tables}
use Rattle.parts.proofs.Lending.{wires_small, wires_told}
use Rattle.visits.proofs.Clearing.{count_told, count_most}
use Rattle.visits.proofs.Opening.{allowed_test, free_test, some_open, none_open, pair_open}
use Rattle.visits.proofs.conflicts.first_open.Goals as goal
use Rattle.visits.proofs.conflicts.first_open.Goals.{then-not-contains+else-loop-j-test, else-not-contains}

pub overflow_cast-count : goal.overflow_cast-count
overflow_cast-count c = omega (arith, count_told c.args.e.now c.requires.0, count_most c.requires.0)

pub overflow_cast-m : goal.overflow_cast-m
overflow_cast-m c = omega (arith, wires_small c.args.e.now c.requires.1)

pub bounds-sets-p : goal.bounds-sets-p
bounds-sets-p c = omega (arith, count_told c.args.e.now c.requires.0, count_most c.requires.0)

pub word_of-requires : goal.word_of-requires
word_of-requires c = omega (arith, count_told c.args.e.now c.requires.0, count_most c.requires.0)

pub is_open-requires : goal.is_open-requires
is_open-requires c = omega (arith, wires_small c.args.e.now c.requires.1)

pub loop-j-preserved : goal.loop-j-preserved
loop-j-preserved c =
    let a = c.args in
    let q = c.requires in
    let kind = lent_kind a.e.now in
    let are = kept_tables kind q.1 q.2 in
    let j = c.loop-j.j in
    (c.loop-j.invariant.0, below_more _ _ c.loop-j.invariant.1 (told_no (c.is_open.ensures ∙ free_test kind q.1 q.2 are c.patterns.p j) c.if-is_open.false))

-- a pattern that is passed over is without conflict
pub patterns-preserved : goal.patterns-preserved
patterns-preserved c =
    let a = c.args in
    let q = c.requires in
    let kind = lent_kind a.e.now in
    let are = kept_tables kind q.1 q.2 in
    let l = c.patterns in
    let few : l.p < 2 ^ lent_inputs a.e.now = omega (arith, count_told a.e.now q.0) in
    let side = c.word_of.ensures ∙ q.3 (l.p / narrow_patterns) (omega (arith, count_most q.0)) in
    let here = allowed_test kind q.1 q.2 are l.p side c.value_in.ensures.0 c.contains.ensures in
    elim c.if-not-contains.branch [
      | then-not-contains+else-loop-j-test w ↦
          absurd (some_open kind q.1 q.2 are l.p few (told_no here w.if-not-contains.true) (λ j i. w.loop-j.invariant.1 j (omega (arith, w.loop-j-test.false, wires_told a.e.now))))
      | else-not-contains w ↦ (w.found-is ∙ l.invariant.0, below_more _ _ l.invariant.1 (told_yes here w.if-not-contains.false))
    ]

pub returns-then-is_open : goal.returns-then-is_open
returns-then-is_open c =
    let a = c.args in
    let q = c.requires in
    let kind = lent_kind a.e.now in
    let are = kept_tables kind q.1 q.2 in
    let l = c.patterns in
    let j = c.loop-j.j in
    let few : l.p < 2 ^ lent_inputs a.e.now = omega (arith, count_told a.e.now q.0) in
    let side = c.word_of.ensures ∙ q.3 (l.p / narrow_patterns) (omega (arith, count_most q.0)) in
    let here = allowed_test kind q.1 q.2 are l.p side c.value_in.ensures.0 c.contains.ensures in
    sym
    (pair_open kind q.1 q.2 are l.p j few (omega (arith, wires_told a.e.now)) l.invariant.1 (told_no here c.if-not-contains.true) c.loop-j.invariant.1
    (told_yes (c.is_open.ensures ∙ free_test kind q.1 q.2 are l.p j) c.if-is_open.true))

pub returns-after-patterns : goal.returns-after-patterns
returns-after-patterns c =
    let a = c.args in
    let q = c.requires in
    let kind = lent_kind a.e.now in
    c.patterns.invariant.0 ∙ sym (none_open kind q.1 q.2 (kept_tables kind q.1 q.2) (λ p i. c.patterns.invariant.1 p (omega (arith, count_told a.e.now q.0))))
