-- `selector_count` meets its contract: the halves of a table are equal, or a selector stands over the trees of both.
use Rattle.std.proofs.Common.{◌≡◌, ℕ, ◌+◌, ◌-◌, ◌<◌, ◌≤◌, sym, ◌∙◌, arith}
use Rattle.sheet.specs.Limits.{max_inputs, max_patterns}
use Rattle.table.specs.Tree.{selectors, reduced}
use Rattle.stage.proofs.TreeTables.{patterns_most, reduced_selectors_lt}
use Rattle.stage_writer.proofs.Halves.{same_selectors, two_selectors}
use Rattle.stage_writer.proofs.trees.+selector_count.Goals as goal

pub returns-then-w-eq0 : goal.returns-then-w-eq0
unfolding selectors reduced
returns-then-w-eq0 t c = λ k. simp c.if-w-eq0.true

-- a half has fewer selectors than it has patterns, which are no more than there are
few : (w t r : ℕ) → w ≤ max_inputs → ((k : ℕ) → r ≡ selectors (reduced (w - 1) k t)) → r < max_patterns
few w t r l e = omega (arith, e 0, reduced_selectors_lt (w - 1) 0 t, patterns_most (w - 1) (omega arith))

pub overflow_add-result : goal.overflow_add-result
overflow_add-result t c = omega (arith, few c.args.w _ c.selector_count.result c.requires c.selector_count.ensures)

pub overflow_add-result-then-low-high : goal.overflow_add-result-then-low-high
overflow_add-result-then-low-high t c =
    omega (
      arith,
      few c.args.w _ c.selector_count.result c.requires c.selector_count.ensures,
      few c.args.w _ c.selector_count-then-low-high.result c.requires c.selector_count-then-low-high.ensures,
    )

pub returns-then-low-high : goal.returns-then-low-high
returns-then-low-high t c =
    let a = c.args in
    λ k.
    let low : c.selector_count.result ≡ selectors (reduced (a.w - 1) (k + 1) c.halves-low.result.0) = c.selector_count.ensures (k + 1) in
    let high : c.selector_count-then-low-high.result ≡ selectors (reduced (a.w - 1) (k + 1) c.halves-low.result.1) = c.selector_count-then-low-high.ensures (k + 1) in
    omega (arith, low, high, two_selectors a.w a.t _ _ c.if-w-eq0.false c.halves-low.ensures.0 c.halves-low.ensures.1 k c.if-low-high.true)

pub returns : goal.returns
returns t c =
    let a = c.args in
    λ k. c.selector_count-2.ensures (k + 1) ∙ sym (same_selectors a.w a.t _ _ c.if-w-eq0.false c.halves-low.ensures.0 c.halves-low.ensures.1 k c.if-low-high.false)
