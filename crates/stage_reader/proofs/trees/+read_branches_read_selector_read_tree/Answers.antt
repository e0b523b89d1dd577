-- `read_tree`, `read_selector` and `read_branches` meet their contracts: what they hand back is told by the tree that the meaning takes.
use Rattle.std.proofs.Common.{◌≡◌, ◌+◌, ◌<◌, ◌≤◌, true, false, get_or, sym, ap, ◌∙◌, arith}
use borrow.Author.Tests.{le-leb, lt-leb}
use Rattle.base.specs.Refusals.{refusal_at}
use Rattle.sheet.specs.Limits.{count_out}
use Rattle.table.specs.Tree.{tree_cells}
use Rattle.table.proofs.Wired.{selector_most}
use Rattle.stage.specs.Steps.{misplaced}
use Rattle.stage.specs.TreeRead.{tree_known}
use Rattle.stage.specs.Trees.{tree_drawing}
use Rattle.stage_reader.specs.Inner.Wires.{wire_reply, step_of}
use Rattle.stage_reader.proofs.TreePlaces.{tree_cut, tree_selects, tree_zero, tree_one, tree_misplaced, selector_cut, selector_out, selector_input}
use Rattle.stage_reader.proofs.Selecting.{table_zero, table_one}
use Rattle.stage_reader.proofs.Exits.{exit_told}
use Rattle.stage_reader.proofs.Taken.{step_refused_lem, exit_refused}
use Rattle.stage_reader.proofs.Branches.{tree_bounds, first_fault, second_fault, both_taken}
use Rattle.stage_reader.proofs.trees.+read_branches_read_selector_read_tree.Goals as goal

-- the two trees of a selector: one of them is refused, or both are read
pub read_branches-returns-in_err-off : goal.read_branches-returns-in_err-off
read_branches-returns-in_err-off t c =
    let a = c.args in
    exit_told wire_reply _ _ _ c.from_residual.ensures.1 (first_fault a.s.now a.n a.i a.at _ c.in_err-off.ensures)

pub read_branches-returns-in_err-on : goal.read_branches-returns-in_err-on
read_branches-returns-in_err-on t c =
    let a = c.args in
    exit_told wire_reply _ _ _ c.from_residual-in_err-on.ensures.1 (second_fault a.s.now a.n a.i a.at _ _ _ c.in_ok-off.ensures _ c.in_err-on.ensures)

pub read_branches-select-requires : goal.read_branches-select-requires
read_branches-select-requires t c =
    let a = c.args in
    let p = c.requires in
    let off = tree_bounds a.s.now a.n a.i a.at _ _ _ p.1 p.2 c.in_ok-off.ensures in
    let on = tree_bounds a.s.now a.n a.i c.in_ok-off.off.next _ _ _ p.1 p.2 c.in_ok-on.ensures in
    (p.0, p.1, p.2, off.0, on.0)

pub read_branches-overflow_add-result : goal.read_branches-overflow_add-result
read_branches-overflow_add-result t c =
    let a = c.args in
    let off = tree_bounds a.s.now a.n a.i a.at _ _ _ c.requires.1 c.requires.2 c.in_ok-off.ensures in
    let one_most : c.selector_cost.result ≤ 1 = rw c.selector_cost.ensures (selector_most _) in
    omega (arith, off.1)

pub read_branches-overflow_add-result-2 : goal.read_branches-overflow_add-result-2
read_branches-overflow_add-result-2 t c =
    let a = c.args in
    let off = tree_bounds a.s.now a.n a.i a.at _ _ _ c.requires.1 c.requires.2 c.in_ok-off.ensures in
    let on = tree_bounds a.s.now a.n a.i c.in_ok-off.off.next _ _ _ c.requires.1 c.requires.2 c.in_ok-on.ensures in
    let one_most : c.selector_cost.result ≤ 1 = rw c.selector_cost.ensures (selector_most _) in
    omega (arith, off.1, on.1)

pub read_branches-returns : goal.read_branches-returns
read_branches-returns t c =
    let a = c.args in
    both_taken a.s.now a.n a.i a.at _ _ _ c.in_ok-off.ensures _ _ _ _ _ c.in_ok-on.ensures c.select.ensures c.selector_cost.ensures

-- a selector
pub read_selector-returns-in_err-i : goal.read_selector-returns-in_err-i
read_selector-returns-in_err-i t c =
    let cut = c.in_err-i.ensures in
    exit_refused tree_drawing _ _ _ _ _ c.from_residual.ensures.1 (selector_cut _ _ _ _ cut.0) cut.1

pub read_selector-returns-then-count_out : goal.read_selector-returns-then-count_out
read_selector-returns-then-count_out t c =
    let i = c.in_ok-i.ensures in
    let out : count_out (get_or c.args.s.now (c.args.at + 1) 0) c.args.n ≡ true = rw i.1 at (sym c.count_out.ensures ∙ c.if-count_out.true) in
    step_refused_lem tree_drawing _ _ _ _ (selector_out _ _ _ _ i.0 out) c.at.ensures

-- an input of the sheet: whether it comes after the parent's decides (the goal that is named by this test's text comes second)
pub read_selector-returns : goal.read_selector-returns
read_selector-returns t c =
    let a = c.args in
    let i = c.in_ok-i.ensures in
    let in_range : count_out (get_or a.s.now (a.at + 1) 0) a.n ≡ false = rw i.1 at (sym c.count_out.ensures ∙ c.if-count_out.false) in
    let above : a.k < get_or a.s.now (a.at + 1) 0 = omega arith in
    rw (selector_input _ _ _ _ i.0 in_range, lt-leb _ _ above, ← i.1) c.read_branches.ensures

pub read_selector-returns-then-i-k : goal.read_selector-returns-then-i-k
read_selector-returns-then-i-k t c =
    let a = c.args in
    let i = c.in_ok-i.ensures in
    let in_range : count_out (get_or a.s.now (a.at + 1) 0) a.n ≡ false = rw i.1 at (sym c.count_out.ensures ∙ c.if-count_out.false) in
    let not_above : get_or a.s.now (a.at + 1) 0 ≤ a.k = rw i.1 at c.if-i-k.true in
    step_refused_lem tree_drawing _ _ _ _ (selector_input _ _ _ _ i.0 in_range ∙ rw (le-leb _ _ not_above)) c.at-then-i-k.ensures

-- a tree
pub read_tree-returns-in_err-b : goal.read_tree-returns-in_err-b
read_tree-returns-in_err-b t c =
    let cut = c.in_err-b.ensures in
    exit_refused tree_drawing _ _ _ _ _ c.from_residual.ensures.1 (tree_cut _ _ _ _ c.requires.0 cut.0) cut.1

pub read_tree-returns-in-34 : goal.read_tree-returns-in-34
read_tree-returns-in-34 t c =
    let a = c.args in
    let b = c.in_ok-b.ensures in
    rw (tree_selects a.s.now a.n a.k a.at c.requires.0 b.0 (sym b.1 ∙ c.in-34.is)) c.read_selector.ensures

pub read_tree-returns-in-35 : goal.read_tree-returns-in-35
unfolding step_of tree_cells
read_tree-returns-in-35 t c =
    let a = c.args in
    let b = c.in_ok-b.ensures in
    rw (tree_zero a.s.now a.n a.k a.at c.requires.0 b.0 (sym b.1 ∙ c.in-35.is), table_zero a.n)

pub read_tree-returns-in-36 : goal.read_tree-returns-in-36
unfolding step_of tree_cells
read_tree-returns-in-36 t c =
    let a = c.args in
    let b = c.in_ok-b.ensures in
    let one = c.full_table.ensures ∙ table_one a.n in
    rw (tree_one a.s.now a.n a.k a.at c.requires.0 b.0 (sym b.1 ∙ c.in-36.is), one)

pub read_tree-returns-in_default : goal.read_tree-returns-in_default
read_tree-returns-in_default t c =
    let a = c.args in
    let b = c.in_ok-b.ensures in
    let stray = tree_misplaced a.s.now a.n a.k a.at c.requires.0 b.0 (λ e. omega arith) (λ e. omega arith) (λ e. omega arith) in
    step_refused_lem tree_drawing _ _ _ _ stray (c.misplaced.ensures ∙ ap (λ x. refusal_at (misplaced tree_known x) a.at) b.1)
