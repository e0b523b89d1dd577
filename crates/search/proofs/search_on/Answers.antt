-- `search_on` meets its contract: what the relation's test accepts is searched, and what it refuses is refused.
use borrow.Author.Rules.{rules}
use mathlib.Core.Path.{◌≡◌, ap, sym, subst, ◌∙◌}
use lib.ListN.{length}
use Rattle.sheet.specs.Limits.{max_patterns}
use Rattle.relation.specs.Tests.{of_sets}
use Rattle.branch_bound.specs.Search.{run}
use Rattle.branch_bound.specs.Boards.{board_of}
use Rattle.branch_bound.specs.Reply.{answer_of}
use Rattle.base.proofs.Passing.{passed_on}
use Rattle.search.specs.Cases.{search_reply}
use Rattle.parts.specs.Inner.Parts.{PartSets}
use Rattle.search.proofs.Entry.{tested, sizes_held, few_held, sets_held, as_held, answered, turned_away_lem}
use Rattle.search.proofs.search_on.Goals as goal

pub returns-in_err-check : goal.returns-in_err-check
returns-in_err-check c =
    let a = c.args in
    let h = c.in_err-check in
    ap search_reply (passed_on c.from_residual.result h.field-0.0 c.from_residual.ensures.1)
    ∙ sym (turned_away_lem a.kind a.relation a.budget h.field-0.0 (tested a.kind a.relation c.most_inputs.ensures h.ensures))

pub clear_past-sets-requires : goal.clear_past-sets-requires
clear_past-sets-requires c =
    let a = c.args in
    let l : length a.relation.sets ≡ max_patterns = search rules in
    few_held a.kind a.relation l (tested a.kind a.relation c.most_inputs.ensures c.in_ok-check.ensures)

pub search_tested-requires : goal.search_tested-requires
search_tested-requires c =
    let a = c.args in
    let l : length a.relation.sets ≡ max_patterns = search rules in
    let p = tested a.kind a.relation c.most_inputs.ensures c.in_ok-check.ensures in
    (sizes_held a.kind a.relation l p, subst (PartSets a.relation.n a.relation.m) (sym c.clear_past-sets.ensures) (sets_held a.kind a.relation l p))

pub returns : goal.returns
returns c =
    let a = c.args in
    let r = a.relation in
    let l : length r.sets ≡ max_patterns = search rules in
    let p = tested a.kind a.relation c.most_inputs.ensures c.in_ok-check.ensures in
    c.search_tested.ensures
    ∙ ap (λ R. answer_of (board_of a.kind r.n r.m) R (run (board_of a.kind r.n r.m) a.budget R)) (ap of_sets c.clear_past-sets.ensures ∙ as_held a.kind r l p)
    ∙ sym (answered a.kind r l p a.budget)
