-- `begin_search`: the state has the relation by value.
use mathlib.Core.Path.{refl, ap, ◌∙◌}
use mathlib.Core.Bool.{cond}
use native.Mathlib.Omega.{arith}
use Rattle.sheet.specs.Limits.{max_patterns}
use Rattle.table.specs.Inner.Pairs.{narrow_patterns}
use Rattle.parts.specs.Inner.Boards.{board_in, lent_inputs, lent_count, lent_wide}
use Rattle.parts.proofs.Lending.{board_small}
use Rattle.visits.specs.Inner.States.{state_of}
use Rattle.search.proofs.Beginnings.{count_small, seen_told}
use Rattle.search.proofs.beginning.begin_search.Goals as goal

pub overflow_cast-e : goal.overflow_cast-e
overflow_cast-e c = omega (arith, board_small c.requires)

pub overflow_cast-e-2 : goal.overflow_cast-e-2
overflow_cast-e-2 c = omega (arith, count_small c.requires)

pub returns : goal.returns
unfolding board_in lent_count state_of
returns c =
    let e = c.args.e.now in
    let g = c.begin.ensures in
    let seen = seen_told c.whole_of-whole.result (lent_inputs e) (lent_wide e) c.args.sets.now c.whole_of-whole.ensures c.requires.count (c.seen_of-seen.ensures ∙ ap (λ w. cond w max_patterns narrow_patterns) c.is_wide.ensures) in
    rw g (refl, λ i _. refl, refl, seen)
