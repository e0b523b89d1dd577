-- `keep_first`: the first answer is the best so far.
use mathlib.Core.Path.{refl, ap, ◌∙◌}
use Rattle.parts.specs.Inner.Boards.{lent_kind}
use Rattle.visits.specs.Inner.States.{state_of}
use Rattle.search.proofs.Beginnings.{first_table, first_cells}
use Rattle.search.proofs.beginning.keep_first.Goals as goal

pub quick-first-requires : goal.quick-first-requires
quick-first-requires c =
    let q = c.requires in
    let k = lent_kind c.args.e.now in
    let t = c.joined-table.ensures ∙ rw c.rest_of-rest.ensures (first_table k q.1 q.2 c.args.low c.args.state.now q.3) in
    (q.0, q.1, q.2, t, first_cells k q.1 q.2 q.4 t c.first_of.ensures)

pub returns : goal.returns
unfolding state_of
returns c =
    let k = c.keep_tables.ensures in
    let s = c.quick-first.ensures in
    rw (c.put_back.ensures, c.rest_of-rest.ensures) (λ i _. refl, k.0 ∙ ap (λ x. x.tables) s, k.1 ∙ ap (λ x. x.cells) s)
