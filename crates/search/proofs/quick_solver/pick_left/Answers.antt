use Prim.Native.Nat.{◌<◌, ◌^◌}
use mathlib.Core.Path.{ap, ◌∙◌}
use native.Mathlib.Omega.{arith}
use lib.ListN.{set}
use Rattle.nodes.specs.Counts.{count_of}
use Rattle.parts.specs.Inner.Boards.{board_in, lent_kind, lent_inputs}
use Rattle.parts.specs.Inner.Masks.{words_of}
use Rattle.parts.specs.Inner.Picks.{pick_on}
use Rattle.parts.specs.Inner.Words.{words_for}
use Rattle.parts.proofs.Keeping.{alone_cover, table_lt}
use Rattle.parts.proofs.WordMasks.{pick_told, alone_tells}
use Rattle.parts.proofs.Lending.{board_small, inputs_told, inputs_few}
use Rattle.search.proofs.PickTables.{cells_told, table_told}
use Rattle.search.proofs.quick_solver.pick_left.Goals as goal

pub overflow_cast-board : goal.overflow_cast-board
overflow_cast-board c = omega (arith, board_small c.requires.0)

pub pair_of-words-requires : goal.pair_of-words-requires
pair_of-words-requires c = let q = c.requires in
    let en = inputs_told c.args.e.now c.inputs_of.ensures in
    (rw en (inputs_few q.0), q.3, rw en q.2.past)

pub pick_at-found-requires : goal.pick_at-found-requires
pick_at-found-requires c = let b = c in
    let a = b.args in
    let q = b.requires in
    let w = c.masks_of-masks.ensures.0 ∙ c.pair_of-words.ensures in
    (q.0, q.3, rw w (alone_cover (lent_kind a.e.now) q.1 q.2 a.j q.3))

pub returns : goal.returns
unfolding board_in
returns c = let b = c in
    let a = b.args in
    let q = b.requires in
    let e = a.e.now in
    let w = c.masks_of-masks.ensures.0 ∙ c.pair_of-words.ensures in
    let words = words_of c.masks_of-masks.result in
    let r = c.pick_at-found.ensures in
    let p = pick_told (words_for a.left.now a.j) a.left.now a.j (alone_tells a.left.now a.j q.3) (lent_kind e) (lent_inputs e) in
    let picked = ap (λ x. pick_on e x a.j) w ∙ p in
    let fits : pick_on e words a.j < 2 ^ (2 ^ lent_inputs e) = rw picked (table_lt (lent_kind e) q.1 q.2 a.j) in (
      ap (set a.tables.now a.j) (c.table_at.ensures ∙ table_told q.0 words a.j q.3 fits r.0 r.1 c.is_wide.ensures ∙ picked),
      c.cells_in.ensures ∙ cells_told q.0 words a.j q.3 fits r.0 ∙ ap (count_of (lent_kind e) (lent_inputs e)) picked,
    )
