-- `lent_for` marks the table of the board.
use borrow.Author.Rules.{rules}
use Prim.Native.Nat.{◌+◌}
use mathlib.Core.Path.{◌≡◌, sym, ap, subst, ◌∙◌}
use native.Mathlib.Omega.{arith}
use native.Mathlib.Nat.{le_trans}
use lib.ListN.{length}
use Rattle.table.specs.Inner.Blocks.{entries, Blocks}
use Rattle.nodes.specs.Inner.Tops.{Tops}
use Rattle.nodes.proofs.Counts.{most_inputs_lem}
use Rattle.parts.specs.Inner.Boards.{board_in, board_number, LentFor}
use Rattle.parts.proofs.BoardNumbers.{lent, lent_kind_lem, lent_inputs_lem, marked, marked_board, marked_wires, marked_count, marked_entries}
use Rattle.search.proofs.lent_for.Goals as goal
use Rattle.search.proofs.lent_for.Goals.{in-Tree, in-Sharing}

pub returns : goal.returns
returns c = let a = c.args in
    let q = c.requires in
    let t = c.match-kind.table in
    let b = c.board_of.result in
    let k = c.patterns_of.result in
    let e = marked t b a.m k in
    let long : length t ≡ entries + 3 =
    elim c.match-kind.branch [
      | in-Tree w ↦ let l : length w.blocks-table.result ≡ entries + 3 = search rules in ap length w.table-is ∙ l
      | in-Sharing w ↦ let l : length w.tops-table.result ≡ entries + 3 = search rules in ap length w.table-is ∙ l
    ] in
    let at : board_in e ≡ board_number a.kind a.n = marked_board t b a.m k (rw long (omega arith)) ∙ c.board_of.ensures in
    let for_kind : LentFor a.kind t =
    elim c.match-kind.branch [
      | in-Tree w ↦ subst (λ k. LentFor k t) (sym w.in-Tree.is) (subst Blocks (sym w.table-is) w.blocks-table.ensures)
      | in-Sharing w ↦ subst (λ k. LentFor k t) (sym w.in-Sharing.is) (subst Tops (sym w.table-is) w.tops-table.ensures)
    ] in
    let patterns = c.patterns_of.ensures.2 (le_trans q.n_most (most_inputs_lem a.kind)) in (
      lent a.kind a.n q.n_most e at q.n_least (marked_entries t b a.m k a.kind for_kind) (marked_count t b a.m k (rw long (omega arith)) ∙ patterns),
      lent_kind_lem a.kind a.n q.n_most e at,
      lent_inputs_lem a.kind a.n q.n_most e at,
      marked_wires t b a.m k (rw long (omega arith)),
    )
