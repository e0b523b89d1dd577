-- A part that is made and kept may be visited.
use Prim.Native.Nat.{ℕ, suc, ◌+◌, ◌*◌, ◌/◌, ◌%◌, ◌^◌, ◌<◌, ◌≤◌}
use mathlib.Core.Path.{◌≡◌, refl, sym, ap, subst, ◌∙◌}
use mathlib.Core.Logic.{⊎_elim}
use mathlib.Core.Bool.{not, cond}
use mathlib.Core.List.{List}
use native.Mathlib.Omega.{arith}
use native.Mathlib.Nat.{lt_of_lt_of_le}
use lib.Dec.{eqb, eqb→eq}
use lib.ListN.{get_or}
use lib.Pow.{pow_mono}
use lib.Seq.{get_or-set_other}
use Rattle.base.proofs.Tests.{decide}
use Rattle.sheet.specs.Limits.{max_wires, max_patterns, max_values}
use Rattle.table.specs.Bits.{bit, is_one}
use Rattle.table.proofs.Bits.{tabulate_cong}
use Rattle.nodes.specs.declared.BoardKind.{BoardKind}
use Rattle.relation.specs.Tests.{of_sets, occurs}
use Rattle.relation.specs.Inner.Members.{member, with_bit}
use Rattle.relation.proofs.Members.{member_sets}
use Rattle.table.specs.Inner.Pairs.{narrow_patterns}
use Rattle.relation.specs.Inner.Side.{section}
use Rattle.relation.proofs.Side.{section_lt, section_bit}
use Rattle.lanes.specs.Inner.Lanes.{lanes_space, lane_of, LanesBelow}
use Rattle.lanes.proofs.Lanes.{lanes_lt, side_lanes}
use Rattle.parts.specs.Inner.Boards.{lent_kind, lent_inputs, lent_wide, Lent}
use Rattle.parts.specs.Inner.Words.{Covers}
use Rattle.parts.specs.Inner.Cells.{cells_sum}
use Rattle.parts.specs.Inner.Masks.{words_of}
use Rattle.parts.specs.Inner.Picks.{table_of, tables_of}
use Rattle.parts.specs.Inner.Parts.{Carried}
use Rattle.parts.specs.declared.states.Running.{Running}
use Rattle.parts.specs.Inner.States.{rest_count, side_at}
use Rattle.visits.specs.Inner.Conflicts.{Settled, AllowedBelow}
use Rattle.visits.proofs.StateChanges.{same_whole, same_cells}
use Rattle.std.specs.Prelude.{Some}
use Rattle.relation.specs.Inner.Narrowed.{narrowed}
use Rattle.halves.specs.declared.Picks.{Picks}
use Rattle.halves.specs.Inner.Remade.{FewCells, Remade}
use Rattle.halves.specs.Inner.Whole.{Whole}
use Rattle.halves.proofs.Agreeing.{agrees_narrowed, settled_below}
use Rattle.halves.proofs.Making.{past_zero, side_lane, Half, part_sets, part_masks, there, half_cover, half_few, table_again, made_carried}
use Rattle.halves.proofs.MadeAgain.{lane_zero}

module _ {e : List ℕ} {m : ℕ} {S ws : List ℕ} {l : Running} {low c p j b w : ℕ} (h : Half e m S ws l low c p j b w) where
  abbrev kind : BoardKind
  kind = lent_kind e

  abbrev n : ℕ
  n = lent_inputs e

  -- where no pick was made again the tables are the same, and the patterns below p are as they were
  module _ (lost : ℕ) (told : (i : ℕ) → i < max_wires → lane_of lost i ≡ is_one (not (occurs max_wires (member w) i (bit (table_of kind n S i) p)))) where
    same_tables : lost ≡ 0 → tables_of kind n (part_sets h) ≡ tables_of kind n S
    unfolding tables_of
    same_tables z =
        tabulate_cong max_wires (table_of kind n (part_sets h)) (table_of kind n S)
        (λ i li.
        sym (table_again h lost told i li (λ t. t)) ∙ ap (λ x. cond (eqb (lane_of x i) 1) (table_of kind n (part_sets h) i) (table_of kind n S i)) z
        ∙ ap (λ x. cond (eqb x 1) (table_of kind n (part_sets h) i) (table_of kind n S i)) (lane_zero i))

    still_settled : lost ≡ 0 → Settled m S (tables_of kind n S) p → Settled m (part_sets h) (tables_of kind n (part_sets h)) p
    unfolding narrowed
    still_settled z settled q l =
        let ne : q ≡ p → ⊥ = λ d. absurd (omega arith) in
        let there' : get_or (part_sets h) q 0 ≡ get_or S q 0 = get_or-set_other S p q (with_bit (get_or S p 0) j b) 0 ne in
        let at' : of_sets (part_sets h) q ≡ of_sets S q = member_sets (part_sets h) q ∙ ap member there' ∙ sym (member_sets S q) in
        rw (at', same_tables z) (settled q l)

    pub ready : Whole (lent_wide e) n S l.whole → Settled m S (tables_of kind n S) p → {after : Running} {r : Picks} → Remade e (words_of (part_masks h)) lost low c l after (Some r)
        → (from : ℕ) → (lost ≡ 0 → from ≡ p) × (0 < lost → AllowedBelow (lent_wide e) n r.low after from)
        → Carried kind n m (part_sets h) (part_masks h) after r.low r.cells × Whole (lent_wide e) n (part_sets h) after.whole × (from ≤ 2 ^ n)
        × Settled m (part_sets h) (tables_of kind n (part_sets h)) from × (cells_sum r.cells < after.cells)
    ready whole settled {after} {r} made from begin =
        let carried = made_carried h lost told made.told refl refl in
        let now = subst (Whole (lent_wide e) n S) (sym (same_whole made.same)) whole in
        let small : get_or S p 0 < 2 ^ max_values =
        lt_of_lt_of_le (h.carried.sets.small p) (pow_mono {i = 2 ^ m} {j = max_values} (pow_mono {i = m} {j = max_wires} h.carried.sized.m_most)) in
        let lj : j < max_wires = omega (arith, h.wire, h.carried.sized.m_most) in
        let cut : Whole (lent_wide e) n (part_sets h) after.whole =
        record { sets = now.sets; seen = now.seen; agrees = agrees_narrowed n now.sets S p j b h.carried.sets.long (there h) lj small now.agrees } in
        let settled' : (from ≤ 2 ^ n) × Settled m (part_sets h) (tables_of kind n (part_sets h)) from =
        ⊎_elim
        (λ t.
        let z = eqb→eq lost 0 t in
        let d = begin.0 z in
        (rw d (omega (arith, h.pattern)), rw d (still_settled z settled)))
        (λ t.
        let below = begin.1 (past_zero lost t) now.sets (tables_of kind n (part_sets h)) now.seen carried.tables in
        (below.0, settled_below kind carried.sized carried.sets now.sets cut.agrees below))
        (decide (eqb lost 0)) in (
          carried,
          cut,
          settled'.0,
          settled'.1,
          rw (same_cells made.same) made.told.under,
        )

-- what the code reads off the tables on pattern p
module _ {kind : BoardKind} {n m : ℕ} {S ws : List ℕ} {l : Running} {low c : ℕ} (h : Carried kind n m S ws l low c) where
  pub driven_told : (p : ℕ) → p < max_patterns → (driven : ℕ) → ((i : ℕ) → i < max_wires → lane_of driven i ≡ bit (lane_of (side_at low l (p / narrow_patterns)) i) (p % narrow_patterns))
      → (i : ℕ) → i < max_wires → lane_of driven i ≡ bit (table_of kind n S i) p
  driven_told p lp driven ed i li =
      let q = p / narrow_patterns in
      let r = p % narrow_patterns in
      let place : narrow_patterns * q + r ≡ p = omega arith in
      ed i li ∙ ap (λ x. bit x r) (side_lane h q i (omega arith) li) ∙ section_bit (table_of kind n S i) q r (omega arith) ∙ ap (bit (table_of kind n S i)) place

  -- the tables on the sections past the first are numbers of four lanes
  rest_fit : (i : ℕ) → i < rest_count → get_or l.rest i 0 < lanes_space
  unfolding side_at
  rest_fit i li =
      rw (h.tables (suc i) (omega arith), side_lanes (tables_of kind n S) (suc i))
      (lanes_lt (λ k. section (get_or (tables_of kind n S) k 0) (suc i)) (λ k _. section_lt (get_or (tables_of kind n S) k 0) (suc i)))

-- what is asked of the picks to be made again
module _ {e : List ℕ} {m : ℕ} {S ws : List ℕ} {l : Running} {low c p j b w : ℕ} (h : Half e m S ws l low c p j b w) where
  pub asked : {M : List ℕ} → M ≡ part_masks h → {lost : ℕ} → LanesBelow 2 lost → lost < lanes_space → cells_sum c < l.cells
      → Lent e × ((i : ℕ) → i < max_wires → Covers (lent_inputs e) (words_of M) i) × ((i : ℕ) → i < rest_count → get_or l.rest i 0 < lanes_space)
      × LanesBelow 2 lost × (lost < lanes_space) × FewCells c × (cells_sum c < l.cells)
  asked eM bits within under = (
    h.lent,
    λ i li. subst (λ x. Covers (lent_inputs e) (words_of x) i) (sym eM) (half_cover h i li),
    rest_fit h.carried,
    bits,
    within,
    half_few h,
    under,
  )
