-- The picks of the whole relation: all wires are made, and none is stopped by a best, so that they are what is carried of the whole.
use Prim.Native.Nat.{ℕ, zero, suc, ◌+◌, ◌*◌, ◌-◌, ◌^◌, ◌<◌, ◌≤◌}
use mathlib.Core.Path.{◌≡◌, refl, sym, ap, subst, ◌∙◌}
use mathlib.Core.Logic.{⊎_elim}
use mathlib.Core.Bool.{not, cond}
use mathlib.Core.List.{List}
use native.Mathlib.Omega.{arith}
use native.Mathlib.Nat.{lt_of_lt_of_le}
use lib.Dec.{T, nleb→lt}
use lib.ListN.{length, get_or}
use lib.Pow.{pow_mono}
use Rattle.base.proofs.Tests.{decide, test_yes, test_no}
use Rattle.sheet.specs.Limits.{max_inputs, max_wires}
use Rattle.sheet.specs.Inner.Sized.{Sized}
use Rattle.table.specs.Bits.{sum}
use Rattle.table.proofs.Bits.{sum_cong, sum_bound}
use Rattle.table.specs.Inner.Ranks.{narrow_space}
use Rattle.table.specs.Inner.Pairs.{narrow_inputs, narrow_patterns}
use Rattle.table.specs.Inner.Wide.{sections}
use Rattle.nodes.specs.declared.BoardKind.{BoardKind}
use Rattle.nodes.specs.Counts.{most_inputs, count_of}
use Rattle.relation.specs.Inner.Side.{section, side_by_side}
use Rattle.lanes.specs.Inner.Lanes.{each_lane, lane_of, lanes_of, LanesBelow}
use Rattle.lanes.proofs.Lanes.{lanes_cong, side_lanes}
use Rattle.lanes.proofs.Empty.{each_lane_lem}
use Rattle.parts.specs.Inner.Boards.{wide_mark, board_in, lent_kind, lent_inputs, lent_wide, Lent}
use Rattle.parts.specs.Inner.Words.{pairs_of, Covers}
use Rattle.parts.specs.Inner.Masks.{mask_count, Halved, words_of}
use Rattle.parts.specs.Inner.Cells.{cell_space, byte_in, packed, cells_sum}
use Rattle.parts.specs.Inner.Picks.{pick_between, pick_on, cells_on, table_of, tables_of, cells_of}
use Rattle.parts.specs.Inner.Parts.{PartSets, Carried}
use Rattle.parts.specs.declared.states.Running.{Running}
use Rattle.parts.specs.Inner.States.{rest_count, side_at}
use Rattle.parts.proofs.Keeping.{few, table_at, table_lt, table_few, pairs_cover}
use Rattle.parts.proofs.LentPicks.{narrow_inputs_lem}
use Rattle.parts.proofs.WordMasks.{pick_told, pairs_tell}
use Rattle.std.specs.Prelude.{Option, Some, None, IsSome}
use Rattle.halves.specs.declared.Picks.{Picks}
use Rattle.halves.specs.Inner.Remade.{marked, FewCells, cells_again, side_again, Kept, KeptOrOver, Remade}
use Rattle.halves.proofs.Making.{past_section}

-- every wire is marked
pub all_below : LanesBelow 2 each_lane
all_below j l = omega (arith, each_lane_lem j l)

-- no wire has cells before
no_cells : (j : ℕ) → j < max_wires → byte_in 0 j ≡ 0
unfolding byte_in
no_cells zero l = refl
no_cells (suc zero) l = refl
no_cells (suc (suc zero)) l = refl
no_cells (suc (suc (suc zero))) l = refl
no_cells (suc (suc (suc (suc j)))) l = absurd (omega arith)

pub none_few : FewCells 0
none_few = (omega arith, λ j l. omega (arith, no_cells j l))

pub none_sum : cells_sum 0 ≡ 0
unfolding cells_sum byte_in sum
none_sum = refl

module _ {e : List ℕ} (lent : Lent e) {m : ℕ} (sz : Sized (most_inputs (lent_kind e)) (lent_inputs e) m) {S : List ℕ} (ok : PartSets (lent_inputs e) m S) (masks : List ℕ)
    (ew : words_of masks ≡ pairs_of S) where
  abbrev kind : BoardKind
  kind = lent_kind e

  abbrev n : ℕ
  n = lent_inputs e

  abbrev words : List ℕ
  words = words_of masks

  pub whole_cover : (j : ℕ) → j < max_wires → Covers (lent_inputs e) (words_of masks) j
  whole_cover j l = rw ew (pairs_cover kind sz ok j l)

  new_pick : (i : ℕ) → i < max_wires → pick_on e words i ≡ table_of kind n S i
  new_pick i li = ap (λ x. pick_between kind n x i) ew ∙ pick_told (pairs_of S) S i (pairs_tell S i li) kind n

  chosen_first : (i : ℕ) → i < max_wires → (x y : ℕ) → cond (marked each_lane i) x y ≡ x
  chosen_first i li x y = rw (each_lane_lem i li)

  again_cells : (i : ℕ) → i < max_wires → cells_again e words each_lane 0 i ≡ count_of kind n (table_of kind n S i)
  again_cells i li = chosen_first i li (cells_on e words i) (byte_in 0 i) ∙ ap (count_of kind n) (new_pick i li)

  again_side : (side q : ℕ) → lanes_of (side_again e words each_lane side q) ≡ side_by_side (tables_of kind n S) q
  again_side side q =
      lanes_cong (side_again e words each_lane side q) (λ i. section (get_or (tables_of kind n S) i 0) q)
      (λ i li.
      chosen_first i li (section (pick_on e words i) q) (lane_of side i) ∙ ap (λ t. section t q) (new_pick i li ∙ sym (table_at kind n S i li)))
      ∙ sym (side_lanes (tables_of kind n S) q)

  all_cells : packed (cells_again e words each_lane 0) ≡ cells_of kind n S
  unfolding packed cells_of
  all_cells =
      sum_cong max_wires (λ i. cells_again e words each_lane 0 i * cell_space ^ i) (λ i. count_of kind n (table_of kind n S i) * cell_space ^ i)
      (λ i li. ap (λ x. x * cell_space ^ i) (again_cells i li))

  -- on a board that is not wide no table reaches past the first section
  narrow_side : T (not (lent_wide e)) → (q : ℕ) → 1 ≤ q → side_by_side (tables_of kind n S) q ≡ 0
  unfolding lanes_of sum
  narrow_side narrow q lq =
      let f : n ≤ narrow_inputs = narrow_inputs_lem e lent (board_in e) refl (nleb→lt wide_mark (board_in e) narrow) in
      let small : (i : ℕ) → table_of kind n S i < narrow_space =
      λ i. lt_of_lt_of_le (table_lt kind sz ok i) (pow_mono {i = 2 ^ n} {j = narrow_patterns} (pow_mono {i = n} {j = narrow_inputs} f)) in
      side_lanes (tables_of kind n S) q
      ∙ lanes_cong (λ i. section (get_or (tables_of kind n S) i 0) q) (λ _. 0)
      (λ i li. ap (λ t. section t q) (table_at kind n S i li) ∙ past_section (table_of kind n S i) q (small i) lq)

  module _ {before after : Running} {o : Option Picks} (none : (i : ℕ) → i < rest_count → get_or before.rest i 0 ≡ 0) (space : before.cells ≡ cell_space)
      (made : Remade e (words_of masks) each_lane 0 0 before after o) where
    -- the cells of all wires together are below the space of a byte, so that every pick is made
    all_few : sum max_wires (cells_again e words each_lane 0) ≤ max_wires * (2 ^ max_inputs - 1)
    all_few =
        sum_bound max_wires (2 ^ max_inputs - 1) (cells_again e words each_lane 0)
        (λ j l. omega (arith, again_cells j l, table_few kind n (few kind sz) S j))

    none_dropped : o ≡ None → ⊥
    none_dropped d =
        let over = subst (KeptOrOver e (words_of masks) each_lane 0 0 before after) d made.told in
        absurd (omega (arith, over (λ j l. omega (arith, no_cells j l)), space, all_few))

    pub is_some : IsSome o
    is_some = go o refl
      where
        go : (x : Option Picks) → o ≡ x → IsSome x
        go (Some r) d = refl
        go None d = absurd (none_dropped d)

    module _ {r : Picks} (is : o ≡ Some r) where
      kept : Kept e (words_of masks) each_lane 0 0 before after r
      kept = subst (KeptOrOver e (words_of masks) each_lane 0 0 before after) is made.told

      rest_side : (i : ℕ) → i < rest_count → get_or after.rest i 0 ≡ side_by_side (tables_of kind n S) (suc i)
      rest_side i li =
          let x = get_or before.rest i 0 in
          let q : i + 1 ≡ suc i = omega arith in
          kept.rest i li
          ∙ ⊎_elim
          (λ t. ap (λ y. cond y (lanes_of (side_again e words each_lane x (i + 1))) x) (test_yes (lent_wide e) t) ∙ again_side x (i + 1) ∙ ap (side_by_side (tables_of kind n S)) q)
          (λ t. ap (λ y. cond y (lanes_of (side_again e words each_lane x (i + 1))) x) (test_no (lent_wide e) t) ∙ none i li ∙ sym (narrow_side t (suc i) (omega arith)))
          (decide (lent_wide e))

      whole_tables : (q : ℕ) → q < sections → side_at r.low after q ≡ side_by_side (tables_of kind n S) q
      unfolding side_at
      whole_tables zero lq = kept.low ∙ again_side 0 0
      whole_tables (suc i) lq = rest_side i (omega arith)

      pub whole_carried : length masks ≡ mask_count → Halved masks → Carried (lent_kind e) (lent_inputs e) m S masks after r.low r.cells
      whole_carried long halved =
          record {
            sized = sz;
            sets = ok;
            long = long;
            halved = halved;
            masks = ew;
            tables = whole_tables;
            cells = kept.counts ∙ all_cells;
          }
