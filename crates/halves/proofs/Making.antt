-- One part of a split as the code makes it: its masks, its picks and their cells are those of the part.
use Prim.Native.Nat.{ℕ, zero, suc, ◌+◌, ◌*◌, ◌/◌, ◌%◌, ◌^◌, ◌<◌, ◌≤◌}
use mathlib.Core.Path.{◌≡◌, refl, sym, ap, ap₂, subst, ◌∙◌}
use mathlib.Core.Logic.{⊎_elim}
use mathlib.Core.Bool.{not, cond}
use mathlib.Core.List.{List}
use native.Mathlib.Omega.{arith}
use native.Mathlib.Nat.{lt_of_lt_of_le, div-eq_of_lt}
use lib.Dec.{T, eqb, nleb→lt}
use lib.ListN.{get_or}
use lib.Pow.{pow_mono}
use Rattle.base.proofs.Tests.{decide, test_yes, test_no}
use Rattle.sheet.specs.Limits.{max_inputs, max_wires, max_patterns}
use Rattle.table.specs.Bits.{bit, is_one, sum}
use Rattle.table.proofs.Bits.{sum_cong}
use Rattle.table.proofs.Sums.{sum_le}
use Rattle.table.specs.Inner.Ranks.{narrow_space}
use Rattle.table.specs.Inner.Pairs.{narrow_inputs, narrow_patterns}
use Rattle.table.specs.Inner.Wide.{sections}
use Rattle.nodes.specs.declared.BoardKind.{BoardKind}
use Rattle.nodes.specs.Counts.{count_of}
use Rattle.relation.specs.Tests.{of_sets, occurs, is_open}
use Rattle.relation.specs.Inner.Members.{member, with_bit}
use Rattle.relation.specs.Inner.Narrowed.{narrowed}
use Rattle.relation.specs.Inner.Side.{section, side_by_side}
use Rattle.relation.proofs.Side.{section_lt}
use Rattle.lanes.specs.Inner.Lanes.{lane_of, lanes_of}
use Rattle.lanes.proofs.Lanes.{lane_lanes, lanes_cong, side_lanes}
use Rattle.parts.specs.Inner.Boards.{wide_mark, board_in, lent_kind, lent_inputs, lent_wide, Lent}
use Rattle.parts.specs.Inner.Pairs.{cut_pairs}
use Rattle.parts.specs.Inner.Words.{pairs_of, row_of, with_row, Covers}
use Rattle.parts.specs.Inner.Masks.{row_patterns, words_of, mask_row, with_lanes, cut_row}
use Rattle.parts.specs.Inner.Cells.{cell_space, byte_in, packed, cells_sum}
use Rattle.parts.specs.Inner.Picks.{pick_between, pick_on, cells_on, table_of, tables_of, cells_of}
use Rattle.parts.specs.Inner.Parts.{PartSets, Carried}
use Rattle.parts.specs.declared.states.Running.{Running}
use Rattle.parts.specs.Inner.States.{rest_count, side_at}
use Rattle.parts.proofs.MaskRows.{row_cut, with_long, with_small}
use Rattle.parts.proofs.WordMasks.{pick_told, pairs_tell}
use Rattle.parts.proofs.Keeping.{few, table_at, table_lt, table_few, cells_byte, cells_fit, pairs_cover}
use Rattle.parts.proofs.LentPicks.{narrow_inputs_lem}
use Rattle.parts.proofs.Narrowing.{with_sets, with_pairs, with_more_lem, still_pick}
use Rattle.halves.specs.declared.Picks.{Picks}
use Rattle.halves.specs.Inner.Remade.{marked, FewCells, cells_again, side_again, Kept, Over}

pub past_zero : (q : ℕ) → T (not (eqb q 0)) → 1 ≤ q
past_zero zero z = absurd z
past_zero (suc q) z = omega arith

-- the tables of a part, lane by lane
pub side_lane : {kind : BoardKind} {n m : ℕ} {S ws : List ℕ} {l : Running} {low c : ℕ} → Carried kind n m S ws l low c → (q i : ℕ) → q < sections → i < max_wires
    → lane_of (side_at low l q) i ≡ section (table_of kind n S i) q
side_lane {kind} {n} {m} {S} h q i lq li =
    ap (λ x. lane_of x i) (h.tables q lq ∙ side_lanes (tables_of kind n S) q)
    ∙ lane_lanes (λ k. section (get_or (tables_of kind n S) k 0) q) (λ k _. section_lt (get_or (tables_of kind n S) k 0) q) i li
    ∙ ap (λ t. section t q) (table_at kind n S i li)

-- a table of the first section alone is 0 on the others
pub past_section : (t q : ℕ) → t < narrow_space → 1 ≤ q → section t q ≡ 0
unfolding section
past_section t q lt lq =
    let big : narrow_space ≤ 2 ^ (narrow_patterns * q) = pow_mono {i = narrow_patterns} {j = narrow_patterns * q} (omega arith) in
    ap (λ x. x % narrow_space) (div-eq_of_lt (lt_of_lt_of_le lt big))

-- one part of a split of a part at its open pair p, j: w is what is left of the pattern's set with wire j at b
pub record Half (e : List ℕ) (m : ℕ) (S ws : List ℕ) (l : Running) (low c p j b w : ℕ) : Type 0 where
  pub lent : Lent e
  pub carried : Carried (lent_kind e) (lent_inputs e) m S ws l low c
  pub pattern : p < 2 ^ lent_inputs e
  pub wire : j < m
  pub is_open_lem : T (is_open m (of_sets S p) j)
  pub side : b < 2
  pub left : w ≡ with_bit (get_or S p 0) j b

module _ {e : List ℕ} {m : ℕ} {S ws : List ℕ} {l : Running} {low c p j b w : ℕ} (h : Half e m S ws l low c p j b w) where
  abbrev kind : BoardKind
  kind = lent_kind e

  abbrev n : ℕ
  n = lent_inputs e

  abbrev whole : Carried (lent_kind e) (lent_inputs e) m S ws l low c
  whole = h.carried

  -- the sets and the masks of the part
  abbrev pub part_sets : List ℕ
  part_sets = narrowed S p j b

  abbrev pub part_masks : List ℕ
  part_masks = with_lanes ws (p / row_patterns) (cut_row (mask_row ws (p / row_patterns)) p w)

  pub there : p < max_patterns
  there = lt_of_lt_of_le h.pattern (pow_mono {i = n} {j = max_inputs} (few kind whole.sized))

  pub half_sets : PartSets n m part_sets
  half_sets = with_sets kind whole.sized whole.sets h.pattern h.wire h.is_open_lem h.side

  pub half_words : words_of part_masks ≡ pairs_of part_sets
  half_words =
      row_cut ws p w there whole.halved
      ∙ ap₂ (λ x v. with_row x (p / narrow_patterns) (cut_pairs (row_of x (p / narrow_patterns)) (p % narrow_patterns) v)) whole.masks h.left
      ∙ with_pairs kind whole.sized whole.sets h.pattern h.wire h.is_open_lem h.side

  pub half_cover : (i : ℕ) → i < max_wires → Covers n (words_of part_masks) i
  half_cover i li = rw half_words (pairs_cover kind whole.sized half_sets i li)

  -- a pick made again is the part's
  new_pick : (i : ℕ) → i < max_wires → pick_on e (words_of part_masks) i ≡ table_of kind n part_sets i
  new_pick i li = ap (λ x. pick_between kind n x i) half_words ∙ pick_told (pairs_of part_sets) part_sets i (pairs_tell part_sets i li) kind n

  new_cells : (i : ℕ) → i < max_wires → cells_on e (words_of part_masks) i ≡ count_of kind n (table_of kind n part_sets i)
  new_cells i li = ap (count_of kind n) (new_pick i li)

  old_cells : (i : ℕ) → i < max_wires → byte_in c i ≡ count_of kind n (table_of kind n S i)
  old_cells i li = ap (λ x. byte_in x i) whole.cells ∙ cells_byte kind n (few kind whole.sized) S i li

  -- no wire has fewer cells by being made again, and the cells are few enough to be summed
  pub half_more : (i : ℕ) → i < max_wires → byte_in c i ≤ cells_on e (words_of part_masks) i
  half_more i li = rw (old_cells i li, new_cells i li) (with_more_lem kind whole.sized whole.sets h.pattern h.wire h.is_open_lem h.side i)

  pub half_few : FewCells c
  half_few =
      let f = few kind whole.sized in
      (rw whole.cells (cells_fit kind n f S).0, λ i li. rw (old_cells i li) (table_few kind n f S i))

  -- and all wires together have no fewer
  pub half_floor : cells_sum c ≤ cells_sum (cells_of kind n part_sets)
  unfolding cells_sum
  half_floor =
      sum_le max_wires (byte_in c) (byte_in (cells_of kind n part_sets))
      (λ i li. rw (cells_byte kind n (few kind whole.sized) part_sets i li, ← new_cells i li) (half_more i li))

  -- the wires whose bit on the pattern no longer occurs are marked
  module _ (wires : ℕ) (told : (i : ℕ) → i < max_wires → lane_of wires i ≡ is_one (not (occurs max_wires (member w) i (bit (table_of kind n S i) p)))) where
    -- every other pick is still the pick
    pub table_again : (i : ℕ) → i < max_wires → (f : ℕ → ℕ) → cond (marked wires i) (f (table_of kind n part_sets i)) (f (table_of kind n S i)) ≡ f (table_of kind n part_sets i)
    unfolding is_one
    table_again i li f =
        ⊎_elim
        (λ t.
        let zero_lane : lane_of wires i ≡ 0 = told i li ∙ ap (λ y. is_one (not y)) (test_yes (occurs max_wires (member w) i (bit (table_of kind n S i) p)) t) in
        let kept = still_pick kind whole.sized whole.sets h.pattern h.wire h.is_open_lem h.side i
        (subst (λ x. T (occurs max_wires (member x) i (bit (table_of kind n S i) p))) h.left t) in
        ap (λ y. cond (eqb y 1) (f (table_of kind n part_sets i)) (f (table_of kind n S i))) zero_lane ∙ ap f (sym kept))
        (λ t.
        let one_lane : lane_of wires i ≡ 1 = told i li ∙ ap (λ y. is_one (not y)) (test_no (occurs max_wires (member w) i (bit (table_of kind n S i) p)) t) in
        ap (λ y. cond (eqb y 1) (f (table_of kind n part_sets i)) (f (table_of kind n S i))) one_lane)
        (decide (occurs max_wires (member w) i (bit (table_of kind n S i) p)))

    again_side : (q : ℕ) → q < sections → lanes_of (side_again e (words_of part_masks) wires (side_at low l q) q) ≡ side_by_side (tables_of kind n part_sets) q
    again_side q lq =
        lanes_cong (side_again e (words_of part_masks) wires (side_at low l q) q) (λ i. section (get_or (tables_of kind n part_sets) i 0) q)
        (λ i li.
        ap₂ (λ x y. cond (marked wires i) (section x q) y) (new_pick i li) (side_lane whole q i lq li) ∙ table_again i li (λ t. section t q)
        ∙ ap (λ t. section t q) (sym (table_at kind n part_sets i li)))
        ∙ sym (side_lanes (tables_of kind n part_sets) q)

    again_cells : (i : ℕ) → i < max_wires → cells_again e (words_of part_masks) wires c i ≡ count_of kind n (table_of kind n part_sets i)
    again_cells i li = ap₂ (cond (marked wires i)) (new_cells i li) (old_cells i li) ∙ table_again i li (count_of kind n)

    all_cells : packed (cells_again e (words_of part_masks) wires c) ≡ cells_of kind n part_sets
    unfolding packed cells_of
    all_cells =
        sum_cong max_wires (λ i. cells_again e (words_of part_masks) wires c i * cell_space ^ i) (λ i. count_of kind n (table_of kind n part_sets i) * cell_space ^ i)
        (λ i li. ap (λ x. x * cell_space ^ i) (again_cells i li))

    all_sum : sum max_wires (cells_again e (words_of part_masks) wires c) ≡ cells_sum (cells_of kind n part_sets)
    unfolding cells_sum
    all_sum =
        sum_cong max_wires (cells_again e (words_of part_masks) wires c) (byte_in (cells_of kind n part_sets))
        (λ i li. again_cells i li ∙ sym (cells_byte kind n (few kind whole.sized) part_sets i li))

    -- on a board that is not wide no table reaches past the first section
    none_past : T (not (lent_wide e)) → (t q : ℕ) → t < 2 ^ (2 ^ n) → 1 ≤ q → q < sections → section t q ≡ 0
    none_past narrow t q lt lq _ =
        let f : n ≤ narrow_inputs = narrow_inputs_lem e h.lent (board_in e) refl (nleb→lt wide_mark (board_in e) narrow) in
        past_section t q (lt_of_lt_of_le lt (pow_mono {i = 2 ^ n} {j = narrow_patterns} (pow_mono {i = n} {j = narrow_inputs} f))) lq

    narrow_side : T (not (lent_wide e)) → {N : List ℕ} → PartSets n m N → (q : ℕ) → 1 ≤ q → q < sections → side_by_side (tables_of kind n N) q ≡ 0
    unfolding lanes_of sum
    narrow_side narrow {N} ok q lq ls =
        side_lanes (tables_of kind n N) q
        ∙ lanes_cong (λ i. section (get_or (tables_of kind n N) i 0) q) (λ _. 0)
        (λ i li. ap (λ t. section t q) (table_at kind n N i li) ∙ none_past narrow (table_of kind n N i) q (table_lt kind whole.sized ok i) lq ls)

    -- so what is made again and kept is the part's
    module _ {after : Running} {r : Picks} (made : Kept e (words_of part_masks) wires low c l after r) where
      rest_side : (i : ℕ) → i < rest_count → get_or after.rest i 0 ≡ side_by_side (tables_of kind n part_sets) (suc i)
      unfolding side_at
      rest_side i li =
          let x = get_or l.rest i 0 in
          let q : i + 1 ≡ suc i = omega arith in
          let lq : suc i < sections = omega arith in
          made.rest i li
          ∙ ⊎_elim
          (λ t.
          ap (λ y. cond y (lanes_of (side_again e (words_of part_masks) wires x (i + 1))) x) (test_yes (lent_wide e) t)
          ∙ ap (λ k. lanes_of (side_again e (words_of part_masks) wires x k)) q ∙ again_side (suc i) lq)
          (λ t.
          ap (λ y. cond y (lanes_of (side_again e (words_of part_masks) wires x (i + 1))) x) (test_no (lent_wide e) t)
          ∙ whole.tables (suc i) lq ∙ narrow_side t whole.sets (suc i) (omega arith) lq ∙ sym (narrow_side t half_sets (suc i) (omega arith) lq))
          (decide (lent_wide e))

      made_tables : (q : ℕ) → q < sections → side_at r.low after q ≡ side_by_side (tables_of kind n part_sets) q
      unfolding side_at
      made_tables zero lq = made.low ∙ again_side 0 lq
      made_tables (suc i) lq = rest_side i (omega arith)

      pub made_carried : {N M : List ℕ} → N ≡ part_sets → M ≡ part_masks → Carried kind n m N M after r.low r.cells
      made_carried eN eM =
          rw (eN, eM)
          record {
            sized = whole.sized;
            sets = half_sets;
            long = with_long ws (p / row_patterns) (cut_row (mask_row ws (p / row_patterns)) p w);
            halved = with_small ws (p / row_patterns) (cut_row (mask_row ws (p / row_patterns)) p w) whole.halved;
            masks = half_words;
            tables = made_tables;
            cells = made.counts ∙ all_cells;
          }

    -- and where it is not kept, the part would be discarded
    pub made_over : Over e (words_of part_masks) wires c l → l.cells ≤ cells_sum (cells_of kind n part_sets)
    made_over over = rw (← all_sum) (over half_more)
