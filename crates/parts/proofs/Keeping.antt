-- What is kept of a part: the words tell the projections, the tables are the picks, and the cells their cells.
use Prim.Native.Nat.{ℕ, ◌-◌, ◌^◌, ◌<◌, ◌≤◌}
use mathlib.Core.Path.{◌≡◌, refl, ap, ◌∙◌}
use mathlib.Core.Bool.{cond}
use mathlib.Core.List.{List}
use mathlib.Core.Option.{some}
use native.Mathlib.Omega.{arith}
use native.Mathlib.Nat.{le_trans, lt_of_lt_of_le}
use lib.Dec.{T, ltb, nltb→le}
use lib.ListN.{get_or}
use lib.Pow.{pow_pos, pow_mono}
use Rattle.base.proofs.Tests.{cond_has}
use Rattle.sheet.specs.Limits.{max_inputs, max_wires}
use Rattle.sheet.specs.Inner.Sized.{Sized}
use Rattle.table.specs.Bits.{bit, sum}
use Rattle.table.specs.Cells.{total}
use Rattle.table.specs.Pick.{suits, or_zero}
use Rattle.table.specs.Inner.Ranks.{masked, pick_of}
use Rattle.table.specs.Inner.Blocks.{Covered}
use Rattle.table.proofs.Bits.{bit_past, all_intro, tabulate_at, tabulate_cong, sum_cong, sum_bound, sum_short, zero_bit}
use Rattle.table.proofs.Least.{Least, least_only}
use Rattle.table.proofs.Masks.{least_cong}
use Rattle.nodes.specs.declared.BoardKind.{BoardKind}
use Rattle.nodes.specs.Counts.{count_of, most_inputs}
use Rattle.nodes.proofs.Counts.{count_zero, count_lt, most_inputs_lem}
use Rattle.relation.specs.Tests.{of_sets, projection, occurs}
use Rattle.relation.specs.Inner.Source.{fits}
use Rattle.relation.specs.Inner.Masks.{mask_of}
use Rattle.relation.proofs.Decide.{occurs_intro}
use Rattle.relation.proofs.Narrowing.{Narrow}
use Rattle.relation.proofs.Masks.{mask_lt, mask_projection, mask_covers}
use Rattle.branch_bound.specs.Search.{reply_tables, pick, picks, floor}
use Rattle.branch_bound.specs.Boards.{board_of}
use Rattle.branch_bound.proofs.Picks.{pick_least}
use Rattle.parts.specs.Inner.Words.{pairs_of, words_for, Covers}
use Rattle.parts.specs.Inner.Cells.{cell_space, byte_in, cells_sum}
use Rattle.parts.specs.Inner.Picks.{table_of, tables_of, cells_of}
use Rattle.parts.specs.Inner.Parts.{PartSets}
use Rattle.parts.proofs.CellBytes.{packed_lt, packed_byte}
use Rattle.parts.proofs.WordMasks.{Tells, zeros_told, ones_told, pairs_tell, alone_tells}

-- every table of a board has fewer cells than its byte has room for; four wires together too
pub count_few : (kind : BoardKind) (n t : ℕ) → n ≤ max_inputs → count_of kind n t < 2 ^ max_inputs
count_few kind n t h = lt_of_lt_of_le (count_lt kind n t) (pow_mono {i = n} {j = max_inputs} h)

pub count_byte : (kind : BoardKind) (n t : ℕ) → n ≤ max_inputs → count_of kind n t < cell_space
count_byte kind n t h = omega (arith, count_few kind n t h)

module _ (kind : BoardKind) {n m : ℕ} (sz : Sized (most_inputs kind) n m) where
  pub few : n ≤ max_inputs
  few = le_trans sz.n_most (most_inputs_lem kind)

module _ (kind : BoardKind) {n m : ℕ} (sz : Sized (most_inputs kind) n m) {sets : List ℕ} (ok : PartSets n m sets) where
  pub narrow : Narrow n m sets
  narrow = record { long = ok.long; small = ok.small; past = ok.past }

  pub cover : (j : ℕ) → Covered n (mask_of sets j 0) (mask_of sets j 1)
  cover j p l = mask_covers n m sets j p sz.m_most (few kind sz) narrow ok.defined l

  -- a wire past the last has 0 everywhere
  zero_fits : (j : ℕ) → m ≤ j → T (fits n m (of_sets sets) j 0)
  unfolding fits suits occurs
  zero_fits j l =
      all_intro (2 ^ n) (λ p. occurs m (of_sets sets p) j (bit 0 p))
      (λ p lp.
      let w = ok.defined p lp in
      rw (zero_bit p) (occurs_intro m (of_sets sets p) j 0 w.0 w.1 w.2 (bit_past w.0 m j w.1 l)))

  -- the masks of a part are fit for a pick
  pub tells_cover : (words : List ℕ) (j : ℕ) → Tells words sets j → Covers n words j
  tells_cover words j told =
      let z = zeros_told words sets j told in
      let o = ones_told words sets j told in
      record {
        zeros_fit = rw z (mask_lt n m sets j 0 narrow (few kind sz));
        ones_fit = rw o (mask_lt n m sets j 1 narrow (few kind sz));
        covered = rw (z, o) (cover j);
      }

  pub pairs_cover : (j : ℕ) → j < max_wires → Covers n (pairs_of sets) j
  pairs_cover j l = tells_cover (pairs_of sets) j (pairs_tell sets j l)

  pub alone_cover : (j : ℕ) → j < max_wires → Covers n (words_for sets j) j
  alone_cover j l = tells_cover (words_for sets j) j (alone_tells sets j l)

  -- the pick between the masks is the pick of the wire
  pub kept_pick : (j : ℕ) → table_of kind n sets j ≡ pick (board_of kind n m) (of_sets sets) j
  unfolding table_of pick_of pick board_of
  kept_pick j =
      ap or_zero
      (least_cong (count_of kind n) n (masked (mask_of sets j 0) (mask_of sets j 1)) (projection m (of_sets sets) j)
      (λ p b l lb. mask_projection n m sets j p b sz.m_most (few kind sz) narrow l lb))

  pub kept_least : (j : ℕ) → Least (count_of kind n) (fits n m (of_sets sets) j) (2 ^ (2 ^ n)) (some (pick (board_of kind n m) (of_sets sets) j))
  unfolding board_of
  kept_least j = pick_least (board_of kind n m) (of_sets sets) ok.defined j

  pub table_lt : (j : ℕ) → table_of kind n sets j < 2 ^ (2 ^ n)
  table_lt j = rw (kept_pick j) (kept_least j).0

  -- a wire past the last has the pick 0
  pub pick_past : (j : ℕ) → m ≤ j → pick (board_of kind n m) (of_sets sets) j ≡ 0
  pick_past j l =
      let z : count_of kind n 0 ≡ 0 = count_zero kind n in
      least_only (count_of kind n) (fits n m (of_sets sets) j) (2 ^ (2 ^ n)) (pick (board_of kind n m) (of_sets sets) j) 0 (kept_least j)
      (pow_pos (2 ^ n), zero_fits j l, λ t _ _. omega (arith, z), λ t _ _ _. omega arith)

  -- the tables are the picks, and their cells together the floor
  pub kept_tables : tables_of kind n sets ≡ picks (board_of kind n m) (of_sets sets)
  unfolding tables_of picks reply_tables board_of
  kept_tables =
      tabulate_cong max_wires (table_of kind n sets) (λ j. cond (ltb j m) (pick (board_of kind n m) (of_sets sets) j) 0)
      (λ j _. kept_pick j ∙ cond_has (λ x. pick (board_of kind n m) (of_sets sets) j ≡ x) (ltb j m) (λ _. refl) (λ h. pick_past j (nltb→le j m h)))

-- the cells of all wires by their bytes
module _ (kind : BoardKind) (n : ℕ) (h : n ≤ max_inputs) (sets : List ℕ) where
  pub table_few : (j : ℕ) → count_of kind n (table_of kind n sets j) < 2 ^ max_inputs
  table_few j = count_few kind n (table_of kind n sets j) h

  bytes : (j : ℕ) → count_of kind n (table_of kind n sets j) < cell_space
  bytes j = count_byte kind n (table_of kind n sets j) h

  pub cells_byte : (j : ℕ) → j < max_wires → byte_in (cells_of kind n sets) j ≡ count_of kind n (table_of kind n sets j)
  unfolding cells_of
  cells_byte = packed_byte (λ j. count_of kind n (table_of kind n sets j)) bytes

  cells_total : cells_sum (cells_of kind n sets) ≡ sum max_wires (λ j. count_of kind n (table_of kind n sets j))
  unfolding cells_sum
  cells_total = sum_cong max_wires (byte_in (cells_of kind n sets)) (λ j. count_of kind n (table_of kind n sets j)) cells_byte

  -- so they may be summed as the code does
  pub cells_fit : (cells_of kind n sets < cell_space ^ max_wires) × (cells_sum (cells_of kind n sets) < cell_space)
  unfolding cells_of
  cells_fit =
      let s = sum_bound max_wires (2 ^ max_inputs - 1) (λ j. count_of kind n (table_of kind n sets j)) (λ j _. omega (arith, table_few j)) in
      (packed_lt (λ j. count_of kind n (table_of kind n sets j)) bytes, omega (arith, s, cells_total))

pub kept_floor : (kind : BoardKind) {n m : ℕ} (sz : Sized (most_inputs kind) n m) {sets : List ℕ} (ok : PartSets n m sets)
    → cells_sum (cells_of kind n sets) ≡ floor (board_of kind n m) (of_sets sets)
unfolding floor total board_of
kept_floor kind {n} {m} sz {sets} ok =
    let f : ℕ → ℕ = λ j. count_of kind n (pick (board_of kind n m) (of_sets sets) j) in
    cells_total kind n (few kind sz) sets
    ∙ sum_cong max_wires (λ j. count_of kind n (table_of kind n sets j)) f (λ j _. ap (count_of kind n) (kept_pick kind sz ok j))
    ∙ sum_short f m max_wires sz.m_most (λ j l. ap (count_of kind n) (pick_past kind sz ok j l) ∙ count_zero kind n)

-- a part's tables, wire by wire
module _ (kind : BoardKind) (n : ℕ) (sets : List ℕ) where
  pub table_at : (j : ℕ) → j < max_wires → get_or (tables_of kind n sets) j 0 ≡ table_of kind n sets j
  unfolding tables_of
  table_at j l = tabulate_at max_wires (table_of kind n sets) j l
