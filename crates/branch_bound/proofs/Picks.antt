-- Laws of picks, the floor and the first answer, over the board.
use Prim.Native.Nat.{ℕ, zero, suc, ◌^◌, ◌<◌, ◌≤◌}
use mathlib.Core.Path.{◌≡◌, sym, ap, ◌∙◌}
use mathlib.Core.Logic.{⊎_elim}
use mathlib.Core.Bool.{cond}
use mathlib.Core.Option.{some}
use native.Mathlib.Omega.{arith}
use native.Mathlib.Nat.{not-suc-le-zero}
use lib.Dec.{T, ltb}
use lib.ListN.{length}
use Rattle.sheet.specs.Limits.{max_wires}
use Rattle.base.proofs.Tests.{below_suc}
use Rattle.table.specs.Bits.{bit}
use Rattle.table.specs.Pick.{suits, least, least_of}
use Rattle.table.proofs.Bits.{sum_cong, sum_le, tabulate_at, tabulate_length}
use Rattle.table.proofs.Least.{Least, least_is, least_found}
use Rattle.relation.specs.Source.{Rel, Tables, Stage, Compatible}
use Rattle.relation.specs.Inner.Source.{WellDefined, Part, fits}
use Rattle.table.specs.Cells.{wires, total}
use Rattle.relation.specs.Tests.{projection}
use Rattle.relation.proofs.Decide.{value_cong, value_is, compatible_fits, some_fits}
use Rattle.relation.proofs.Splits.{agree_part, agree_bit, agree_well_defined}
use borrow.Author.Tests.{lt-ltb}
use Rattle.branch_bound.specs.Search.{Board, reply_tables, total_on, pick, picks, floor, left, quick}
use Rattle.branch_bound.specs.SearchPromise.{Fair}

pub stage_cells_cong : (b : Board) (X Y : Tables) → ((j : ℕ) → j < b.m → X j ≡ Y j) → total_on b X ≡ total_on b Y
unfolding total
stage_cells_cong b X Y h = sum_cong b.m (λ j. b.count (X j)) (λ j. b.count (Y j)) (λ j l. ap b.count (h j l))

-- a reply has as many tables as there may be wires
pub tables_long : (m : ℕ) (X : Tables) → length (reply_tables m X) ≡ max_wires
unfolding reply_tables
tables_long m X = tabulate_length max_wires (λ j. cond (ltb j m) (X j) 0)

pub quick_long : (b : Board) (R : Rel) → length (quick b R) ≡ max_wires
unfolding quick
quick_long b R = tables_long b.m (λ j. pick b (left b R j) j)

-- the wires of a row of tables
module _ (n m : ℕ) (few : m ≤ max_wires) (X : Tables) where
  pub wires_tables : (j : ℕ) → j < m → wires (reply_tables m X) j ≡ X j
  unfolding reply_tables
  wires_tables j l = tabulate_at max_wires (λ j. cond (ltb j m) (X j) 0) j (omega arith) ∙ rw (lt-ltb j m l)

  pub tables_stage : Stage n m X → Stage n m (wires (reply_tables m X))
  tables_stage h j l = rw (wires_tables j l) (h j l)

  pub tables_compatible : (R : Rel) → Compatible n m R X → Compatible n m R (wires (reply_tables m X))
  tables_compatible R h p l = rw (value_cong m (wires (reply_tables m X)) X p wires_tables) (h p l)

-- the floor is the cells of the picks
pub floor_picks : (b : Board) → b.m ≤ max_wires → (R : Rel) → floor b R ≡ total_on b (wires (picks b R))
unfolding floor picks
floor_picks b few R = stage_cells_cong b (pick b R) (wires (reply_tables b.m (pick b R))) (λ j l. sym (wires_tables b.n b.m few (pick b R) j l))

module _ (b : Board) (R : Rel) (ne : WellDefined b.n b.m R) where
  pub pick_least : (j : ℕ) → Least b.key (fits b.n b.m R j) (2 ^ (2 ^ b.n)) (some (pick b R j))
  unfolding pick least_of fits
  pick_least j =
      let s = some_fits b.n b.m R ne j in
      let f = suits b.n (projection b.m R j) in
      least_found b.key f (2 ^ (2 ^ b.n)) (least b.key f (2 ^ (2 ^ b.n))) (least_is b.key f (2 ^ (2 ^ b.n))) s.0 s.1 s.2

  pub pick_stage : Stage b.n b.m (pick b R)
  pick_stage j l = (pick_least j).0

  pub pick_fits : (j : ℕ) → T (fits b.n b.m R j (pick b R j))
  pick_fits j = (pick_least j).1

  -- no compatible stage has fewer cells than the floor
  pub floor_le : Fair b → (X : Tables) → Stage b.n b.m X → Compatible b.n b.m R X → floor b R ≤ total_on b X
  unfolding floor total
  floor_le fair X st c =
      sum_le b.m (λ j. b.count (pick b R j)) (λ j. b.count (X j))
      (λ j l. fair.order (pick b R j) (X j) (pick_least j).0 (st j l) ((pick_least j).2 (X j) (st j l) (compatible_fits b.n b.m R X c j l)))

-- the first answer
module _ (b : Board) (R : Rel) (ne : WellDefined b.n b.m R) where
  pub left_well_defined : (j : ℕ) → WellDefined b.n b.m (left b R j)
  unfolding left
  left_well_defined zero = ne
  left_well_defined (suc j) =
      let L = left b R j in
      agree_well_defined L j (pick b L j) b.n b.m (pick_fits b L (left_well_defined j) j)

  left_part : (k : ℕ) → Part (left b R k) R
  unfolding left
  left_part zero p v t = t
  left_part (suc k) p v t = left_part k p v (agree_part (left b R k) k (pick b (left b R k) k) p v t)

  left_agrees : (k i : ℕ) → i < k → (p v : ℕ) → T (left b R k p v) → bit v i ≡ bit (pick b (left b R i) i) p
  unfolding left
  left_agrees zero i l p v t = absurd (not-suc-le-zero l)
  left_agrees (suc k) i l p v t =
      let L = left b R k in
      ⊎_elim (λ (e : i ≡ k). rw e (agree_bit L k (pick b L k) p v t))
      (λ h. left_agrees k i h p v (agree_part L k (pick b L k) p v t))
      (below_suc l)

  chosen : Tables
  chosen j = pick b (left b R j) j

  chosen_compatible : Compatible b.n b.m R chosen
  unfolding chosen
  chosen_compatible p l =
      let w = left_well_defined b.m p l in
      rw (value_is b.m chosen p w.0 w.1 (λ j h. left_agrees b.m j h p w.0 w.2))
      (left_part b.m p w.0 w.2)

  pub quick_compatible : b.m ≤ max_wires → Compatible b.n b.m R (wires (quick b R))
  unfolding quick chosen
  quick_compatible few = tables_compatible b.n b.m few chosen R chosen_compatible

  pub quick_stage : b.m ≤ max_wires → Stage b.n b.m (wires (quick b R))
  unfolding quick chosen
  quick_stage few = tables_stage b.n b.m few chosen (λ j l. pick_stage b (left b R j) (left_well_defined j) j l)
