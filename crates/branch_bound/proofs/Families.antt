-- The promise of a search told by every stage drawn, on any board whose count is fair to the drawings.
use Prim.Native.Nat.{ℕ, ◌^◌, ◌<◌, ◌≤◌}
use mathlib.Core.Path.{◌≡◌, sym, ap, subst, ◌∙◌}
use mathlib.Core.List.{List}
use native.Mathlib.Omega.{arith}
use native.Mathlib.Nat.{le_trans}
use lib.Dec.{T}
use lib.ListN.{length, take}
use lib.Seq.{get_or-take, length-take-le}
use Rattle.sheet.specs.Limits.{max_wires}
use Rattle.table.specs.Cells.{wires, total}
use Rattle.table.specs.Drawing.{Drawing, drawn_cells}
use Rattle.table.specs.Inner.Drawing.{FairCount}
use Rattle.table.proofs.Bits.{sum_cong}
use Rattle.table.proofs.Drawings.{least}
use Rattle.relation.specs.Source.{Rel, Tables, Stage, Compatible}
use Rattle.relation.specs.Inner.Source.{WellDefined}
use Rattle.relation.specs.Families.{Family}
use Rattle.relation.proofs.Decide.{value_cong}
use Rattle.relation.proofs.Families.{drawn_tables, family_stage, family_compatible, family_total, least_drives, least_family, least_total}
use Rattle.branch_bound.specs.Search.{Board, total_on, floor, run}
use Rattle.branch_bound.specs.SearchPromise.{Fair, Promise}
use Rattle.nodes.specs.declared.BoardKind.{BoardKind}
use Rattle.branch_bound.specs.Boards.{board_of}
use Rattle.branch_bound.specs.Smallest.{Smallest}
use Rattle.branch_bound.proofs.Treating.{run_promise}

pub fair : (kind : BoardKind) (n m : ℕ) → m ≤ max_wires → Fair (board_of kind n m)
unfolding board_of
fair kind n m few = record { order = λ s t ls lt h. h; few = few }

module _ (D : Drawing) (b : Board) (counts : FairCount D b.n b.count) (fairly : Fair b) (budget : ℕ) (R : Rel) (ne : WellDefined b.n b.m R) where
  promise : Promise b budget R (run b budget R)
  promise = run_promise b fairly budget R ne

  -- the tables of the answer, those of the wires alone
  abbrev tables : List ℕ
  tables = take b.m (run b budget R).tables

  abbrev pub own_stage : List D.Shape
  own_stage = least D b.n b.count counts tables

  same : (j : ℕ) → j < b.m → wires tables j ≡ wires (run b budget R).tables j
  same j l = get_or-take b.m (run b budget R).tables j 0 l

  long : length tables ≡ b.m
  long = length-take-le b.m (run b budget R).tables (omega (arith, promise.so_far.long, fairly.few))

  stage : Stage b.n b.m (wires tables)
  stage j l = subst (λ t. t < 2 ^ (2 ^ b.n)) (sym (same j l)) (promise.so_far.stage j l)

  answer : Compatible b.n b.m R (wires tables)
  answer p l = subst (λ v. T (R p v)) (sym (value_cong b.m (wires tables) (wires (run b budget R).tables) p same)) (promise.so_far.answer p l)

  counted : drawn_cells D own_stage ≡ (run b budget R).cells
  unfolding total
  counted =
      least_total D b.n b.count counts b.m R tables long stage
      ∙ sum_cong b.m (λ j. b.count (wires tables j)) (λ j. b.count (wires (run b budget R).tables j)) (λ j l. ap b.count (same j l))
      ∙ sym promise.so_far.counted

  -- what is below the count of all tables is below the cells of all stages
  module _ (k : ℕ) (below : (X : Tables) → Stage b.n b.m X → Compatible b.n b.m R X → k ≤ total_on b X)
      (xs : List D.Shape) (f : Family D b.n b.m R xs) where
    below_drawn : k ≤ drawn_cells D xs
    unfolding total
    below_drawn =
        le_trans
        (below (drawn_tables D b.n b.count counts b.m R xs f) (family_stage D b.n b.count counts b.m R xs f)
        (family_compatible D b.n b.count counts b.m R xs f))
        (family_total D b.n b.count counts b.m R xs f)

  pub smallest : Smallest D b budget R (run b budget R) own_stage
  smallest =
      record {
        value_own = λ p l.
            least_drives D b.n b.count counts b.m R tables long stage p l ∙ value_cong b.m (wires tables) (wires (run b budget R).tables) p same;
        family = least_family D b.n b.count counts b.m R tables long stage answer;
        counted = counted;
        best = λ h. below_drawn (run b budget R).cells (promise.best h);
        above = below_drawn (floor b R) promise.above;
        within = promise.so_far.within;
        spent = promise.so_far.spent;
      }
