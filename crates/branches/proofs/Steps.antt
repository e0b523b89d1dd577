-- The cases of a visit: each return of the code is the written treatment of the part.
use Prim.Native.Nat.{ℕ}
use mathlib.Core.Path.{◌≡◌, sym, ap, ◌∙◌}
use mathlib.Core.Bool.{not}
use mathlib.Core.List.{List}
use lib.Dec.{T}
use Rattle.base.proofs.Tests.{test_yes, test_no}
use Rattle.relation.specs.Tests.{of_sets, compatible}
use Rattle.table.specs.Cells.{wires}
use Rattle.branch_bound.specs.declared.State.{State}
use Rattle.branch_bound.specs.Search.{floor, picks, discarded, used_up, halted, charged, improved, split, expand, charge, treat, search_part}
use Rattle.sheet.specs.Inner.Sized.{Sized}
use Rattle.nodes.specs.declared.BoardKind.{BoardKind}
use Rattle.nodes.specs.Counts.{most_inputs}
use Rattle.branch_bound.specs.Boards.{board_of}
use Rattle.branch_bound.proofs.Depth.{search_step}
use Rattle.std.specs.Prelude.{Option, Some, None}
use Rattle.parts.specs.Inner.Parts.{PartSets}
use Rattle.visits.specs.Inner.Conflicts.{split_place}
use Rattle.visits.proofs.Opening.{found_nowhere, place_told}

module _ (kind : BoardKind) {n m : ℕ} (sz : Sized (most_inputs kind) n m) {S : List ℕ} (ok : PartSets n m S) (budget : ℕ) (s : State) {f : ℕ} (ef : f ≡ floor (board_of kind n m) (of_sets S)) where
  step : search_part (board_of kind n m) budget (of_sets S) s ≡ treat (board_of kind n m) budget (search_part (board_of kind n m) budget) (of_sets S) s
  unfolding board_of
  step = search_step (board_of kind n m) sz.m_most budget (of_sets S) s ok.defined

  pub discards : T (discarded s f) → s ≡ search_part (board_of kind n m) budget (of_sets S) s
  unfolding treat
  discards t = sym (step ∙ rw (← ef, test_yes (discarded s f) t))

  module _ (more : T (not (discarded s f))) where
    pub halts : T (used_up budget s) → {u : State} → u ≡ halted s → u ≡ search_part (board_of kind n m) budget (of_sets S) s
    unfolding treat charge
    halts t e = e ∙ sym (step ∙ rw (← ef, test_no (discarded s f) more, test_yes (used_up budget s) t))

    module _ (left : T (not (used_up budget s))) where
      expands : treat (board_of kind n m) budget (search_part (board_of kind n m) budget) (of_sets S) s ≡ expand (board_of kind n m) budget (search_part (board_of kind n m) budget) (of_sets S) s
      unfolding treat charge
      expands = rw (← ef, test_no (discarded s f) more, test_no (used_up budget s) left)

      -- where the code splits
      module _ {ts : List ℕ} (et : ts ≡ picks (board_of kind n m) (of_sets S)) {found : Option (ℕ × ℕ)} (ep : found ≡ split_place n m (of_sets S) (wires ts)) {u : State} where
        pub improves : found ≡ None → u ≡ improved ts f (charged s) → u ≡ search_part (board_of kind n m) budget (of_sets S) s
        unfolding expand board_of
        improves e eu =
            let t = test_yes (compatible n m (of_sets S) (wires ts)) (found_nowhere n m (of_sets S) (wires ts) (sym ep ∙ e)) in
            eu ∙ sym (step ∙ expands ∙ rw (← et, t, ← ef))

        pub splits : {p j : ℕ} → found ≡ Some (p, j) → {v : State} → v ≡ charged s
            → u ≡ split (board_of kind n m) budget (search_part (board_of kind n m) budget) (of_sets S) p j v → u ≡ search_part (board_of kind n m) budget (of_sets S) s
        unfolding expand board_of
        splits {p} {j} e ev eu =
            let told = place_told n m (of_sets S) (wires ts) p j (sym ep ∙ e) in
            let t = test_no (compatible n m (of_sets S) (wires ts)) told.0 in
            eu ∙ ap (split (board_of kind n m) budget (search_part (board_of kind n m) budget) (of_sets S) p j) ev
            ∙ sym (step ∙ expands ∙ rw (← et, t, told.1, told.2))
