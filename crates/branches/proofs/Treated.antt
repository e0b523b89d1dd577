-- One part of a split as the code treats it: it is made, visited or passed over, and the tables at hand are put back.
use Prim.Native.Nat.{ℕ, ◌<◌, ◌≤◌}
use mathlib.Core.Path.{◌≡◌, refl, ap, ap₂, subst, ◌∙◌}
use mathlib.Core.Logic.{◌⊎◌, ⊎_elim}
use mathlib.Core.Bool.{Bool, not, cond}
use mathlib.Core.List.{List}
use native.Mathlib.Nat.{le_trans}
use lib.Dec.{T, le→leb}
use lib.ListN.{get_or}
use Rattle.std.specs.Prelude.{Option, None}
use Rattle.base.proofs.Tests.{cond_has}
use Rattle.sheet.specs.Limits.{max_wires}
use Rattle.table.specs.Bits.{bit, is_one}
use Rattle.nodes.specs.declared.BoardKind.{BoardKind}
use Rattle.relation.specs.Source.{Rel}
use Rattle.relation.specs.Tests.{of_sets, occurs, keep, open_pairs}
use Rattle.relation.specs.Inner.Members.{member}
use Rattle.relation.proofs.Splits.{keep_closes}
use Rattle.branch_bound.specs.declared.State.{State}
use Rattle.branch_bound.specs.Search.{Board, split, search_part}
use Rattle.branch_bound.specs.Boards.{board_of}
use Rattle.lanes.specs.Inner.Lanes.{lane_of}
use Rattle.parts.specs.Inner.Boards.{lent_kind, lent_inputs, lent_wide}
use Rattle.parts.specs.Inner.Cells.{cells_sum}
use Rattle.parts.specs.Inner.Picks.{table_of, cells_of}
use Rattle.parts.specs.Inner.Masks.{words_of}
use Rattle.parts.specs.declared.states.Running.{Running}
use Rattle.parts.specs.Inner.States.{with_rest, SameBut}
use Rattle.parts.proofs.Keeping.{kept_floor}
use Rattle.parts.proofs.Narrowing.{with_keep}
use Rattle.visits.specs.Inner.States.{state_of, SameRest, Ran}
use Rattle.visits.proofs.StateChanges.{same_state, same_budget, same_whole}
use Rattle.halves.specs.declared.Picks.{Picks}
use Rattle.halves.specs.Inner.Remade.{KeptOrOver, Remade}
use Rattle.halves.proofs.Making.{Half, part_sets, part_masks, half_sets, half_floor, made_over}
use Rattle.branches.proofs.Steps.{discards}

-- the tables at hand put back, where the board is wide
abbrev pub restored : Bool → (rest : List ℕ) → Running → Running
restored wide rest state = cond wide (with_rest state rest) state

module _ (e : List ℕ) (l after : Running) (rest : List ℕ) (er : T (lent_wide e) → rest ≡ l.rest) where
  back_but : SameBut after (restored (lent_wide e) rest after)
  back_but = cond_has (SameBut after) (lent_wide e) (λ _. record { is = refl }) (λ _. record { is = refl })

  -- on a wide board they are those of before whatever they are now; on another board they never changed
  back_rest : (T (not (lent_wide e)) → SameRest l after) → SameRest l (restored (lent_wide e) rest after)
  back_rest narrow = cond_has (SameRest l) (lent_wide e) (λ t i _. ap (λ r. get_or r i 0) (er t)) narrow

module _ {e : List ℕ} {m : ℕ} {S ws : List ℕ} {l : Running} {low c p j b w : ℕ} (h : Half e m S ws l low c p j b w) where
  abbrev kind : BoardKind
  kind = lent_kind e

  abbrev n : ℕ
  n = lent_inputs e

  part_keep : of_sets (part_sets h) ≡ keep (of_sets S) p j b
  part_keep = with_keep kind h.carried.sized h.carried.sets h.pattern h.wire h.is_open_lem h.side

  pub part_fewer : open_pairs n m (of_sets (part_sets h)) < open_pairs n m (of_sets S)
  part_fewer = rw part_keep (keep_closes n m (of_sets S) p j b h.pattern h.wire h.is_open_lem)

  -- the written treatment of the part
  abbrev step : State → State
  step = search_part (board_of kind n m) l.budget (keep (of_sets S) p j b)

  -- it would be discarded: the state is the same with it treated
  discarded_part : l.cells ≤ cells_sum (cells_of kind n (part_sets h)) → state_of l ≡ step (state_of l)
  unfolding state_of
  discarded_part over =
      discards kind h.carried.sized (half_sets h) l.budget (state_of l) (kept_floor kind h.carried.sized (half_sets h)) (le→leb _ _ over)
      ∙ ap (λ R. search_part (board_of kind n m) l.budget R (state_of l)) part_keep

  module _ (rest : List ℕ) (er : T (lent_wide e) → rest ≡ l.rest) where
    -- once it is made and visited
    visited : {after last : Running} → SameBut l after → (T (not (lent_wide e)) → SameRest l after)
        → Ran (search_part (board_of kind n m) after.budget (of_sets (part_sets h))) after last → SameRest after last
        → SameRest l (restored (lent_wide e) rest last) × Ran step l (restored (lent_wide e) rest last)
    visited {after} {last} but narrow ran same =
        let back = back_but e l last rest er in (
          back_rest e l last rest er (λ t i li. same i li ∙ narrow t i li),
          record {
            state = same_state back ∙ ran.state ∙ ap₂ (λ z s. search_part (board_of kind n m) z (of_sets (part_sets h)) s) (same_budget but) (same_state but)
                ∙ ap (λ R. search_part (board_of kind n m) l.budget R (state_of l)) part_keep;
            budget = same_budget back ∙ ran.budget ∙ same_budget but;
            whole = same_whole back ∙ ran.whole ∙ same_whole but;
          },
        )

    -- where it is made and not visited
    passed_over : {after : Running} → SameBut l after → (T (not (lent_wide e)) → SameRest l after) → l.cells ≤ cells_sum (cells_of kind n (part_sets h))
        → SameRest l (restored (lent_wide e) rest after) × Ran step l (restored (lent_wide e) rest after)
    passed_over {after} but narrow over =
        let back = back_but e l after rest er in (
          back_rest e l after rest er narrow,
          record {
            state = same_state back ∙ same_state but ∙ discarded_part over;
            budget = same_budget back ∙ same_budget but;
            whole = same_whole back ∙ same_whole but;
          },
        )

    -- what was made is visited, or it was not kept
    abbrev pub Tried : (after : Running) (made : Option Picks) (last : Running) → Type 0
    Tried after made last =
        (SameRest after last × Ran (search_part (board_of kind n m) after.budget (of_sets (part_sets h))) after last) ⊎ ((made ≡ None) × (last ≡ after))

    -- whichever came
    pub treated : (lost : ℕ) → ((i : ℕ) → i < max_wires → lane_of lost i ≡ is_one (not (occurs max_wires (member w) i (bit (table_of kind n S i) p)))) → {after : Running} {made : Option Picks}
        → Remade e (words_of (part_masks h)) lost low c l after made → {last : Running} → Tried after made last
        → SameRest l (restored (lent_wide e) rest last) × Ran step l (restored (lent_wide e) rest last)
    treated lost told {after} {made} again =
        ⊎_elim (λ v. visited again.same again.narrow v.1 v.0)
        (λ v. rw v.1 (passed_over again.same again.narrow (made_over h lost told (subst (KeptOrOver e (words_of (part_masks h)) lost low c l after) v.0 again.told))))

-- where it is not even made, since the part that is split has as many cells as the best
pub not_made : {e : List ℕ} {m : ℕ} {S ws : List ℕ} {l : Running} {low c p j b w : ℕ} (h : Half e m S ws l low c p j b w) → l.cells ≤ cells_sum c
    → Ran (search_part (board_of (lent_kind e) (lent_inputs e) m) l.budget (keep (of_sets S) p j b)) l l
not_made h over = record { state = discarded_part h (le_trans over (half_floor h)); budget = refl; whole = refl }

-- both parts, one after the other, are the split
pub split_ran : (board : Board) (R : Rel) (p j : ℕ) {l l1 l2 : Running} → Ran (search_part board l.budget (keep R p j 0)) l l1
    → Ran (search_part board l1.budget (keep R p j 1)) l1 l2 → Ran (split board l.budget (search_part board l.budget) R p j) l l2
unfolding split
split_ran board R p j {l} first second =
    record {
      state = second.state ∙ ap₂ (λ z s. search_part board z (keep R p j 1) s) first.budget first.state;
      budget = second.budget ∙ first.budget;
      whole = second.whole ∙ first.whole;
    }
