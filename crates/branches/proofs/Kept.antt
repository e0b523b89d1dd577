-- What a split reads of its pattern tells its parts, the sets and the masks of each, and what is put back.
use Prim.Native.Nat.{ℕ, ◌/◌, ◌<◌}
use mathlib.Core.Path.{◌≡◌, refl, sym, ap, subst, ◌∙◌}
use mathlib.Core.Bool.{not}
use mathlib.Core.List.{List}
use native.Mathlib.Omega.{arith}
use lib.Dec.{T}
use lib.ListN.{length, set}
use lib.Seq.{set-get_or}
use Rattle.sheet.specs.Limits.{max_wires, max_patterns}
use Rattle.table.specs.Bits.{bit, is_one}
use Rattle.std.specs.Prelude.{Option, Some}
use Rattle.table.specs.Cells.{wires}
use Rattle.branch_bound.specs.Boards.{board_of}
use Rattle.branch_bound.specs.Search.{used_up, charged, split, search_part}
use Rattle.relation.specs.Tests.{of_sets, occurs}
use Rattle.relation.specs.Inner.Members.{member, with_bit}
use Rattle.relation.specs.Inner.Narrowed.{narrowed}
use Rattle.branch_bound.specs.declared.State.{State}
use Rattle.lanes.specs.Inner.Lanes.{lane_of}
use Rattle.parts.specs.Inner.Boards.{lent_kind, lent_inputs, lent_wires, lent_wide}
use Rattle.parts.specs.Inner.Cells.{cells_sum}
use Rattle.parts.specs.Inner.Masks.{row_patterns, mask_count, Halved, with_lanes, cut_row}
use Rattle.parts.specs.Inner.Picks.{table_of, tables_of}
use Rattle.parts.specs.declared.states.Running.{Running}
use Rattle.parts.proofs.MaskRows.{row_back, row_again}
use Rattle.visits.specs.Inner.Conflicts.{split_place}
use Rattle.visits.specs.Inner.States.{state_of, SameRest, Ran}
use Rattle.visits.proofs.StateChanges.{lt→nleb}
use Rattle.visits.proofs.Opening.{found_open, found_below}
use Rattle.halves.specs.Inner.Whole.{Whole}
use Rattle.halves.proofs.Making.{Half, part_sets, part_masks}
use Rattle.branches.specs.declared.Pattern.{Pattern}
use Rattle.branches.specs.Inner.Parts.{Visitable, Splittable}
use Rattle.branches.specs.Inner.Split.{Standing, Driven}
use Rattle.branches.proofs.Carrying.{carried_floor, carried_tables, carried_back, pattern_lt}
use Rattle.branches.proofs.Steps.{splits}

pub pattern_there : {e S ws : List ℕ} {l : Running} {low c p j : ℕ} → Splittable e S ws l low c p j → p < max_patterns
pattern_there {e} q = pattern_lt (lent_kind e) q.part.carried.sized q.pattern

-- a visited part whose first open pair was found may be split there
pub found_splittable : {e S ws : List ℕ} {l l' : Running} {low c from p j : ℕ} {f : Option (ℕ × ℕ)} → Visitable e S ws l low c from → Ran charged l l' → SameRest l l'
    → f ≡ split_place (lent_inputs e) (lent_wires e) (of_sets S) (wires (tables_of (lent_kind e) (lent_inputs e) S)) → f ≡ Some (p, j) → Splittable e S ws l' low c p j
unfolding state_of
found_splittable {e} {S} {c = c} q ran same ef fs =
    let h = q.carried in
    let o = found_open (lent_kind e) h.sized h.sets (carried_tables h) ef fs in
    record {
      part = record {
        lent = q.lent;
        carried = carried_back h same;
        whole = subst (Whole (lent_wide e) (lent_inputs e) S) (sym ran.whole) q.whole;
        inside = omega (arith, o.0);
        settled = found_below (lent_kind e) h.sized h.sets (carried_tables h) ef fs o.0;
        under = subst (λ x. cells_sum c < x) (sym (ap (λ s. s.cells) ran.state)) q.under;
      };
      pattern = o.0;
      wire = o.1;
      open_there = o.2;
    }

-- the same part, after a part of it was treated
pub still_splittable : {e S ws : List ℕ} {l l' : Running} {low c p j : ℕ} {step : State → State} → Splittable e S ws l low c p j → SameRest l l' → Ran step l l'
    → cells_sum c < l'.cells → Splittable e S ws l' low c p j
still_splittable {e} {S} q same ran under =
    record {
      part = record {
        lent = q.part.lent;
        carried = carried_back q.part.carried same;
        whole = subst (Whole (lent_wide e) (lent_inputs e) S) (sym ran.whole) q.part.whole;
        inside = q.part.inside;
        settled = q.part.settled;
        under = under;
      };
      pattern = q.pattern;
      wire = q.wire;
      open_there = q.open_there;
    }

-- a visited part is treated once both parts of its split are
pub both_treated : {e S ws : List ℕ} {l l' last : Running} {low c from p j : ℕ} {f : Option (ℕ × ℕ)} (v : Visitable e S ws l low c from) → T (not (used_up l.budget (state_of l)))
    → Ran charged l l' → f ≡ split_place (lent_inputs e) (lent_wires e) (of_sets S) (wires (tables_of (lent_kind e) (lent_inputs e) S)) → f ≡ Some (p, j)
    → Ran (split (board_of (lent_kind e) (lent_inputs e) (lent_wires e)) l'.budget (search_part (board_of (lent_kind e) (lent_inputs e) (lent_wires e)) l'.budget) (of_sets S) p j) l' last
    → Ran (search_part (board_of (lent_kind e) (lent_inputs e) (lent_wires e)) l.budget (of_sets S)) l last
unfolding state_of
both_treated {e} {l = l} v left one ef fs both =
    record {
      state = splits (lent_kind e) v.carried.sized v.carried.sets l.budget (state_of l) (carried_floor v.carried refl) (lt→nleb _ _ v.under) left (carried_tables v.carried) ef fs one.state
          (rw one.budget at both).state;
      budget = both.budget ∙ one.budget;
      whole = both.whole ∙ one.whole;
    }

module _ (sets masks : List ℕ) (at : Pattern) {e : List ℕ} {l : Running} {low c j b left : ℕ} (q : Splittable e sets masks l low c at.p j) (there : Standing sets masks at) (lb : b < 2)
    (el : left ≡ with_bit at.set j b) where
  -- the part
  abbrev pub half_of : Half e (lent_wires e) sets masks l low c at.p j b left
  half_of =
      record {
        lent = q.part.lent;
        carried = q.part.carried;
        pattern = q.pattern;
        wire = q.wire;
        is_open_lem = q.open_there;
        side = lb;
        left = el ∙ ap (λ x. with_bit x j b) there.0;
      }

  pub sets_are : set sets at.p left ≡ part_sets half_of
  unfolding narrowed
  sets_are = ap (set sets at.p) half_of.left

  pub masks_are : {M : List ℕ} → M ≡ with_lanes masks (at.p / row_patterns) (cut_row at.row at.p left) → M ≡ part_masks half_of
  masks_are eM = eM ∙ ap (λ r. with_lanes masks (at.p / row_patterns) (cut_row r at.p left)) there.1

  -- the wires whose bit on the pattern no longer occurs
  pub lost_told : Driven e sets at → (lost : ℕ) → ((i : ℕ) → i < max_wires → lane_of lost i ≡ is_one (not (occurs max_wires (member left) i (lane_of at.driven i))))
      → (i : ℕ) → i < max_wires → lane_of lost i ≡ is_one (not (occurs max_wires (member left) i (bit (table_of (lent_kind e) (lent_inputs e) sets i) at.p)))
  lost_told driven lost el i li = el i li ∙ ap (λ x. is_one (not (occurs max_wires (member left) i x))) (driven.1 i li)

-- the set and the row that were read are what is put back
module _ (sets masks : List ℕ) (at : Pattern) (there : Standing sets masks at) where
  pub set_put_back : set sets at.p at.set ≡ sets
  set_put_back = ap (set sets at.p) there.0 ∙ set-get_or sets at.p 0

  pub row_put_back : Halved masks → length masks ≡ mask_count → (cut : ℕ) → with_lanes (with_lanes masks (at.p / row_patterns) cut) (at.p / row_patterns) at.row ≡ masks
  row_put_back halved long cut =
      let k = at.p / row_patterns in
      row_again masks k at.row cut ∙ ap (with_lanes masks k) there.1 ∙ row_back masks k halved long
