-- A wire's table from its pick: its first section is the pick's result, and on a wide board the state has the others.
use Prim.Native.Nat.{ℕ, ◌+◌, ◌/◌, ◌%◌, ◌^◌, ◌<◌, ◌≤◌}
use mathlib.Core.Path.{◌≡◌, refl, ap, ◌∙◌}
use mathlib.Core.Logic.{⊎_elim}
use mathlib.Core.Bool.{Bool, not, cond}
use mathlib.Core.List.{List}
use native.Mathlib.Omega.{arith}
use native.Mathlib.Nat.{lt_of_lt_of_le}
use lib.Dec.{T, nleb→lt}
use lib.ListN.{get_or}
use lib.Pow.{pow_mono}
use Rattle.base.proofs.Tests.{decide, test_yes, test_no, eqb_yes}
use Rattle.sheet.specs.Limits.{max_inputs, max_wires, max_patterns}
use Rattle.table.specs.Inner.Ranks.{narrow_space}
use Rattle.table.specs.Inner.Pairs.{narrow_inputs, narrow_patterns}
use Rattle.relation.specs.Inner.Side.{section}
use Rattle.relation.proofs.Side.{section_lt}
use Rattle.lanes.specs.Inner.Lanes.{lane_of, put_lane}
use Rattle.lanes.proofs.Lanes.{lane_lt, put_lane_at}
use Rattle.parts.specs.Inner.Boards.{wide_mark, board_in, lent_inputs, lent_wide, Lent}
use Rattle.parts.specs.Inner.Picks.{pick_on, cells_on, side_rank}
use Rattle.parts.specs.declared.states.Running.{Running}
use Rattle.parts.specs.Inner.States.{rest_count, PutRest}
use Rattle.parts.proofs.Lending.{inputs_few}
use Rattle.parts.proofs.LentPicks.{narrow_inputs_lem}
use Rattle.visits.specs.Inner.States.{joined_of}
use Rattle.visits.proofs.StateChanges.{sections_join}
use Rattle.halves.proofs.MadeAgain.{lane_zero}

-- the first section beside the others has room in one number
pub joined_fits : (low b c d j : ℕ) → low < narrow_space → j < max_wires → low + joined_of 0 b c d j < 2 ^ max_patterns
unfolding joined_of
joined_fits low b c d j l lj = omega (arith, lane_zero j, lane_lt b j, lane_lt c j, lane_lt d j)

-- the first section alone
narrow_section : (t : ℕ) → t < narrow_space → section t 0 ≡ t
unfolding section
narrow_section t l = omega arith

module _ {e : List ℕ} (lent : Lent e) (words : List ℕ) (j : ℕ) (lj : j < max_wires) (fits : pick_on e words j < 2 ^ (2 ^ lent_inputs e)) {r : ℕ} (er : r ≡ side_rank e words j) where
  abbrev t : ℕ
  t = pick_on e words j

  first_section : r % narrow_space ≡ section t 0
  first_section = omega (arith, er, section_lt t 0)

  pub cells_told : r / narrow_space ≡ cells_on e words j
  cells_told = omega (arith, er, section_lt t 0)

  whole_fits : t < 2 ^ max_patterns
  whole_fits = lt_of_lt_of_le fits (pow_mono {i = 2 ^ lent_inputs e} {j = max_patterns} (pow_mono {i = lent_inputs e} {j = max_inputs} (inputs_few lent)))

  narrow_fits : T (not (lent_wide e)) → t < narrow_space
  narrow_fits h =
      let f : lent_inputs e ≤ narrow_inputs = narrow_inputs_lem e lent (board_in e) refl (nleb→lt wide_mark (board_in e) h) in
      lt_of_lt_of_le fits (pow_mono {i = 2 ^ lent_inputs e} {j = narrow_patterns} (pow_mono {i = lent_inputs e} {j = narrow_inputs} f))

  module _ {before after : Running} (put : PutRest (lent_wide e) j t before after) where
    put_lane_lem : T (lent_wide e) → (i : ℕ) → i < rest_count → lane_of (get_or after.rest i 0) j ≡ section t (i + 1)
    put_lane_lem h i li =
        let x = get_or before.rest i 0 in
        ap (λ y. lane_of y j) (put.rest i li ∙ ap (λ w. cond w (put_lane x j (section t (i + 1))) x) (test_yes (lent_wide e) h))
        ∙ put_lane_at x j (section t (i + 1)) j (section_lt t (i + 1)) lj ∙ eqb_yes j j (section t (i + 1)) (lane_of x j) refl

    others : T (lent_wide e) → section t 0 + joined_of 0 (get_or after.rest 0 0) (get_or after.rest 1 0) (get_or after.rest 2 0) j ≡ t
    unfolding joined_of
    others h =
        rw (lane_zero j, put_lane_lem h 0 (omega arith), put_lane_lem h 1 (omega arith), put_lane_lem h 2 (omega arith)) (omega (arith, sections_join t whole_fits))

    pub table_told : {wide : Bool} → wide ≡ lent_wide e
        → cond wide (r % narrow_space + joined_of 0 (get_or after.rest 0 0) (get_or after.rest 1 0) (get_or after.rest 2 0) j) (r % narrow_space) ≡ t
    table_told ew =
        ⊎_elim (λ h. rw (ew ∙ test_yes (lent_wide e) h, first_section) (others h)) (λ h. rw (ew ∙ test_no (lent_wide e) h, first_section) (narrow_section t (narrow_fits h))) (decide (lent_wide e))
