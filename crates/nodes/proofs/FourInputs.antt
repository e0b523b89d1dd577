-- The pick among tables of four inputs: the least with the inverse of the last input and without it, over the ways in which quarters coincide and the lines.
use Prim.Native.Nat.{ℕ, ◌+◌, ◌*◌, ◌^◌, ◌<◌, ◌≤◌, min}
use mathlib.Core.Path.{◌≡◌, refl, sym, subst, ◌∙◌}
use mathlib.Core.Logic.{◌⊎◌, inl, inr, ⊎_elim}
use mathlib.Core.Bool.{Bool, true, false, not}
use mathlib.Core.Option.{some}
use native.Mathlib.Omega.{arith}
use native.Mathlib.Nat.{le_antisymm}
use lib.Dec.{T}
use Rattle.base.specs.Lowest.{lowest}
use Rattle.base.proofs.Tests.{decide}
use Rattle.table.specs.Bits.{sum, is_one}
use Rattle.table.specs.Cells.{low, high, wired_table}
use Rattle.table.specs.Pick.{Proj, suits}
use Rattle.table.specs.Inner.Blocks.{Covered}
use Rattle.table.specs.Inner.Pairs.{zeros_in, ones_in}
use Rattle.table.specs.Inner.Ranks.{masked, pick_of, rank}
use Rattle.table.proofs.Halves.{same_halves}
use Rattle.table.proofs.Least.{Least}
use Rattle.table.proofs.Masks.{pick_of_least}
use Rattle.nodes.specs.Nodes.{nodes}
use Rattle.nodes.specs.Inner.Ways.{one_node, four, no_inverted, way_of}
use Rattle.nodes.proofs.Quarters.{below4, quarters_of}
use Rattle.nodes.proofs.Framed.{apart, half_apart, within}
use Rattle.nodes.proofs.OwnFrame.{ends}
use Rattle.nodes.proofs.Classes.{members, class_value, line_value}
use Rattle.nodes.proofs.Sound.{fit_in, within_all, way_sound}
use Rattle.nodes.proofs.LinesSound.{first_line_above, second_line_above, both_lines_above, lower_line_above, upper_line_above}
use Rattle.nodes.proofs.Complete.{first, first_le, first_again, own, own_met}
use Rattle.nodes.proofs.LinesComplete.{first_line_met, second_line_met, half_line_met}
use Rattle.nodes.proofs.Fifteen.{first_line_most, second_line_most, tree_most, way_least, way_most}
use Rattle.nodes.proofs.Linked.{way_in, all_linked, inverted_linked}

module _ (w : ℕ) (covered : Covered 4 (zeros_in w) (ones_in w)) where
  abbrev P : Proj
  P = masked (zeros_in w) (ones_in w)

  abbrev t : ℕ
  t = pick_of (nodes 4) 4 (zeros_in w) (ones_in w)

  least_pick : Least (nodes 4) (suits 4 P) (2 ^ (2 ^ 4)) (some t)
  least_pick = pick_of_least (nodes 4) 4 (zeros_in w) (ones_in w) covered

  no_less : (i : Bool) → rank (nodes 4) t ≤ is_one i * one_node + way_in w i
  no_less i =
      way_least (class_value (fit_in P) i) (line_value (fit_in P)) (is_one i * one_node) (rank (nodes 4) t) (λ r s. way_sound P t least_pick r s i)
      (first_line_above P t least_pick) (second_line_above P t least_pick) (both_lines_above P t least_pick) (lower_line_above P t least_pick i) (upper_line_above P t least_pick i)

  -- the inverse may occur where the pick has it
  module _ (i : Bool) (allowed : (j : ℕ) → j < 4 → T (within i (quarters_of t j))) where
    -- the pick's own coincidences are one of the fifteen ways
    own_reached : T (not (wired_table 3 t)) → T (not (wired_table 2 (low 3 t))) → T (not (wired_table 2 (high 3 t)))
        → is_one (ends t 1) * one_node + way_in w i ≤ rank (nodes 4) t
    unfolding first lowest apart half_apart sum members
    own_reached x y z =
        let q = quarters_of t in
        let r = first q in
        let is : (j : ℕ) → j < 4 → four 0 (r 1) (r 2) (r 3) j ≡ r j = below4 (λ j. four 0 (r 1) (r 2) (r 3) j ≡ r j) refl refl refl refl in
        let again : (j : ℕ) → j < 4 → four 0 (r 1) (r 2) (r 3) (r j) ≡ r j = λ j l. is (r j) (omega (arith, first_le q j)) ∙ first_again q j in
        let b = way_most (class_value (fit_in P) i) (line_value (fit_in P)) (r 1) (r 2) (r 3) (first_le q 1) (first_le q 2) (first_le q 3) (again 1 (omega arith))
        (again 2 (omega arith)) (again 3 (omega arith)) in
        let m = own_met P t least_pick.0 least_pick.1 i allowed x y z in
        omega (arith, b, m)

    -- a half of the pick is a line, and so is the other, or they share no quarter
    half_reached : T (not (wired_table 3 t)) → T (wired_table 2 (low 3 t)) ⊎ T (wired_table 2 (high 3 t))
        → is_one (ends t 1) * one_node + way_in w i ≤ rank (nodes 4) t
    half_reached x s =
        ⊎_elim
        (λ e.
        let h : T (wired_table 2 (low 3 t)) = ⊎_elim (λ y. y) (λ y. subst (λ u. T (wired_table 2 u)) (sym e) y) s in
        omega (arith, second_line_most (class_value (fit_in P) i) (line_value (fit_in P)), second_line_met P t least_pick.0 least_pick.1 h e))
        (λ d. omega (arith, tree_most (class_value (fit_in P) i) (line_value (fit_in P)), half_line_met P t least_pick.0 least_pick.1 i allowed d x s))
        (same_halves 3 t)

    reached : is_one (ends t 1) * one_node + way_in w i ≤ rank (nodes 4) t
    reached =
        ⊎_elim (λ x. omega (arith, first_line_most (class_value (fit_in P) i) (line_value (fit_in P)), first_line_met P t least_pick.0 least_pick.1 x))
        (λ x.
        ⊎_elim (λ y. half_reached x (inl y))
        (λ y. ⊎_elim (λ z. half_reached x (inr z)) (λ z. own_reached x y z) (decide (wired_table 2 (high 3 t))))
        (decide (wired_table 2 (low 3 t))))
        (decide (wired_table 3 t))

  pub picked : min (way_of (no_inverted w)) (one_node + way_of w) ≡ rank (nodes 4) t
  unfolding is_one
  picked =
      le_antisymm (go (ends t 1) (reached true (λ j l. within_all (quarters_of t j))) (reached (ends t 1) (own t)))
      (omega (arith, no_less true, no_less false, all_linked w, inverted_linked w))
    where
      go : (i : Bool) → is_one i * one_node + way_in w true ≤ rank (nodes 4) t → is_one i * one_node + way_in w i ≤ rank (nodes 4) t
          → min (way_of (no_inverted w)) (one_node + way_of w) ≤ rank (nodes 4) t
      go true x y = omega (arith, x, all_linked w)
      go false x y = omega (arith, y, inverted_linked w)
