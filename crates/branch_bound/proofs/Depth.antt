-- More depth than open pairs changes nothing: the search of a part is steps 1 to 4 with itself for the parts.
use Prim.Native.Nat.{ℕ, zero, suc, ◌^◌, ◌<◌, ◌≤◌}
use mathlib.Core.Path.{◌≡◌, refl, ap, ◌∙◌}
use native.Mathlib.Omega.{arith}
use native.Mathlib.Nat.{not-suc-le-zero}
use lib.Dec.{T}
use Rattle.sheet.specs.Limits.{max_wires}
use Rattle.base.proofs.Tests.{cond_has₂}
use Rattle.relation.specs.Source.{Rel}
use Rattle.relation.specs.Inner.Source.{WellDefined}
use Rattle.table.specs.Cells.{wires}
use Rattle.relation.specs.Tests.{keep, is_open, open_wire, compatible, conflict, open_pairs}
use Rattle.relation.proofs.Decide.{free_both, conflict_is, open_wire_is}
use Rattle.relation.proofs.Splits.{keep_well_defined, keep_closes}
use Rattle.branch_bound.specs.declared.State.{State}
use Rattle.branch_bound.specs.Search.{Board, pick, picks, floor, split, expand, charge, treat, visit, search_part, charged, discarded, used_up}
use Rattle.branch_bound.proofs.Picks.{wires_tables, pick_fits}

-- More depth than open pairs changes nothing.
module _ (b : Board) (few : b.m ≤ max_wires) (budget : ℕ) where
  -- the two agree on the parts of R
  abbrev Same : Rel → (Rel → State → State) → (Rel → State → State) → Type 0
  Same R f g = (P : Rel) (s : State) → open_pairs b.n b.m P < open_pairs b.n b.m R → WellDefined b.n b.m P → f P s ≡ g P s

  module _ (R : Rel) (ne : WellDefined b.n b.m R) (f g : Rel → State → State) (same : Same R f g) where
    split_same : (p j : ℕ) (s : State) → p < 2 ^ b.n → j < b.m → T (is_open b.m (R p) j) → split b budget f R p j s ≡ split b budget g R p j s
    unfolding split
    split_same p j s lp lj t =
        let o = free_both b.m (R p) j t in
        same (keep R p j 1) (f (keep R p j 0) s) (keep_closes b.n b.m R p j 1 lp lj t) (keep_well_defined R p j 1 b.n b.m ne o.1)
        ∙ ap (g (keep R p j 1)) (same (keep R p j 0) s (keep_closes b.n b.m R p j 0 lp lj t) (keep_well_defined R p j 0 b.n b.m ne o.0))

    pub treat_same : (s : State) → treat b budget f R s ≡ treat b budget g R s
    unfolding treat charge expand picks
    treat_same s =
        cond_has₂ (λ x y. x ≡ y) (discarded s (floor b R)) (λ _. refl)
        (λ _.
        cond_has₂ (λ x y. x ≡ y) (used_up budget s) (λ _. refl)
        (λ _.
        cond_has₂ (λ x y. x ≡ y) (compatible b.n b.m R (wires (picks b R))) (λ _. refl)
        (λ h.
        let p = conflict b.n b.m R (wires (picks b R)) in
        let at = conflict_is b.n b.m R (wires (picks b R)) h in
        let w = open_wire_is b.n b.m R (wires (picks b R)) ne
        (λ j l. rw (wires_tables b.n b.m few (pick b R) j l) (pick_fits b R ne j)) p at.0 at.1 in
        split_same p (open_wire b.m (R p))
        (charged s) at.0 w.0 w.1)))

  pub visit_more : (k l : ℕ) (R : Rel) (s : State) → open_pairs b.n b.m R < k → open_pairs b.n b.m R < l → WellDefined b.n b.m R
      → visit b budget k R s ≡ visit b budget l R s
  unfolding visit
  visit_more zero l R s hk hl ne = absurd (not-suc-le-zero hk)
  visit_more (suc k) zero R s hk hl ne = absurd (not-suc-le-zero hl)
  visit_more (suc k) (suc l) R s hk hl ne =
      treat_same R ne (visit b budget k) (visit b budget l) (λ P t h n_p. visit_more k l P t (omega arith) (omega arith) n_p) s

  -- it is steps 1 to 4 with itself for the parts
  pub search_step : (R : Rel) (s : State) → WellDefined b.n b.m R → search_part b budget R s ≡ treat b budget (search_part b budget) R s
  unfolding search_part visit
  search_step R s ne =
      treat_same R ne (visit b budget (open_pairs b.n b.m R)) (search_part b budget)
      (λ P t h n_p. visit_more (open_pairs b.n b.m R) (suc (open_pairs b.n b.m P)) P t h (omega arith) n_p) s
