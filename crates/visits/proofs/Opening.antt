-- The pair to split at: what the nested loops find is the first conflict and its first open wire.
use Prim.Native.Nat.{ℕ, ◌/◌, ◌%◌, ◌^◌, ◌<◌, ◌≤◌}
use mathlib.Core.Path.{◌≡◌, refl, sym, ap, ap₂, ◌∙◌}
use mathlib.Core.Logic.{⊎_elim}
use mathlib.Core.Bool.{Bool, false, cond, not}
use mathlib.Core.List.{List}
use native.Mathlib.Omega.{arith}
use lib.Dec.{T, T_not, not_T, ltb, nltb→le, ltb→lt}
use lib.ListN.{get_or, get_or-eq_default}
use Rattle.sheet.specs.Limits.{max_wires}
use Rattle.base.specs.Lowest.{lowest}
use Rattle.base.proofs.Tests.{cond_has, decide, test_yes, test_no}
use Rattle.base.proofs.Lowest.{lowest_at, lowest_below}
use Rattle.table.specs.Bits.{tabulate}
use Rattle.table.proofs.Bits.{tabulate_at, tabulate_length}
use Rattle.relation.specs.Source.{Rel, Tables, value}
use Rattle.relation.specs.Tests.{of_sets, is_open, open_wire, compatible, conflict}
use Rattle.table.specs.Cells.{wires}
use Rattle.relation.specs.Inner.Members.{member}
use Rattle.relation.specs.Inner.Side.{side_by_side, value_in}
use Rattle.relation.proofs.Decide.{compatible_at, compatible_test, conflict_is, open_wire_is}
use Rattle.relation.proofs.Members.{member_sets}
use Rattle.relation.proofs.AllWires.{free_all_wires, value_all_wires}
use Rattle.relation.proofs.Side.{side_value}
use Rattle.std.specs.Prelude.{Option, Some, None}
use Rattle.branch_bound.specs.Search.{reply_tables, pick, picks}
use Rattle.nodes.specs.declared.BoardKind.{BoardKind}
use Rattle.nodes.specs.Counts.{most_inputs}
use Rattle.table.specs.Inner.Pairs.{narrow_patterns}
use Rattle.branch_bound.specs.Boards.{board_of}
use Rattle.sheet.specs.Inner.Sized.{Sized}
use Rattle.parts.specs.Inner.Parts.{PartSets}
use Rattle.visits.specs.Inner.Conflicts.{Settled, split_place}
use Rattle.branch_bound.proofs.Picks.{wires_tables, pick_fits}

-- a reply's tables past the last wire are 0
pub tables_past : (m : ℕ) (X : Tables) (j : ℕ) → m ≤ j → wires (reply_tables m X) j ≡ 0
unfolding reply_tables
tables_past m X j l =
    let f : ℕ → ℕ = λ i. cond (ltb i m) (X i) 0 in
    ⊎_elim
    (λ h. tabulate_at max_wires f j (ltb→lt j max_wires h)
    ∙ cond_has (λ x. x ≡ 0) (ltb j m) (λ g. absurd (omega (arith, ltb→lt j m g))) (λ _. refl))
    (λ h. get_or-eq_default (tabulate max_wires f) 0 (rw (tabulate_length max_wires f) (nltb→le j max_wires h)))
    (decide (ltb j max_wires))

-- what a pair found tells
pub place_told : (n m : ℕ) (R : Rel) (X : Tables) (p j : ℕ) → split_place n m R X ≡ Some (p, j)
    → T (not (compatible n m R X)) × (conflict n m R X ≡ p) × (open_wire m (R p) ≡ j)
unfolding split_place
place_told n m R X p j e =
    ⊎_elim
    (λ t. let z : None ≡ Some (p, j) = rw (test_yes (compatible n m R X) t) at e in let y : ◌≡◌ {A = ℕ} 0 1 = cc in absurd (omega arith))
    (λ t.
    let z : Some (conflict n m R X, open_wire m (R (conflict n m R X))) ≡ Some (p, j) = rw (test_no (compatible n m R X) t) at e in
    let y : ◌≡◌ {A = ℕ × ℕ} (conflict n m R X, open_wire m (R (conflict n m R X))) (p, j) = cc in
    let ep = ap (λ (x : ℕ × ℕ). x.0) y in
    let ej = ap (λ (x : ℕ × ℕ). x.1) y in
    (t, ep, rw ep at ej))
    (decide (compatible n m R X))

-- what no pair found tells
pub found_nowhere : (n m : ℕ) (R : Rel) (X : Tables) → split_place n m R X ≡ None → T (compatible n m R X)
unfolding split_place
found_nowhere n m R X e =
    ⊎_elim (λ t. t)
    (λ t.
    let c = conflict n m R X in
    let z : Some (c, open_wire m (R c)) ≡ None = rw (test_no (compatible n m R X) t) at e in
    let y : ◌≡◌ {A = ℕ} 0 1 = cc in absurd (omega arith))
    (decide (compatible n m R X))

module _ (kind : BoardKind) {n m : ℕ} (sz : Sized (most_inputs kind) n m) {sets : List ℕ} (ok : PartSets n m sets) {tables : List ℕ} (are : tables ≡ picks (board_of kind n m) (of_sets sets)) where
  -- the code's tests
  pub allowed_test : (p : ℕ) → {s v : ℕ} → s ≡ side_by_side tables (p / narrow_patterns) → v ≡ value_in s (p % narrow_patterns)
      → {r : Bool} → r ≡ member (get_or sets p 0) v → r ≡ of_sets sets p (value m (wires tables) p)
  unfolding picks board_of
  allowed_test p es ev er =
      er
      ∙ ap₂ (λ (S : ℕ → Bool) v. S v) (sym (member_sets sets p))
      (ev
      ∙ ap (λ x. value_in x (p % narrow_patterns)) es
      ∙ side_value tables p
      ∙ value_all_wires m tables p sz.m_most (λ j l. ap (λ ts. wires ts j) are ∙ tables_past m (pick (board_of kind n m) (of_sets sets)) j l))

  pub free_test : (p j : ℕ) → is_open max_wires (member (get_or sets p 0)) j ≡ is_open m (of_sets sets p) j
  free_test p j = free_all_wires m (get_or sets p 0) j sz.m_most (ok.small p) ∙ ap (λ S. is_open m S j) (sym (member_sets sets p))

  -- every pick fits, so a pattern in conflict has an open wire
  pub some_open : (p : ℕ) → p < 2 ^ n → T (not (of_sets sets p (value m (wires tables) p))) → ((j : ℕ) → j < m → T (not (is_open m (of_sets sets p) j))) → ⊥
  unfolding picks board_of
  some_open p lp t h =
      let R = of_sets sets in
      let w = open_wire_is n m R (wires tables) ok.defined
      (λ j l. rw (are, wires_tables n m sz.m_most (pick (board_of kind n m) R) j l) (pick_fits (board_of kind n m) R ok.defined j)) p lp t in
      T_not (is_open m (R p) (open_wire m (R p))) (h (open_wire m (R p)) w.0) w.1

  pub none_open : ((p : ℕ) → p < 2 ^ n → T (of_sets sets p (value m (wires tables) p))) → split_place n m (of_sets sets) (wires tables) ≡ None
  unfolding split_place
  none_open h = rw (test_yes (compatible n m (of_sets sets) (wires tables)) (compatible_test n m (of_sets sets) (wires tables) h))

  pub pair_open : (p j : ℕ) → p < 2 ^ n → j < m → ((q : ℕ) → q < p → T (of_sets sets q (value m (wires tables) q)))
      → T (not (of_sets sets p (value m (wires tables) p))) → ((i : ℕ) → i < j → T (not (is_open m (of_sets sets p) i))) → T (is_open m (of_sets sets p) j)
      → split_place n m (of_sets sets) (wires tables) ≡ Some (p, j)
  unfolding split_place conflict open_wire
  pair_open p j lp lj before here below free-here =
      let R = of_sets sets in
      let X = wires tables in
      let no : compatible n m R X ≡ false =
      test_no (compatible n m R X) (not_T (compatible n m R X) (λ t. T_not (R p (value m X p)) here (compatible_at n m R X t p lp))) in
      let at : lowest (2 ^ n) (λ p. not (R p (value m X p))) ≡ p =
      lowest_at (2 ^ n) (λ p. not (R p (value m X p))) p lp here (λ q l. not_T (not (R q (value m X q))) (λ t. T_not (R q (value m X q)) t (before q l))) in
      let wire : lowest m (is_open m (R p)) ≡ j = lowest_at m (is_open m (R p)) j lj free-here below in
      rw (no, at, wire)

  -- what is found is an open pair
  pub found_open : {f : Option (ℕ × ℕ)} → f ≡ split_place n m (of_sets sets) (wires tables) → {p j : ℕ} → f ≡ Some (p, j)
      → (p < 2 ^ n) × (j < m) × T (is_open m (of_sets sets p) j)
  unfolding picks board_of
  found_open ef {p} {j} e =
      let R = of_sets sets in
      let told = place_told n m R (wires tables) p j (sym ef ∙ e) in
      let at = rw told.1 at (conflict_is n m R (wires tables) told.0) in
      let w = open_wire_is n m R (wires tables) ok.defined
      (λ j l. rw (are, wires_tables n m sz.m_most (pick (board_of kind n m) R) j l) (pick_fits (board_of kind n m) R ok.defined j)) p at.0 at.1 in
      let v = rw told.2 at w in (at.0, v.0, v.1)

  -- and below it nothing is in conflict
  pub found_below : {f : Option (ℕ × ℕ)} → f ≡ split_place n m (of_sets sets) (wires tables) → {p j : ℕ} → f ≡ Some (p, j) → p < 2 ^ n → Settled m sets tables p
  unfolding conflict
  found_below ef {p} {j} e lp q l =
      let R = of_sets sets in
      let told = place_told n m R (wires tables) p j (sym ef ∙ e) in
      ⊎_elim (λ t. t)
      (λ t. absurd (omega (arith, told.1, lowest_below (2 ^ n) (λ p. not (R p (value m (wires tables) p))) q (omega arith) t)))
      (decide (R q (value m (wires tables) q)))
