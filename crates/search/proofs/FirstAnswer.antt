-- The first answer, wire by wire.
use Prim.Native.Nat.{ℕ, ◌+◌, ◌*◌, ◌^◌, ◌<◌, ◌≤◌}
use mathlib.Core.Path.{◌≡◌, refl, sym, ap, ap₂, ◌∙◌}
use mathlib.Core.Logic.{⊎_elim}
use mathlib.Core.Bool.{false, cond}
use mathlib.Core.List.{List, [], ◌∷◌}
use native.Mathlib.Numerals.{add-one}
use native.Mathlib.Omega.{arith}
use native.Mathlib.Nat.{le_trans, lt_of_lt_of_le}
use borrow.Author.Tests.{lt-ltb}
use lib.Dec.{T_not, eqb, ltb, eqb→eq, ltb→lt, lt→ltb}
use lib.ListN.{length, get_or, set, length-set}
use lib.Pow.{pow_mono}
use lib.Seq.{get_or-set_same, get_or-set_other}
use Rattle.sheet.specs.Limits.{max_inputs, max_wires, max_patterns, max_values}
use Rattle.base.proofs.Tests.{decide, eq_test, test_ext}
use Rattle.table.specs.Bits.{sum, tabulate}
use Rattle.table.specs.Cells.{wires, total}
use Rattle.table.proofs.Bits.{tabulate_at, sum_cong}
use Rattle.relation.specs.Source.{Tables}
use Rattle.relation.specs.Tests.{of_sets, agree}
use Rattle.relation.specs.Inner.Narrowed.{agreed}
use Rattle.relation.proofs.Splits.{agree_well_defined}
use Rattle.relation.proofs.Narrowing.{agreed_agree, agreed_narrow}
use Rattle.base.proofs.Tabulate.{filled_tabulate}
use Rattle.branch_bound.specs.declared.State.{State}
use Rattle.branch_bound.specs.Search.{reply_tables, pick, left, quick, start}
use Rattle.nodes.specs.declared.BoardKind.{BoardKind}
use Rattle.branch_bound.specs.Boards.{board_of}
use Rattle.nodes.specs.Counts.{count_of, most_inputs}
use Rattle.nodes.proofs.Counts.{count_lt, most_inputs_lem}
use Rattle.sheet.specs.Inner.Sized.{Sized}
use Rattle.parts.specs.Inner.Parts.{PartSets}
use Rattle.parts.specs.Inner.Picks.{table_of}
use Rattle.branch_bound.proofs.Picks.{tables_long, wires_tables, pick_fits}
use Rattle.parts.proofs.Keeping.{narrow, kept_pick}

-- the table chosen for wire i
abbrev chosen : BoardKind → ℕ → ℕ → List ℕ → Tables
chosen kind n m sets i = pick (board_of kind n m) (left (board_of kind n m) (of_sets sets) i) i

-- where wires 0 to j - 1 are chosen: what is left of the sets, the tables, and their cells
pub record ChosenBelow (kind : BoardKind) (n m : ℕ) (sets : List ℕ) (j : ℕ) (rest tables : List ℕ) (sums : ℕ) : Type 0 where
  pub reached : j ≤ m
  pub kept : PartSets n m rest
  pub is_left : of_sets rest ≡ left (board_of kind n m) (of_sets sets) j
  pub are_chosen : tables ≡ reply_tables j (chosen kind n m sets)
  pub counted : sums ≡ sum j (λ i. count_of kind n (chosen kind n m sets i))
  pub few : sums ≤ j * max_patterns

pub none_taken : (kind : BoardKind) (n m : ℕ) (sets : List ℕ) → PartSets n m sets → ChosenBelow kind n m sets 0 sets (0 ∷ 0 ∷ 0 ∷ 0 ∷ []) 0
unfolding left reply_tables tabulate sum
none_taken kind n m sets ok = record { reached = omega arith; kept = ok; is_left = refl; are_chosen = refl; counted = refl; few = omega arith }

-- one table more in a row of tables
more_tables : (j : ℕ) (X : Tables) (tables : List ℕ) → j < max_wires → tables ≡ reply_tables j X → set tables j (X j) ≡ reply_tables (j + 1) X
unfolding reply_tables
more_tables j X tables lj e =
    let f : ℕ → ℕ = λ i. cond (ltb i j) (X i) 0 in
    let g : ℕ → ℕ = λ i. cond (ltb i (j + 1)) (X i) 0 in
    let long : length tables ≡ max_wires = ap length e ∙ tables_long j X in
    filled_tabulate max_wires g (set tables j (X j)) (simp length-set long)
    (λ q l.
    ⊎_elim
    (λ t.
    let d = eqb→eq q j t in
    rw d (get_or-set_same tables j (X j) 0 (rw long lj) ∙ sym (rw (lt-ltb j (j + 1) (omega arith)))))
    (λ t.
    let ne : q ≡ j → ⊥ = λ d. T_not (eqb q j) t (eq_test d) in
    get_or-set_other tables j q (X j) 0 ne ∙ ap (λ ts. get_or ts q 0) e ∙ tabulate_at max_wires f q l
    ∙ ap (λ b. cond b (X q) 0)
    (test_ext (ltb q j) (ltb q (j + 1)) (λ h. lt→ltb q (j + 1) (omega (arith, ltb→lt q j h))) (λ h. lt→ltb q j (below q ne (ltb→lt q (j + 1) h)))))
    (decide (eqb q j)))
  where
    below : (q : ℕ) → (q ≡ j → ⊥) → q < j + 1 → q < j
    below q ne h = omega arith

-- the next wire, from its pick
module _ {kind : BoardKind} {n m : ℕ} (sz : Sized (most_inputs kind) n m) {sets : List ℕ} {j : ℕ} {rest tables : List ℕ} {sums : ℕ} (tk : ChosenBelow kind n m sets j rest tables sums)
    (lj : j < m) where
  is_chosen : pick (board_of kind n m) (of_sets rest) j ≡ chosen kind n m sets j
  is_chosen = ap (λ R. pick (board_of kind n m) R j) tk.is_left

  small : (p : ℕ) → get_or rest p 0 < 2 ^ max_values
  small p = lt_of_lt_of_le (tk.kept.small p) (pow_mono {i = 2 ^ m} {j = max_values} (pow_mono {i = m} {j = max_wires} sz.m_most))

  chosen_next : {s : ℕ} → s ≡ count_of kind n (table_of kind n rest j)
      → ChosenBelow kind n m sets (j + 1) (agreed rest j (table_of kind n rest j)) (set tables j (table_of kind n rest j)) (sums + s)
  unfolding left board_of sum
  chosen_next {s} es =
      let t = table_of kind n rest j in
      let R = of_sets rest in
      let p = pick (board_of kind n m) R j in
      let k = kept_pick kind sz tk.kept j in
      let tp : t ≡ p = k in
      let ag = agreed_agree rest j t tk.kept.long small in
      let w = agreed_narrow n m rest j t (narrow kind sz tk.kept) in
      record {
        reached = omega arith;
        kept =
            record {
              long = w.long;
              small = w.small;
              past = w.past;
              defined = rw (ag, tp) (agree_well_defined R j p n m (pick_fits (board_of kind n m) R tk.kept.defined j));
            };
        is_left = ag ∙ ap (agree R j) tp ∙ ap (λ Q. agree Q j (pick (board_of kind n m) Q j)) tk.is_left ∙ ap (left (board_of kind n m) (of_sets sets)) (sym (add-one j));
        are_chosen = ap (set tables j) (tp ∙ is_chosen) ∙ more_tables j (chosen kind n m sets) tables (omega (arith, sz.m_most)) tk.are_chosen;
        counted = ap₂ (λ x y. x + y) tk.counted (es ∙ ap (count_of kind n) (k ∙ is_chosen))
            ∙ ap (λ k. sum k (λ i. count_of kind n (chosen kind n m sets i))) (sym (add-one j));
        few = omega (arith, tk.few, es, count_lt kind n (table_of kind n rest j), pow_mono {i = n} {j = max_inputs} (le_trans sz.n_most (most_inputs_lem kind)));
      }

  -- as the code makes it
  pub next_taken : {s : ℕ} {more next : List ℕ} → more ≡ set tables j (table_of kind n rest j) → s ≡ count_of kind n (table_of kind n rest j) → next ≡ agreed rest j (get_or more j 0)
      → ChosenBelow kind n m sets (j + 1) next more (sums + s)
  next_taken {s} {more} {next} et es en =
      let t = table_of kind n rest j in
      let long : length tables ≡ max_wires = ap length tk.are_chosen ∙ tables_long j (chosen kind n m sets) in
      let there : get_or more j 0 ≡ t = ap (λ l. get_or l j 0) et ∙ get_or-set_same tables j t 0 (omega (arith, long, sz.m_most)) in
      rw (en ∙ ap (agreed rest j) there, et) (chosen_next es)

-- with all wires chosen it is the start of the search
pub all_taken : {kind : BoardKind} {n m : ℕ} → Sized (most_inputs kind) n m → {sets rest tables : List ℕ} {sums j : ℕ} → j ≡ m → ChosenBelow kind n m sets j rest tables sums
    → ◌≡◌ {A = State} (record { tables = tables; cells = sums; visits = 0; stopped = false }) (start (board_of kind n m) (of_sets sets))
unfolding start quick total board_of
all_taken {kind} {n} {m} sz {sets} {rest} {tables} {sums} {j} e tk =
    let et : tables ≡ reply_tables m (chosen kind n m sets) = tk.are_chosen ∙ ap (λ k. reply_tables k (chosen kind n m sets)) e in
    let ec : sums ≡ sum m (λ i. count_of kind n (wires (reply_tables m (chosen kind n m sets)) i)) =
    tk.counted ∙ ap (λ k. sum k (λ i. count_of kind n (chosen kind n m sets i))) e
    ∙ sum_cong m (λ i. count_of kind n (chosen kind n m sets i)) (λ i. count_of kind n (wires (reply_tables m (chosen kind n m sets)) i))
    (λ i l. ap (count_of kind n) (sym (wires_tables n m sz.m_most (chosen kind n m sets) i l))) in
    rw (et, ec)
