-- The whole relation tells where the picks of a part are in conflict: a split keeps the agreement, and where the whole allows the picks' values, so does the part.
use Prim.Native.Nat.{ℕ, ◌^◌, ◌<◌}
use mathlib.Core.Path.{◌≡◌, sym, ap, subst, ◌∙◌}
use mathlib.Core.Logic.{⊎_elim}
use mathlib.Core.List.{List}
use native.Mathlib.Omega.{arith}
use lib.Dec.{T, T_not, eqb, eqb→eq}
use lib.ListN.{length, get_or}
use lib.Seq.{get_or-set_same, get_or-set_other}
use Rattle.base.proofs.Tests.{decide, eq_test, and_left, and_right, and_intro}
use Rattle.sheet.specs.Limits.{max_wires, max_patterns, max_values}
use Rattle.sheet.specs.Inner.Sized.{Sized}
use Rattle.table.specs.Bits.{bit}
use Rattle.table.specs.Cells.{wires}
use Rattle.nodes.specs.declared.BoardKind.{BoardKind}
use Rattle.nodes.specs.Counts.{most_inputs}
use Rattle.relation.specs.Source.{value}
use Rattle.relation.specs.Tests.{of_sets, occurs}
use Rattle.relation.specs.Inner.Members.{member, with_bit}
use Rattle.relation.specs.Inner.Narrowed.{narrowed}
use Rattle.relation.proofs.Decide.{value_bit, occurs_at}
use Rattle.relation.proofs.Splits.{occurs_part}
use Rattle.relation.specs.Inner.Source.{fits}
use Rattle.relation.proofs.Members.{member_sets, with_test}
use Rattle.relation.proofs.AllWires.{occurs_all_wires, value_all_wires}
use Rattle.table.specs.Pick.{suits}
use Rattle.table.proofs.Bits.{all_at}
use Rattle.branch_bound.specs.Search.{pick, picks}
use Rattle.branch_bound.specs.Boards.{board_of}
use Rattle.parts.specs.Inner.Parts.{PartSets}
use Rattle.parts.specs.Inner.Picks.{table_of, tables_of}
use Rattle.parts.proofs.Keeping.{kept_least, kept_pick, kept_tables, table_at}
use Rattle.visits.specs.Inner.Conflicts.{Settled, AllowedFrom}
use Rattle.visits.proofs.Opening.{tables_past}
use Rattle.halves.specs.Inner.Whole.{Agrees}

-- a whole agrees with itself
pub agrees_whole : (n : ℕ) (W : List ℕ) → Agrees n W W
agrees_whole n W p v lp fits t = t

-- one part of a split of a part
module _ (n : ℕ) (W S : List ℕ) (p j b : ℕ) (long : length S ≡ max_patterns) (lp : p < max_patterns) (lj : j < max_wires) (small : get_or S p 0 < 2 ^ max_values) (h : Agrees n W S) where
  abbrev w : ℕ
  w = with_bit (get_or S p 0) j b

  there : get_or (narrowed S p j b) p 0 ≡ w
  unfolding narrowed
  there = get_or-set_same S p w 0 (rw long lp)

  other : (q : ℕ) → (q ≡ p → ⊥) → get_or (narrowed S p j b) q 0 ≡ get_or S q 0
  unfolding narrowed
  other q ne = get_or-set_other S p q w 0 ne

  -- what is in the part is in the set before
  inside : (v : ℕ) → T (member w v) → T (member (get_or S p 0) v)
  inside v t = and_left (member (get_or S p 0) v) (eqb (bit v j) b) (subst T (with_test (get_or S p 0) j b v small) t)

  -- a value that fits has the bit of the part
  held : (v : ℕ) → T (occurs max_wires (member w) j (bit v j)) → bit v j ≡ b
  held v t =
      let u = occurs_at max_wires (member w) j (bit v j) t in
      sym u.3 ∙ eqb→eq (bit u.0 j) b (and_right (member (get_or S p 0) u.0) (eqb (bit u.0 j) b) (subst T (with_test (get_or S p 0) j b u.0 small) u.2))

  pub agrees_narrowed : Agrees n W (narrowed S p j b)
  agrees_narrowed q v lq fits t =
      ⊎_elim
      (λ e.
      let d = eqb→eq q p e in
      let fits' : (i : ℕ) → i < max_wires → T (occurs max_wires (member w) i (bit v i)) =
      λ i li. subst (λ x. T (occurs max_wires (member x) i (bit v i))) (ap (λ k. get_or (narrowed S p j b) k 0) d ∙ there) (fits i li) in
      let before : T (member (get_or S p 0) v) =
      subst (λ k. T (member (get_or S k 0) v)) d
      (h q v lq (λ i li. subst (λ k. T (occurs max_wires (member (get_or S k 0)) i (bit v i))) (sym d) (occurs_part max_wires (member w) (member (get_or S p 0)) i (bit v i) inside (fits' i li))) t) in
      rw (d, there, with_test (get_or S p 0) j b v small) (and_intro (member (get_or S p 0) v) (eqb (bit v j) b) before (eq_test (held v (fits' j lj)))))
      (λ e.
      let ne : q ≡ p → ⊥ = λ d. T_not (eqb q p) e (eq_test d) in
      rw (other q ne)
      (h q v lq (λ i li. subst (λ x. T (occurs max_wires (member x) i (bit v i))) (other q ne) (fits i li)) t))
      (decide (eqb q p))

-- the picks of a part
module _ (kind : BoardKind) {n m : ℕ} (sz : Sized (most_inputs kind) n m) {S : List ℕ} (ok : PartSets n m S) where
  abbrev tables : List ℕ
  tables = tables_of kind n S

  -- their bits occur
  pub pick_occurs : (i q : ℕ) → q < 2 ^ n → T (occurs max_wires (member (get_or S q 0)) i (bit (table_of kind n S i) q))
  unfolding fits suits
  pick_occurs i q l =
      let t = pick (board_of kind n m) (of_sets S) i in
      let there : T (occurs m (of_sets S q) i (bit t q)) = all_at (2 ^ n) (λ p. occurs m (of_sets S p) i (bit t p)) (kept_least kind sz ok i).1 q l in
      rw (kept_pick kind sz ok i, occurs_all_wires m (get_or S q 0) i (bit t q) sz.m_most (ok.small q)) (rw (member_sets S q) at there)

  -- where the whole allows their values, so does the part
  pub settled_below : (W : List ℕ) → Agrees n W S → {r : ℕ} → AllowedFrom n 0 W tables r → Settled m S tables r
  unfolding picks board_of
  settled_below W agrees {r} allowed q l =
      let lq : q < 2 ^ n = omega (arith, allowed.0) in
      let v = value max_wires (wires tables) q in
      let fits_there : (i : ℕ) → i < max_wires → T (occurs max_wires (member (get_or S q 0)) i (bit v i)) =
      λ i li. rw (value_bit max_wires (wires tables) q i li, table_at kind n S i li) (pick_occurs i q lq) in
      let here : T (member (get_or S q 0) v) = agrees q v lq fits_there (allowed.1 q (omega arith) l) in
      let same : v ≡ value m (wires tables) q =
      value_all_wires m tables q sz.m_most (λ j lj. ap (λ ts. wires ts j) (kept_tables kind sz ok) ∙ tables_past m (pick (board_of kind n m) (of_sets S)) j lj) in
      rw (member_sets S q) (subst (λ x. T (member (get_or S q 0) x)) same here)
