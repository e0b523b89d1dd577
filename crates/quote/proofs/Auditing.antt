-- The cases of an audit, and the stage's value by its tables.
use Prim.Native.Nat.{ℕ, ◌^◌, ◌<◌, ◌≤◌}
use mathlib.Core.Path.{◌≡◌, refl, sym, ap, ap₂, ◌∙◌}
use mathlib.Core.Bool.{Bool, true, false, cond}
use mathlib.Core.List.{List, map}
use native.Mathlib.Omega.{arith}
use borrow.Author.Tests.{eq-eqb, ne_eqb}
use lib.Dec.{eqb, ltb}
use lib.ListN.{length, get_or, length-map, get_or-eq_default}
use lib.Seq.{get_or-take}
use Rattle.base.specs.declared.Refusal.{Refusal}
use Rattle.base.specs.Cases.{accepting, refusing, refused_outcome, second_refused_outcome}
use Rattle.sheet.specs.Limits.{max_inputs, max_wires}
use Rattle.base.proofs.Tabulate.{tabulate_at, tabulate_entry}
use Rattle.table.specs.Bits.{bit, all, tabulate}
use Rattle.nodes.specs.declared.BoardKind.{BoardKind}
use Rattle.table.proofs.Bits.{all_cong}
use Rattle.relation.specs.declared.Relation.{Relation}
use Rattle.relation.specs.Source.{value}
use Rattle.relation.specs.Tests.{of_sets}
use Rattle.table.specs.Cells.{wires}
use Rattle.relation.specs.Handed.{relation_of}
use Rattle.relation.proofs.AllWires.{value_all_wires}
use Rattle.stage_reader.specs.declared.StageRead.{StageRead}
use Rattle.stage_reader.specs.Cases.{stage_reply}
use Rattle.base.specs.Each.{Each}
use Rattle.stage.specs.Read.{read_sheet}
use Rattle.nodes.specs.Counts.{count_of}
use Rattle.diagram.specs.Forms.{form_of, drawing_of}
use Rattle.nodes.proofs.Counts.{most_inputs_lem}
use Rattle.diagram.proofs.Forms.{form_laws, form_most, form_fair}
use Rattle.table.proofs.Drawings.{value_tables}
use Rattle.relation.proofs.Decide.{value_cong}
use Rattle.table.specs.Drawing.{got, drawn_table, drawn_value}
use Rattle.stage.specs.Reply.{stage_tables, reply_to_stage}
use Rattle.stage_reader.proofs.Replies.{told_refused, Got, told_got}
use Rattle.stage.proofs.Sheets.{accepted}
use Rattle.std.specs.Prelude.{Ok, Err}
use Rattle.unit.specs.Cases.{formed_reply}
use Rattle.unit.specs.Formed.{formed_of}
use Rattle.quote.specs.Cases.{fits_outcome, differs_outcome}
use Rattle.quote.specs.Audit.{keeps_to, sizes_apart, audited_stage, audited_from, audited_of}

map_past : {A : Type 0} (f : A → ℕ) (xs : List A) (j : ℕ) → length xs ≤ j → get_or (map f xs) j 0 ≡ 0
map_past f xs j l = get_or-eq_default (map f xs) 0 (omega (arith, length-map xs f))

-- a stage has no more inputs than a sheet can have, whatever its board
few_lines : (kind : BoardKind) (n : ℕ) → n ≤ (form_of kind).most → n ≤ max_inputs
few_lines kind n h = omega (arith, h, form_most kind, most_inputs_lem kind)

module _ (kind : BoardKind) where
  -- the value that the tables drive is the value that the drawings do
  value_drawn : (n : ℕ) (stage : List (drawing_of kind).Shape) → n ≤ max_inputs → length stage ≤ max_wires → Each ((drawing_of kind).WellFormed n) stage
      → (p : ℕ) → p < 2 ^ n → value max_wires (wires (stage_tables (drawing_of kind) n stage)) p ≡ drawn_value (drawing_of kind) n stage p
  unfolding stage_tables value
  value_drawn n stage small few o p lp =
      let table = drawn_table (drawing_of kind) n in
      let f : ℕ → ℕ = λ j. get_or (map table stage) j 0 in
      value_all_wires (length stage) (tabulate max_wires f) p few
      (λ j l. tabulate_entry max_wires f j ∙ past (get_or (map table stage) j 0) (ltb j max_wires) (map_past table stage j l))
      ∙ value_cong (length stage) (wires (tabulate max_wires f)) (wires (map table stage)) p (λ j l. tabulate_at max_wires f j (omega arith))
      ∙ value_tables (drawing_of kind) n (count_of kind n) (form_fair kind n small) stage o p lp
    where
      past : (x : ℕ) (b : Bool) → x ≡ 0 → cond b x 0 ≡ 0
      past x true e = e
      past x false e = refl

  -- the code's test is document 01's
  keeps_is : (r : Relation) (bytes : List ℕ) (m : ℕ) (stage : List (drawing_of kind).Shape) → read_sheet (form_of kind) bytes ≡ got r.n m stage
      → all (2 ^ r.n) (λ p. of_sets r.sets p (value max_wires (wires (stage_tables (drawing_of kind) r.n stage)) p)) ≡ keeps_to (drawing_of kind) r stage
  unfolding keeps_to relation_of of_sets
  keeps_is r bytes m stage e =
      let st = accepted (form_of kind) (form_laws kind) bytes r.n m stage e in
      all_cong (2 ^ r.n) (λ p. of_sets r.sets p (value max_wires (wires (stage_tables (drawing_of kind) r.n stage)) p))
      (λ p. relation_of r p (drawn_value (drawing_of kind) r.n stage p))
      (λ p l.
      ap₂ (λ w v. eqb (bit w v) 1) (sym (get_or-take (2 ^ r.n) r.sets p 0 l))
      (value_drawn r.n stage (few_lines kind r.n st.sizes.n_most) (omega (arith, st.one_each, st.sizes.m_most)) st.formed p l))

module _ (kind : BoardKind) (r : Relation) (bytes : List ℕ) where
  pub stage_refused : (f : Refusal) → stage_reply (Err f) ≡ reply_to_stage (drawing_of kind) (read_sheet (form_of kind) bytes)
      → refusing second_refused_outcome f ≡ audited_stage (drawing_of kind) r (read_sheet (form_of kind) bytes)
  unfolding audited_stage
  stage_refused f e = rw (told_refused (drawing_of kind) (read_sheet (form_of kind) bytes) f e)

  module _ (rd : StageRead) (e : stage_reply (Ok rd) ≡ reply_to_stage (drawing_of kind) (read_sheet (form_of kind) bytes)) where
    g : Got (drawing_of kind) (read_sheet (form_of kind) bytes) rd
    g = told_got (drawing_of kind) (read_sheet (form_of kind) bytes) rd e

    pub inputs_differ : (rd.n ≡ r.n → ⊥) → sizes_apart ≡ audited_stage (drawing_of kind) r (read_sheet (form_of kind) bytes)
    unfolding audited_stage
    inputs_differ ne = rw (g.is, ne_eqb rd.n r.n ne)

    pub wires_differ : rd.n ≡ r.n → (rd.m ≡ r.m → ⊥) → sizes_apart ≡ audited_stage (drawing_of kind) r (read_sheet (form_of kind) bytes)
    unfolding audited_stage
    wires_differ en ne = rw (g.is, eq-eqb rd.n r.n en, ne_eqb rd.m r.m ne)

    -- the inputs of a stage sheet are in range
    pub few_inputs : rd.n ≤ max_inputs
    few_inputs = few_lines kind rd.n (accepted (form_of kind) (form_laws kind) bytes rd.n rd.m g.stage g.is).sizes.n_most

    pub tested : rd.n ≡ r.n → rd.m ≡ r.m → (b : Bool) → b ≡ all (2 ^ rd.n) (λ p. of_sets r.sets p (value max_wires (wires rd.tables) p))
        → cond b (accepting fits_outcome rd.cells) (accepting differs_outcome rd.cells) ≡ audited_stage (drawing_of kind) r (read_sheet (form_of kind) bytes)
    unfolding audited_stage
    tested en em b eb =
        let is : read_sheet (form_of kind) bytes ≡ got r.n rd.m g.stage = g.is ∙ ap (λ n. got n rd.m g.stage) en in
        let et : rd.tables ≡ stage_tables (drawing_of kind) r.n g.stage = g.tables ∙ ap (λ n. stage_tables (drawing_of kind) n g.stage) en in
        let k : b ≡ keeps_to (drawing_of kind) r g.stage =
        eb ∙ ap₂ (λ n ts. all (2 ^ n) (λ p. of_sets r.sets p (value max_wires (wires ts) p))) en et ∙ keeps_is kind r bytes rd.m g.stage is in
        ap (λ c. cond b (accepting fits_outcome c) (accepting differs_outcome c)) g.cells ∙ rw (is, eq-eqb r.n r.n refl, eq-eqb rd.m r.m em, ← k)

-- the whole audit, from what forming the relation gave
module _ (kind : BoardKind) (sheet stage : List ℕ) where
  pub formed_audit : (r : Relation) → formed_reply (Ok r) ≡ formed_of sheet → audited_stage (drawing_of kind) r (read_sheet (form_of kind) stage) ≡ audited_of kind sheet stage
  unfolding audited_of audited_from
  formed_audit r ef = rw (← ef)

  pub turned_audit : (x : Refusal) → formed_reply (Err x) ≡ formed_of sheet → refusing refused_outcome x ≡ audited_of kind sheet stage
  unfolding audited_of audited_from
  turned_audit x ef = rw (← ef)
