-- Laws of gathering the wires of a stage sheet, whatever drives them: what is left to read, on what is gathered so far, gives the whole reply.
use Prim.Native.Nat.{ℕ, suc, ◌+◌, ◌-◌, ◌<◌, ◌≤◌}
use mathlib.Core.Path.{◌≡◌, refl, sym, ◌∙◌}
use mathlib.Core.List.{List, [], ◌∷◌}
use native.Mathlib.Omega.{arith}
use native.Mathlib.Nat.{add_assoc, zero-add}
use native.Mathlib.Numerals.{add-one}
use lib.ListN.{length, set, drop, replicate}
use Rattle.std.specs.Prelude.{Result, Ok, Err}
use Rattle.base.specs.Cases.{accepted_case}
use Rattle.base.specs.declared.Refusal.{Refusal}
use Rattle.sheet.specs.Limits.{max_wires}
use Rattle.table.specs.Bits.{tabulate}
use Rattle.table.specs.Drawing.{StageSheet, got, no_stage, drawn_table, drawn_cells}
use Rattle.stage.specs.Form.{StageForm}
use Rattle.stage.specs.Inner.Laws.{FormLaws}
use Rattle.stage.specs.Read.{wires_at, end_at, closed, drawing}
use Rattle.stage.specs.Reply.{StageReply, stage_tables, refused_reply, reply_to_stage}
use Rattle.stage.specs.Steps.{Read, taken, fault, and_then}
use Rattle.stage.proofs.Sheets.{ToldWires, wires_told}
use Rattle.stage_reader.specs.Inner.Wires.{taken_wire, refused_wire, step_of}
use Rattle.stage_reader.proofs.Ends.{end_map, by_result, end_told}
use Rattle.stage_reader.proofs.Taken.{Took, took, fell}

module _ (F : StageForm) where
  -- wire j of a slice, and what is left to read from it on
  abbrev pub wire_there : List ℕ → ℕ → ℕ → ℕ → ℕ → Read F.Shape
  wire_there s n m j at = F.wire_at n m j at (drop at s)

  abbrev pub wires_left : List ℕ → ℕ → ℕ → ℕ → ℕ → Read (List F.Shape)
  wires_left s n m j at = wires_at F (m - j) n m j at (drop at s)

  -- the tables of the wires from j on, put into their places
  unfoldable pub filled : ℕ → List ℕ → ℕ → List F.Shape → List ℕ
  filled n tables j [] = tables
  filled n tables j (x ∷ xs) = filled n (set tables j (drawn_table (drawing F) n x)) (suc j) xs

  -- the reply of a sheet whose wires below j are gathered already
  unfoldable pub reply_with : List ℕ → ℕ → ℕ → StageSheet F.Shape → StageReply
  reply_with tables cells j (got n m stage) =
      record { n = n; m = m; tables = filled n tables j stage; cells = cells + drawn_cells (drawing F) stage; answer = accepted_case }
  reply_with tables cells j (no_stage f) = refused_reply f

  -- one wire more is gathered
  end_more : (tables : List ℕ) (cells n m j : ℕ) (x : F.Shape) (xs : List F.Shape) (at : ℕ) (rest : List ℕ)
      → reply_with tables cells j (end_at F.known no_stage (got n m (x ∷ xs)) at rest)
      ≡ reply_with (set tables j (drawn_table (drawing F) n x)) (cells + F.cells x) (suc j) (end_at F.known no_stage (got n m xs) at rest)
  unfolding reply_with filled drawn_cells
  end_more tables cells n m j x xs at rest =
      let more = reply_with (set tables j (drawn_table (drawing F) n x)) (cells + F.cells x) (suc j) in
      end_map (reply_with tables cells j) F.known no_stage (got n m (x ∷ xs)) at rest
      ∙ rw (← add_assoc cells (F.cells x) (drawn_cells (drawing F) xs)) (sym (end_map more F.known no_stage (got n m xs) at rest))

  closed_more : (tables : List ℕ) (cells n m j : ℕ) (x : F.Shape) (y : Read (List F.Shape))
      → reply_with tables cells j (closed F n m (and_then y (λ xs at rest. taken (x ∷ xs) at rest)))
      ≡ reply_with (set tables j (drawn_table (drawing F) n x)) (cells + F.cells x) (suc j) (closed F n m y)
  unfolding reply_with closed and_then
  closed_more tables cells n m j x (fault f) = refl
  closed_more tables cells n m j x (taken xs at rest) = end_more tables cells n m j x xs at rest

  -- all wires are gathered: from nothing, the reply itself
  filled_all : (n : ℕ) (stage : List F.Shape) → length stage ≤ max_wires → filled n (replicate max_wires 0) 0 stage ≡ stage_tables (drawing F) n stage
  unfolding filled stage_tables tabulate
  filled_all n [] h = refl
  filled_all n (a ∷ []) h = refl
  filled_all n (a ∷ b ∷ []) h = refl
  filled_all n (a ∷ b ∷ c ∷ []) h = refl
  filled_all n (a ∷ b ∷ c ∷ d ∷ []) h = refl
  filled_all n (a ∷ b ∷ c ∷ d ∷ e ∷ xs) h = absurd (omega arith)

  end_all : (n m : ℕ) (stage : List F.Shape) (at : ℕ) (rest : List ℕ) → length stage ≤ max_wires
      → reply_with (replicate max_wires 0) 0 0 (end_at F.known no_stage (got n m stage) at rest)
      ≡ reply_to_stage (drawing F) (end_at F.known no_stage (got n m stage) at rest)
  unfolding reply_with reply_to_stage
  end_all n m stage at rest h =
      end_map (reply_with (replicate max_wires 0) 0 0) F.known no_stage (got n m stage) at rest
      ∙ rw (filled_all n stage h, zero-add (drawn_cells (drawing F) stage)) (sym (end_map (reply_to_stage (drawing F)) F.known no_stage (got n m stage) at rest))

  closed_all : (n m : ℕ) → m ≤ max_wires → (bytes : List ℕ) (y : Read (List F.Shape)) → ToldWires F m n 0 3 bytes y
      → reply_with (replicate max_wires 0) 0 0 (closed F n m y) ≡ reply_to_stage (drawing F) (closed F n m y)
  unfolding reply_with reply_to_stage closed
  closed_all n m h bytes (fault f) t = refl
  closed_all n m h bytes (taken stage at rest) t = end_all n m stage at rest (rw t.2.0 h)

module _ (F : StageForm) (L : FormLaws F) where
  -- what drives a wire that was read
  pub wire_took : (s : List ℕ) (n m j at t c next : ℕ) → taken_wire t c next ≡ step_of (drawing F) n (wire_there F s n m j at)
      → Took (drawing F) (F.WellFormed n) (wire_there F s n m j at) s n t c next
  wire_took s n m j at t c next e =
      took (drawing F) (F.WellFormed n) (F.wire_bytes j) s n at t c next (wire_there F s n m j at) (L.told n m j at (drop at s)) e

  pub from_nothing : (s : List ℕ) (n m : ℕ) → m ≤ max_wires
      → reply_with F (replicate max_wires 0) 0 0 (closed F n m (wires_at F m n m 0 3 (drop 3 s)))
      ≡ reply_to_stage (drawing F) (closed F n m (wires_at F m n m 0 3 (drop 3 s)))
  from_nothing s n m h = closed_all F n m h (drop 3 s) (wires_at F m n m 0 3 (drop 3 s)) (wires_told F L m n m 0 3 (drop 3 s))

  module _ (s : List ℕ) (n m j at : ℕ) (tables : List ℕ) (cells : ℕ) (g : StageReply)
      (so_far : reply_with F tables cells j (closed F n m (wires_left F s n m j at)) ≡ g) where
    step : j < m → m - j ≡ suc (m - (j + 1))
    step h = omega arith

    goes_on_took : (t c next : ℕ) → j < m → (w : Took (drawing F) (F.WellFormed n) (wire_there F s n m j at) s n t c next)
        → reply_with F (set tables j t) (cells + c) (j + 1) (closed F n m (wires_left F s n m (j + 1) next)) ≡ g
    unfolding wires_at and_then
    goes_on_took t c next l w =
        let x = w.shape in
        let e : reply_with F tables cells j (closed F n m (and_then (wires_left F s n m (j + 1) next) (λ xs at rest. taken (x ∷ xs) at rest))) ≡ g =
        rw (add-one j) (rw (step l, w.is, add-one j) at so_far) in
        rw (w.table, w.cells, add-one j) (sym (closed_more F tables cells n m j x (wires_left F s n m (suc j) next)) ∙ rw (add-one j) at e)

    pub goes_on : (t c next : ℕ) → j < m → taken_wire t c next ≡ step_of (drawing F) n (wire_there F s n m j at)
        → reply_with F (set tables j t) (cells + c) (j + 1) (closed F n m (wires_left F s n m (j + 1) next)) ≡ g
    goes_on t c next l read = goes_on_took t c next l (wire_took s n m j at t c next read)

    pub stops : (f : Refusal) → j < m → refused_wire f ≡ step_of (drawing F) n (wire_there F s n m j at) → refused_reply f ≡ g
    unfolding wires_at and_then closed reply_with
    stops f l e = rw (step l, fell (drawing F) n f (wire_there F s n m j at) e) at so_far

    pub ends : (r : Result Unit Refusal) → m ≤ j → r ≡ end_at F.known Err (Ok (tt {0})) at (drop at s)
        → by_result refused_reply (reply_with F tables cells j (got n m [])) r ≡ g
    unfolding wires_at closed reply_with
    ends r l e =
        let z : m - j ≡ 0 = omega arith in
        let reply = reply_with F tables cells j in
        end_told F.known refused_reply (reply (got n m [])) at (drop at s) r e
        ∙ sym (end_map reply F.known no_stage (got n m []) at (drop at s))
        ∙ rw z at so_far
