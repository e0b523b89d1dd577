-- The promise of demand 3 for a relation that tells which stages are wanted, whatever they are wanted for, from what the search of the relation promises.
use Prim.Native.Nat.{ℕ, ◌≤◌}
use mathlib.Core.Path.{◌≡◌, refl, sym, ap, ap₂, subst, ◌∙◌}
use mathlib.Core.Logic.{⊎_elim, ◌↔◌}
use mathlib.Core.Bool.{Bool, true, false, cond, not}
use mathlib.Core.List.{List, ◌++◌}
use native.Mathlib.Omega.{arith}
use lib.Dec.{T, ltb}
use lib.ListN.{length, take, drop}
use lib.Seq.{take_at}
use Rattle.base.specs.declared.Refusal.{Refusal}
use Rattle.base.specs.Cases.{Case, accepting, refusing, accepted_outcome, refused_outcome, accepted_case, refused_case, is_refused}
use Rattle.base.specs.Refusals.{refusal_at, empty, short_buffer, too_wide}
use Rattle.nodes.specs.declared.BoardKind.{BoardKind}
use Rattle.nodes.specs.Counts.{most_inputs}
use Rattle.relation.specs.declared.Relation.{Relation}
use Rattle.relation.specs.Families.{Family}
use Rattle.relation.specs.Handed.{relation_of, check_of}
use Rattle.relation.proofs.Fits.{check_well_formed}
use Rattle.branch_bound.specs.Reply.{SearchReply, mark_of, answer_of}
use Rattle.branch_bound.specs.Search.{floor}
use Rattle.branch_bound.specs.Boards.{board_of}
use Rattle.search.proofs.Entry.{answered}
use Rattle.sheet.specs.Limits.{max_patterns}
use Rattle.table.specs.Drawing.{Drawing, got, drawn_cells}
use Rattle.stage.specs.Read.{read_sheet}
use Rattle.diagram.specs.Forms.{form_of, drawing_of}
use Rattle.base.specs.Buffers.{buffer_with}
use Rattle.stage.specs.Written.{stage_of, buffer_after}
use Rattle.quote.specs.Cases.{no_quote}
use Rattle.quote.specs.Quote.{with_stage, searched, buffer_searched}
use Rattle.quote.specs.Cases.{QuoteReply}
use Rattle.quote.specs.AnyQuote.{WantedStage, PromisedOf}
use Rattle.quote.proofs.Told.{not_wide}
use Rattle.quote.proofs.Own.{found, drawn, own_family, own_cells, above, best, within, spent, written, read_back}

-- a refused quote, by whichever of the outcomes that refuse
pub any_refused_promise : (D : Drawing) (n m : ℕ) (Wanted : List D.Shape → Type 0) (None : Type 0) (budget : ℕ) (buffer : List ℕ) (o : ℕ) (f : Refusal) → refused_outcome ≤ o
    → (f.number ≡ empty) ↔ None → PromisedOf D n m Wanted None budget (no_quote (refusing o f)) buffer
any_refused_promise D n m Wanted None budget buffer o f h ten =
    record {
      best = λ e. absurd (omega arith);
      stopped = λ e. absurd (omega arith);
      own = λ a. ⊎_elim (λ e. absurd (omega arith)) (λ e. absurd (omega arith)) a;
      within = omega arith;
      spent = λ e. absurd (omega arith);
      refused = ten;
    }

-- a relation that tells what is wanted: the stages wanted are just those compatible with it, in its sizes, and it passes its test
pub record Tells (kind : BoardKind) (n m : ℕ) (Wanted : List (drawing_of kind).Shape → Type 0) (r : Relation) : Type 0 where
  pub inputs : r.n ≡ n
  pub wires : r.m ≡ m
  pub long : length r.sets ≡ max_patterns
  pub passes : check_of (most_inputs kind) r ≡ accepted_case
  pub families : (x : List (drawing_of kind).Shape) → Wanted x ↔ Family (drawing_of kind) r.n r.m (relation_of r) x

-- another number than those that tell of the sheet
abbrev pub Other : ℕ → Type 0
Other k = (k ≡ empty → ⊥) × (k ≡ too_wide → ⊥)

-- its search, whatever is wanted
module _ (kind : BoardKind) (n m : ℕ) (Wanted : List (drawing_of kind).Shape → Type 0) (None : Type 0) (r : Relation) (tells : Tells kind n m Wanted r)
    (not_None : None → (x : List (drawing_of kind).Shape) → Wanted x → ⊥) (budget : ℕ) where
  abbrev passes : check_of (most_inputs kind) r ≡ accepted_case
  passes = tells.passes

  to : (x : List (drawing_of kind).Shape) → Wanted x → Family (drawing_of kind) r.n r.m (relation_of r) x
  to x w = (tells.families x).0 w

  own_wanted : Wanted (drawn kind r passes budget)
  own_wanted = (tells.families (drawn kind r passes budget)).1 (own_family kind r passes budget)

  -- the search has a stage, so that 10 does not come
  not_ten : (k : ℕ) → (k ≡ empty → ⊥) → (k ≡ empty) ↔ None
  not_ten k ne = (λ e. absurd (ne e), λ h. absurd (not_None h (drawn kind r passes budget) own_wanted))

  -- what the stage reader takes
  own_stage_lem : (bytes : List ℕ) → read_sheet (form_of kind) bytes ≡ got r.n r.m (drawn kind r passes budget)
      → WantedStage (drawing_of kind) n m Wanted bytes (found kind r passes budget).cells
  own_stage_lem bytes e =
      record {
        stage = drawn kind r passes budget;
        wanted = own_wanted;
        taken = e ∙ ap₂ (λ i j. got i j (drawn kind r passes budget)) tells.inputs tells.wires;
        counted = own_cells kind r passes budget;
      }

  abbrev stage : List ℕ
  stage = stage_of (form_of kind) r.n r.m (found kind r passes budget).tables

  abbrev answer : Bool → SearchReply
  answer b =
      record {
        tables = (found kind r passes budget).tables;
        cells = (found kind r passes budget).cells;
        floor = cond b (floor (board_of kind r.n r.m) (relation_of r)) (found kind r passes budget).cells;
        visits = (found kind r passes budget).visits;
        mark = mark_of b;
      }

  own_written : (buffer : List ℕ) → WantedStage (drawing_of kind) n m Wanted (take (length stage) (stage ++ drop (length stage) buffer)) (found kind r passes budget).cells
  own_written buffer =
      own_stage_lem (take (length stage) (stage ++ drop (length stage) buffer))
      (ap (read_sheet (form_of kind)) (take_at stage (drop (length stage) buffer) (length stage) refl) ∙ read_back kind r passes budget)

  abbrev Kept : QuoteReply → List ℕ → Type 0
  Kept = PromisedOf (drawing_of kind) n m Wanted None budget

  -- the stage is written: what the mark promises, and what every mark does
  with_mark : (b : Bool) (buffer : List ℕ)
      → (T (not b) → (x : List (drawing_of kind).Shape) → Wanted x → (found kind r passes budget).cells ≤ drawn_cells (drawing_of kind) x)
      → (T b → (found kind r passes budget).visits ≡ budget)
      → Kept (with_stage (answer b) (accepting accepted_outcome (length stage))) (stage ++ drop (length stage) buffer)
  unfolding with_stage mark_of
  with_mark true buffer least used =
      record {
        best = λ h. absurd (omega arith);
        stopped = λ _ x w. above kind r passes budget x (to x w);
        own = λ _. own_written buffer;
        within = within kind r passes budget;
        spent = λ _. used tt;
        refused = not_ten 0 (λ e. omega arith);
      }
  with_mark false buffer least used =
      record {
        best = λ _. least tt;
        stopped = λ h. absurd (omega arith);
        own = λ _. own_written buffer;
        within = within kind r passes budget;
        spent = λ h. absurd (omega arith);
        refused = not_ten 0 (λ e. omega arith);
      }

  written_promise : (b : Bool) → (found kind r passes budget).stopped ≡ b → (buffer : List ℕ)
      → Kept (with_stage (answer b) (accepting accepted_outcome (length stage))) (stage ++ drop (length stage) buffer)
  written_promise b e buffer =
      with_mark b buffer (λ h x w. best kind r passes budget (subst (λ c. T (not c)) (sym e) h) x (to x w)) (λ h. spent kind r passes budget (subst T (sym e) h))

  -- the writer's answer, by its test of the room
  abbrev writes : Bool → Case
  writes t = cond t (refused_case (refusal_at short_buffer (length stage))) (accepting accepted_outcome (length stage))

  either : (b t : Bool) → (found kind r passes budget).stopped ≡ b → (buffer : List ℕ)
      → Kept (with_stage (answer b) (writes t)) (buffer_with stage buffer (writes t))
  unfolding with_stage
  either b true e buffer =
      any_refused_promise (drawing_of kind) n m Wanted None budget buffer refused_outcome (refusal_at short_buffer (length stage)) (omega arith)
      (not_ten short_buffer (λ h. omega arith))
  either b false e buffer = written_promise b e buffer

  -- the whole search and its stage
  abbrev replied : (b t : Bool) → QuoteReply
  replied b t = cond (is_refused (mark_of b)) (no_quote (mark_of b)) (with_stage (answer b) (writes t))

  marked : (b t : Bool) → (found kind r passes budget).stopped ≡ b → (buffer : List ℕ) → Kept (replied b t) (cond (is_refused (mark_of b)) buffer (buffer_with stage buffer (writes t)))
  unfolding mark_of
  marked true t e buffer = either true t e buffer
  marked false t e buffer = either false t e buffer

  numbered : (b t : Bool) → Other (replied b t).mark.number
  unfolding mark_of with_stage
  numbered true true = (λ h. omega arith, λ h. omega arith)
  numbered true false = (λ h. omega arith, λ h. omega arith)
  numbered false true = (λ h. omega arith, λ h. omega arith)
  numbered false false = (λ h. omega arith, λ h. omega arith)

  pub any_searched_promise : (buffer : List ℕ) → Kept (searched kind r budget (length buffer)) (buffer_searched kind r budget buffer)
  unfolding searched buffer_searched buffer_after answer_of
  any_searched_promise buffer =
      rw (not_wide kind r (check_well_formed (most_inputs kind) r passes).sizes.n_most, answered kind r tells.long passes budget, written kind r passes budget (length buffer))
      (marked (found kind r passes budget).stopped (ltb (length buffer) (length stage)) refl buffer)

  -- and its number is neither 10 nor 15
  pub searched_number : (room : ℕ) → Other (searched kind r budget room).mark.number
  unfolding searched answer_of
  searched_number room =
      rw (not_wide kind r (check_well_formed (most_inputs kind) r passes).sizes.n_most, answered kind r tells.long passes budget, written kind r passes budget room)
      (numbered (found kind r passes budget).stopped (ltb room (length stage)))
