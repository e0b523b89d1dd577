-- The cases of a quote: each return of the code is the written reply, with the buffer as it is to be.
use Prim.Native.Nat.{ℕ, ◌<◌, ◌≤◌}
use mathlib.Core.Path.{◌≡◌, refl, ◌∙◌}
use mathlib.Core.Bool.{false}
use mathlib.Core.List.{List}
use lib.ListN.{length}
use Rattle.base.specs.declared.Refusal.{Refusal}
use Rattle.base.specs.Cases.{Case, refused_case, is_refused}
use Rattle.base.specs.Refusals.{refusal_at, too_wide}
use Rattle.nodes.specs.declared.BoardKind.{BoardKind}
use Rattle.nodes.specs.Counts.{most_inputs}
use Rattle.relation.specs.declared.Relation.{Relation}
use Rattle.search.specs.declared.Answer.{Answer}
use Rattle.search.specs.declared.Mark.{Mark}
use Rattle.search.specs.declared.Mark.TheVariants.{Best, Stopped}
use Rattle.search.specs.Cases.{mark_case, answer_told, search_reply}
use Rattle.relation.specs.Handed.{check_of}
use Rattle.branch_bound.specs.Reply.{refused_with, search_of}
use Rattle.search.proofs.Entry.{turned_away_lem}
use Rattle.std.specs.Prelude.{Ok, Err}
use Rattle.base.specs.Cases.{written_case}
use Rattle.diagram.specs.Forms.{form_of, drawing_of}
use Rattle.stage.specs.Written.{written_of, buffer_after}
use Rattle.unit.specs.Cases.{formed_reply}
use Rattle.unit.specs.Formed.{formed_of}
use Rattle.quote.specs.Cases.{QuoteReply, quote_reply}
use Rattle.quote.specs.Inner.Refused.{refused_quote}
use Rattle.quote.specs.Quote.{with_stage, searched, buffer_searched, quoted_of, buffer_quoted}
use Rattle.quote.specs.Promised.{Promised}
use Rattle.quote.proofs.Told.{is_wide, not_wide}
use Rattle.quote.proofs.Demand.{promised}

-- the writer's answer taken over
module _ (a : Answer) {x : Case} where
  pub with_length : (k : ℕ) → written_case (Ok k) ≡ x
      → ◌≡◌ {A = QuoteReply} (record { cells = a.cells; floor = a.floor; visits = a.visits; length = k; mark = mark_case a.mark })
      (with_stage (answer_told a) x)
  unfolding with_stage
  with_length k e = rw (← e)

  pub with_refusal : (f : Refusal) → written_case (Err f) ≡ x → quote_reply (Err f) ≡ with_stage (answer_told a) x
  unfolding with_stage
  with_refusal f e = rw (← e)

-- the relation is too wide for the board
pub no_search : (kind : BoardKind) (r : Relation) (budget : ℕ) (buffer : List ℕ) {q : QuoteReply} (f : Refusal) → most_inputs kind < r.n → f ≡ refusal_at too_wide 0 → q ≡ refused_quote f
    → (q ≡ searched kind r budget (length buffer)) × (buffer ≡ buffer_searched kind r budget buffer)
unfolding searched buffer_searched
no_search kind r budget buffer f many ef eq = (eq ∙ rw (ef, is_wide kind r many), rw (is_wide kind r many))

-- the test refuses the relation, and nothing is searched
pub searched_refused : (kind : BoardKind) (r : Relation) (budget : ℕ) (buffer : List ℕ) (f : Refusal) → r.n ≤ most_inputs kind → check_of (most_inputs kind) r ≡ refused_case f
    → (searched kind r budget (length buffer) ≡ refused_quote f) × (buffer_searched kind r budget buffer ≡ buffer)
unfolding searched buffer_searched refused_with
searched_refused kind r budget buffer f few e = (rw (not_wide kind r few, turned_away_lem kind r budget f e), rw (not_wide kind r few, turned_away_lem kind r budget f e))

-- no mark is a refusal
has_stage : (k : Mark) → is_refused (mark_case k) ≡ false
has_stage Best = refl
has_stage Stopped = refl

-- it is not, and is searched
module _ (kind : BoardKind) (r : Relation) (budget : ℕ) (buffer : List ℕ) (few : r.n ≤ most_inputs kind) where
  -- the search has a stage
  pub with_stage_lem : (a : Answer) → search_reply (Ok a) ≡ search_of kind r budget → {q : QuoteReply} {b : List ℕ}
      → q ≡ with_stage (answer_told a) (written_of (form_of kind) r.n r.m a.tables (length buffer))
      → b ≡ buffer_after (form_of kind) r.n r.m a.tables buffer → (q ≡ searched kind r budget (length buffer)) × (b ≡ buffer_searched kind r budget buffer)
  unfolding searched buffer_searched
  with_stage_lem a ea eq eb = (eq ∙ rw (not_wide kind r few, ← ea, has_stage a.mark), eb ∙ rw (not_wide kind r few, ← ea, has_stage a.mark))

  -- the search refuses the relation
  pub no_stage_lem : (f : Refusal) → search_reply (Err f) ≡ search_of kind r budget → {q : QuoteReply} → q ≡ refused_quote f
      → (q ≡ searched kind r budget (length buffer)) × (buffer ≡ buffer_searched kind r budget buffer)
  unfolding searched buffer_searched refused_with
  no_stage_lem f ea eq = (eq ∙ rw (not_wide kind r few, ← ea), rw (not_wide kind r few, ← ea))

-- the whole quote, from what forming the relation gave
module _ (kind : BoardKind) (sheet : List ℕ) (budget : ℕ) (buffer : List ℕ) where
  -- the three clauses of the quote's contract
  abbrev pub ClausesKept : QuoteReply → List ℕ → Type 0
  ClausesKept q b = (q ≡ quoted_of kind sheet budget (length buffer)) × ((b ≡ buffer_quoted kind sheet budget buffer) × Promised (drawing_of kind) (most_inputs kind) sheet budget q b)

  clauses : {q : QuoteReply} {b : List ℕ} → q ≡ quoted_of kind sheet budget (length buffer) → b ≡ buffer_quoted kind sheet budget buffer → ClausesKept q b
  clauses eq eb = (eq, (eb, rw (eq, eb) (promised kind sheet budget buffer)))

  pub formed_quote : (r : Relation) → formed_reply (Ok r) ≡ formed_of sheet → {q : QuoteReply} {b : List ℕ} → q ≡ searched kind r budget (length buffer)
      → b ≡ buffer_searched kind r budget buffer → ClausesKept q b
  unfolding quoted_of buffer_quoted
  formed_quote r ef eq eb = clauses (eq ∙ rw (← ef)) (eb ∙ rw (← ef))

  pub turned_quote : (g : Refusal) → formed_reply (Err g) ≡ formed_of sheet → {q : QuoteReply} → q ≡ refused_quote g → ClausesKept q buffer
  unfolding quoted_of buffer_quoted
  turned_quote g ef eq = clauses (eq ∙ rw (← ef)) (rw (← ef))
