-- The entry: a relation that passes its test is searched as it stands, and the answer is the reply of document 01.
use Prim.Native.Nat.{ℕ, ◌^◌, ◌≤◌}
use mathlib.Core.Path.{◌≡◌, refl, sym, ap, ap₂, ◌∙◌}
use mathlib.Core.Bool.{Bool, true, false}
use mathlib.Core.List.{List}
use native.Mathlib.Nat.{le_trans}
use lib.Dec.{le→leb}
use lib.ListN.{length}
use Rattle.sheet.specs.Limits.{max_inputs, max_patterns}
use Rattle.base.specs.declared.Refusal.{Refusal}
use Rattle.base.specs.Cases.{Case, accepting, accepted_case, refused_case}
use Rattle.relation.specs.declared.Relation.{Relation}
use Rattle.relation.specs.Source.{Rel}
use Rattle.relation.specs.Tests.{of_sets}
use Rattle.relation.specs.Inner.Narrowed.{cleared}
use Rattle.relation.specs.Handed.{relation_of, check_of}
use Rattle.relation.proofs.Fits.{Fit, check_well_formed}
use Rattle.relation.proofs.Narrowing.{cleared_takes, cleared_narrow}
use Rattle.branch_bound.specs.declared.State.{State}
use Rattle.branch_bound.specs.Reply.{best_outcome, stopped_outcome, SearchReply, mark_of, answer_of, refused_with, search_tested, search_of}
use Rattle.branch_bound.specs.Search.{Board, floor, start, search_part, run}
use Rattle.nodes.specs.declared.BoardKind.{BoardKind}
use Rattle.nodes.specs.Counts.{most_inputs}
use Rattle.nodes.proofs.Counts.{most_inputs_lem}
use Rattle.branch_bound.specs.Boards.{board_of}
use Rattle.sheet.specs.Inner.Sized.{Sized}
use Rattle.parts.specs.Inner.Cells.{cells_sum}
use Rattle.parts.specs.Inner.Parts.{PartSets, Carried}
use Rattle.parts.specs.Inner.Picks.{tables_of}
use Rattle.parts.specs.declared.states.Running.{Running}
use Rattle.visits.specs.Inner.Conflicts.{Settled, Seen, AllowedBelow}
use Rattle.visits.specs.Inner.States.{state_of, Ran}
use Rattle.halves.specs.Inner.Whole.{Whole}
use Rattle.halves.proofs.Agreeing.{agrees_whole, settled_below}
use Rattle.branches.proofs.Carrying.{carried_floor}
use Rattle.branches.proofs.Steps.{discards}

-- the state at the beginning is the start of the search
pub started : (b : Board) (R : Rel) {s : State} (t : State) → s ≡ record { tables = t.tables; cells = t.cells; visits = 0; stopped = false } → t.tables ≡ (start b R).tables
    → t.cells ≡ (start b R).cells → s ≡ start b R
unfolding start
started b R t e et ec = e ∙ rw (et, ec)

-- what the parts of the run make together
pub ran : (b : Board) (R : Rel) {budget : ℕ} {before after : Running} → Ran (search_part b before.budget R) before after → before.budget ≡ budget → state_of before ≡ start b R
    → state_of after ≡ run b budget R
unfolding run
ran b R r eb es = r.state ∙ ap₂ (λ x s. search_part b x R s) eb es

-- the whole relation as the first part
module _ {kind : BoardKind} {n m : ℕ} {S ws : List ℕ} {l : Running} {low c : ℕ} (h : Carried kind n m S ws l low c) where
  -- where its cells reach the best it is discarded, and the state stays
  pub not_visited : {f : ℕ} → f ≡ cells_sum c → l.cells ≤ f → Ran (search_part (board_of kind n m) l.budget (of_sets S)) l l
  unfolding state_of
  not_visited {f} ef le =
      record {
        state = discards kind h.sized h.sets l.budget (state_of l) (carried_floor h ef) (le→leb l.cells f le);
        budget = refl;
        whole = refl;
      }

  -- where it is visited, its picks are allowed below the first conflict with the whole, which it is itself
  module _ (wide : Bool) (seen : Seen wide n S l.whole) where
    pub whole_itself : Whole wide n S l.whole
    whole_itself = record { sets = S; seen = seen; agrees = agrees_whole n S }

    pub from_there : {from : ℕ} → AllowedBelow wide n low l from → from ≤ 2 ^ n
    from_there allowed = (allowed S (tables_of kind n S) seen h.tables).0

    pub from_settled : {from : ℕ} → AllowedBelow wide n low l from → Settled m S (tables_of kind n S) from
    from_settled allowed = settled_below kind h.sized h.sets S (agrees_whole n S) (allowed S (tables_of kind n S) seen h.tables)

pub stopped_answer : (b : Board) (R : Rel) (s t : State) (f : ℕ) → s ≡ t → s.stopped ≡ true → f ≡ floor b R
    → ◌≡◌ {A = SearchReply} (record { tables = s.tables; cells = s.cells; floor = f; visits = s.visits; mark = accepting stopped_outcome 0 })
    (answer_of b R t)
unfolding answer_of mark_of
stopped_answer b R s t f e h ef = rw (← e, h, ef)

pub best_answer : (b : Board) (R : Rel) (s t : State) → s ≡ t → s.stopped ≡ false
    → ◌≡◌ {A = SearchReply} (record { tables = s.tables; cells = s.cells; floor = s.cells; visits = s.visits; mark = accepting best_outcome 0 })
    (answer_of b R t)
unfolding answer_of mark_of
best_answer b R s t e h = rw (← e, h)

-- what the code's test tells of a relation
pub tested : (kind : BoardKind) (r : Relation) {most : ℕ} {c : Case} → most ≡ most_inputs kind → c ≡ check_of most r → check_of (most_inputs kind) r ≡ c
tested kind r em ev = ap (λ x. check_of x r) (sym em) ∙ sym ev

-- a relation that passes its test, and its sets as the code holds them
module _ (kind : BoardKind) (r : Relation) (long : length r.sets ≡ max_patterns) (passes : check_of (most_inputs kind) r ≡ accepted_case) where
  fit : Fit (most_inputs kind) r
  fit = check_well_formed (most_inputs kind) r passes

  pub sizes_held : Sized (most_inputs kind) r.n r.m
  sizes_held = fit.sizes

  pub few_held : r.n ≤ max_inputs
  few_held = le_trans sizes_held.n_most (most_inputs_lem kind)

  pub as_held : of_sets (cleared r.n r.sets) ≡ relation_of r
  unfolding relation_of
  as_held = cleared_takes r.n r.sets few_held long

  pub sets_held : PartSets r.n r.m (cleared r.n r.sets)
  sets_held =
      let w = cleared_narrow r.n r.m r.sets long few_held fit.small in
      record { long = w.long; small = w.small; past = w.past; defined = rw as_held fit.well_defined }

  pub answered : (budget : ℕ)
      → search_of kind r budget ≡ answer_of (board_of kind r.n r.m) (relation_of r) (run (board_of kind r.n r.m) budget (relation_of r))
  unfolding search_of search_tested
  answered budget = rw passes

pub turned_away_lem : (kind : BoardKind) (r : Relation) (budget : ℕ) (f : Refusal) → check_of (most_inputs kind) r ≡ refused_case f → search_of kind r budget ≡ refused_with (refused_case f)
unfolding search_of search_tested
turned_away_lem kind r budget f e = rw e
