-- Document 01, "Search": what the reply of a search carries, from the state that the search ends in; or the refusal of the relation.
use Rattle.std.specs.Prelude.{ℕ, zero, Bool, true, false, cond, List}
use Rattle.sheet.specs.Limits.{max_wires}
use Rattle.base.specs.Cases.{Case, accepting, is_refused}
use Rattle.table.specs.Bits.{tabulate}
use Rattle.relation.specs.declared.Relation.{Relation}
use Rattle.relation.specs.Source.{Rel}
use Rattle.relation.specs.Handed.{relation_of, check_of}
use Rattle.branch_bound.specs.declared.State.{State}
use Rattle.nodes.specs.declared.BoardKind.{BoardKind}
use Rattle.nodes.specs.Counts.{most_inputs}
use Rattle.branch_bound.specs.Search.{Board, floor, run}
use Rattle.branch_bound.specs.Boards.{board_of}

-- the two outcomes of a search that refuses nothing
abbrev pub best_outcome : ℕ
best_outcome = 0

abbrev pub stopped_outcome : ℕ
stopped_outcome = 1

-- the mark is a case; the cells, the floor and the visits stand beside it
pub record SearchReply : Type 0 where
  pub tables : List ℕ
  pub cells : ℕ
  pub floor : ℕ
  pub visits : ℕ
  pub mark : Case

-- a search that left a part is stopped, any other is best
unfoldable pub mark_of : Bool → Case
mark_of true = accepting stopped_outcome 0
mark_of false = accepting best_outcome 0

-- the floor is the relation's own where the search was stopped; else it is the cells found
unfoldable pub answer_of : Board → Rel → State → SearchReply
answer_of b R s =
    record {
      tables = s.tables;
      cells = s.cells;
      floor = cond s.stopped (floor b R) s.cells;
      visits = s.visits;
      mark = mark_of s.stopped;
    }

-- every number of a refused search but its refusal's is 0
unfoldable pub refused_with : Case → SearchReply
refused_with c = record { tables = tabulate max_wires (λ _. zero); cells = zero; floor = zero; visits = zero; mark = c }

-- the reply once the relation's test has answered c
unfoldable pub search_tested : BoardKind → Relation → ℕ → Case → SearchReply
search_tested kind r budget c =
    let board = board_of kind r.n r.m in
    let found = answer_of board (relation_of r) (run board budget (relation_of r)) in
    cond (is_refused c) (refused_with c) found

-- the reply to any relation and budget, on either board: the relation's test, with at most the inputs of the board, comes first
unfoldable pub search_of : BoardKind → Relation → ℕ → SearchReply
search_of kind r budget = search_tested kind r budget (check_of (most_inputs kind) r)
