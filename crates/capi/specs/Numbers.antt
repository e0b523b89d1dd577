-- Each reply as numbers, for a caller that has no enums: the refusal's number is returned, and six numbers are left in the reply.
-- All are made from the cases of the answers, as the meanings below tell them.
use Rattle.std.specs.Prelude.{ℕ, cond, List, [], ◌∷◌}
use Rattle.nodes.specs.declared.BoardKind.{BoardKind}
use Rattle.base.specs.Cases.{Case, is_refused}
use Rattle.branch_bound.specs.Reply.{SearchReply, search_of}
use Rattle.quote.specs.Cases.{QuoteReply}

-- outcome, cells, floor, visits, length of what was written, place of the refusal
abbrev pub quote_numbers : QuoteReply → List ℕ
quote_numbers q = q.mark.outcome ∷ q.cells ∷ q.floor ∷ q.visits ∷ q.length ∷ q.mark.place ∷ []

-- a search writes no stage
abbrev pub search_numbers : SearchReply → List ℕ
search_numbers a = a.mark.outcome ∷ a.cells ∷ a.floor ∷ a.visits ∷ 0 ∷ a.mark.place ∷ []

-- the value of an audit is the stage's cells
abbrev pub audit_numbers : Case → List ℕ
audit_numbers c = c.outcome ∷ c.value ∷ 0 ∷ 0 ∷ 0 ∷ c.place ∷ []

-- the search of a relation that is handed over by its sizes and the sets of its patterns
abbrev pub search_handed : BoardKind → (n m : ℕ) → List ℕ → ℕ → SearchReply
search_handed kind n m sets budget = search_of kind (record { n = n; m = m; sets = sets }) budget

-- the tables lent, after a search: a refusal leaves them as they were
abbrev pub tables_after : SearchReply → List ℕ → List ℕ
tables_after a lent = cond (is_refused a.mark) lent a.tables

-- the value of a copy is its length
abbrev pub copy_numbers : Case → List ℕ
copy_numbers c = c.outcome ∷ 0 ∷ 0 ∷ 0 ∷ c.value ∷ c.place ∷ []
