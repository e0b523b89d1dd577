-- Document 01, "Quote, audit, program": a sheet's relation is searched and the stage found is written, for either board. The refusals are the sheet's own,
-- then 10, then 15 (document 02, E5), then 12.
use Rattle.std.specs.Prelude.{ℕ, Bool, cond, List, ltb}
use Rattle.base.specs.Cases.{Case, refused_case, is_refused}
use Rattle.base.specs.Refusals.{refusal_at, too_wide}
use Rattle.nodes.specs.declared.BoardKind.{BoardKind}
use Rattle.nodes.specs.Counts.{most_inputs}
use Rattle.relation.specs.declared.Relation.{Relation}
use Rattle.branch_bound.specs.Reply.{SearchReply, search_of}
use Rattle.diagram.specs.Forms.{form_of}
use Rattle.stage.specs.Written.{written_of, buffer_after}
use Rattle.unit.specs.Formed.{formed_of}
use Rattle.quote.specs.Cases.{QuoteReply, no_quote}

-- the reply of the search with the length of the stage written, unless the writer refuses
unfoldable pub with_stage : SearchReply → Case → QuoteReply
with_stage a w =
    let q : QuoteReply = record { cells = a.cells; floor = a.floor; visits = a.visits; length = w.value; mark = a.mark } in
    cond (is_refused w) (no_quote w) q

-- a relation has more inputs than the board has lines: 15, at place 0
abbrev pub is_too_wide : BoardKind → Relation → Bool
is_too_wide kind r = ltb (most_inputs kind) r.n

abbrev pub wide_quote : QuoteReply
wide_quote = no_quote (refused_case (refusal_at too_wide 0))

-- the search of the relation formed, unless it is too wide for the board, and the stage of its tables in a buffer of so many bytes
unfoldable pub searched : BoardKind → Relation → ℕ → ℕ → QuoteReply
searched kind r budget room =
    let a = search_of kind r budget in
    let q = with_stage a (written_of (form_of kind) r.n r.m a.tables room) in
    cond (is_too_wide kind r) wide_quote (cond (is_refused a.mark) (no_quote a.mark) q)

-- the reply to the bytes of a sheet, a budget, and a buffer of so many bytes
unfoldable pub quoted_of : BoardKind → List ℕ → ℕ → ℕ → QuoteReply
quoted_of kind sheet budget room =
    let f = formed_of sheet in
    let q = searched kind f.relation budget room in
    cond (is_refused f.answer) (no_quote f.answer) q

-- the buffer after the search of a relation: a refusal leaves it as it was
unfoldable pub buffer_searched : BoardKind → Relation → ℕ → List ℕ → List ℕ
buffer_searched kind r budget buffer =
    let a = search_of kind r budget in
    let after = buffer_after (form_of kind) r.n r.m a.tables buffer in
    cond (is_too_wide kind r) buffer (cond (is_refused a.mark) buffer after)

-- what the lent buffer holds after the quote
unfoldable pub buffer_quoted : BoardKind → List ℕ → ℕ → List ℕ → List ℕ
buffer_quoted kind sheet budget buffer =
    let f = formed_of sheet in
    let after = buffer_searched kind f.relation budget buffer in
    cond (is_refused f.answer) buffer after
