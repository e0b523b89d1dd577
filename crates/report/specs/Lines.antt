-- Document 01, "Quote, audit, program": the lines that the program prints, for a reply of the quote and of the audit. Document 02, E1: for a clean copy; E6: for a joint quote.
use Rattle.std.specs.Prelude.{ℕ, ◌+◌, ◌*◌, ◌≤◌, min, ◌≡◌, cond, List, [], ◌∷◌, ◌++◌, eqb, length, take}
use Rattle.std.proofs.lemmas.List.Edits.{sets}
use Rattle.base.specs.Cases.{Case, refused_outcome, is_refused}
use Rattle.branch_bound.specs.Reply.{best_outcome}
use Rattle.diagram.specs.Bytes.{longest_written}
use Rattle.quote.specs.Cases.{QuoteReply, fits_outcome}
use Rattle.clean.specs.Copy.{longest_copy}
use Rattle.text.specs.Text.{hex_pairs, longest_decimal, named}

-- the end of a line
abbrev pub newline : ℕ
newline = 0x0A

-- "cells "
abbrev pub cells_text : List ℕ
cells_text = 0x63 ∷ 0x65 ∷ 0x6C ∷ 0x6C ∷ 0x73 ∷ 0x20 ∷ []

-- " floor "
abbrev pub floor_text : List ℕ
floor_text = 0x20 ∷ 0x66 ∷ 0x6C ∷ 0x6F ∷ 0x6F ∷ 0x72 ∷ 0x20 ∷ []

-- " visits "
abbrev pub visits_text : List ℕ
visits_text = 0x20 ∷ 0x76 ∷ 0x69 ∷ 0x73 ∷ 0x69 ∷ 0x74 ∷ 0x73 ∷ 0x20 ∷ []

-- " best" and the end of the line
abbrev pub best_text : List ℕ
best_text = 0x20 ∷ 0x62 ∷ 0x65 ∷ 0x73 ∷ 0x74 ∷ newline ∷ []

-- " stopped" and the end of the line
abbrev pub stopped_text : List ℕ
stopped_text = 0x20 ∷ 0x73 ∷ 0x74 ∷ 0x6F ∷ 0x70 ∷ 0x70 ∷ 0x65 ∷ 0x64 ∷ newline ∷ []

-- "refused "
abbrev pub refused_text : List ℕ
refused_text = 0x72 ∷ 0x65 ∷ 0x66 ∷ 0x75 ∷ 0x73 ∷ 0x65 ∷ 0x64 ∷ 0x20 ∷ []

-- " at "
abbrev pub at_text : List ℕ
at_text = 0x20 ∷ 0x61 ∷ 0x74 ∷ 0x20 ∷ []

-- "fits ", "differs "
abbrev pub fits_text : List ℕ
fits_text = 0x66 ∷ 0x69 ∷ 0x74 ∷ 0x73 ∷ 0x20 ∷ []

abbrev pub differs_text : List ℕ
differs_text = 0x64 ∷ 0x69 ∷ 0x66 ∷ 0x66 ∷ 0x65 ∷ 0x72 ∷ 0x73 ∷ 0x20 ∷ []

-- "sheet ", "stage "
abbrev pub sheet_text : List ℕ
sheet_text = 0x73 ∷ 0x68 ∷ 0x65 ∷ 0x65 ∷ 0x74 ∷ 0x20 ∷ []

abbrev pub stage_text : List ℕ
stage_text = 0x73 ∷ 0x74 ∷ 0x61 ∷ 0x67 ∷ 0x65 ∷ 0x20 ∷ []

-- "first ", "second "
abbrev pub first_text : List ℕ
first_text = 0x66 ∷ 0x69 ∷ 0x72 ∷ 0x73 ∷ 0x74 ∷ 0x20 ∷ []

abbrev pub second_text : List ℕ
second_text = 0x73 ∷ 0x65 ∷ 0x63 ∷ 0x6F ∷ 0x6E ∷ 0x64 ∷ 0x20 ∷ []

-- "cells C floor F visits V"
unfoldable pub counts_of : (cells floor visits : ℕ) → List ℕ
counts_of c f v = named cells_text c ++ named floor_text f ++ named visits_text v

-- the bytes of the buffer that a reply's length says, and never more than the longest of their kind has: a stage, a copy
unfoldable pub shown_pairs : (most k : ℕ) → List ℕ → List ℕ
shown_pairs most k bytes = hex_pairs (take (min most k) bytes)

-- their line
unfoldable pub shown_line : (most k : ℕ) → List ℕ → List ℕ
shown_line most k bytes = shown_pairs most k bytes ++ newline ∷ []

-- both lines of a quote with a stage, with the word of its mark
unfoldable pub result_lines : List ℕ → QuoteReply → List ℕ → List ℕ
result_lines word q stage = counts_of q.cells q.floor q.visits ++ word ++ shown_line longest_written q.length stage

-- "refused N at P"
unfoldable pub refusal_text : (number place : ℕ) → List ℕ
refusal_text number place = named refused_text number ++ named at_text place

-- its line, after the word for what is refused, if there is one
unfoldable pub refusal_line : List ℕ → (number place : ℕ) → List ℕ
refusal_line whose number place = whose ++ refusal_text number place ++ newline ∷ []

-- what the program prints for a reply of the quote and the bytes of the buffer that was lent to it
unfoldable pub lines_of : QuoteReply → List ℕ → List ℕ
lines_of q stage =
    let word = cond (eqb q.mark.outcome best_outcome) best_text stopped_text in
    cond (is_refused q.mark) (refusal_line [] q.mark.number q.mark.place) (result_lines word q stage)

-- what it prints for a reply of the joint quote (document 02, E6): the same, with the word for the sheet where one is refused
unfoldable pub joint_lines : QuoteReply → List ℕ → List ℕ
joint_lines q stage =
    let whose = cond (eqb q.mark.outcome refused_outcome) first_text second_text in
    let lines = lines_of q stage in
    cond (is_refused q.mark) (refusal_line whose q.mark.number q.mark.place) lines

-- the line of a stage that was judged, with the word of the judgement
unfoldable pub judged_line : List ℕ → ℕ → List ℕ
judged_line word cells = word ++ named cells_text cells ++ newline ∷ []

-- what the program prints for a reply of the audit: "fits cells C", "differs cells C", "sheet refused N at P" or "stage refused N at P"
abbrev pub audit_line : Case → List ℕ
audit_line c =
    let word = cond (eqb c.outcome fits_outcome) fits_text differs_text in
    let whose = cond (eqb c.outcome refused_outcome) sheet_text stage_text in
    cond (is_refused c) (refusal_line whose c.number c.place) (judged_line word c.value)

-- what the program prints for a reply of the call that writes a clean copy, and the bytes of the buffer that was lent to it
unfoldable pub copy_line : Case → List ℕ → List ℕ
copy_line c copy = let shown = shown_line longest_copy c.value copy in cond (is_refused c) (refusal_line [] c.number c.place) shown

-- The longest report of numbers below 2 to the power 64, by its parts: the three counts and their names,
abbrev pub longest_counts : ℕ
longest_counts = length cells_text + length floor_text + length visits_text + 3 * longest_decimal

-- the longest of the words beside them,
abbrev pub longest_word : ℕ
longest_word = length stopped_text

-- and so many bytes, of a stage or of a copy: a pair for each and what parts it from the next,
abbrev pub longest_pairs : ℕ → ℕ
longest_pairs most = 3 * most

-- with the end of their line
abbrev pub longest_shown_line : ℕ → ℕ
longest_shown_line most = longest_pairs most + 1

abbrev pub longest_report : ℕ
longest_report = longest_counts + longest_word + longest_shown_line longest_written

-- the line of a copy, which is above that of any refusal
abbrev pub longest_copy_line : ℕ
longest_copy_line = longest_shown_line longest_copy

-- what a report of at most so many bytes leaves in the buffer: its text at the start, all else as it was; its length is handed back
abbrev pub Printed : (most : ℕ) (text before after : List ℕ) → ℕ → Type 0
Printed most text before after r = (r ≡ length text) × (after ≡ sets before 0 text) × (r ≤ most)
