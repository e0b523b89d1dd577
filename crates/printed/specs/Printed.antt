-- Document 01, "Quote, audit, program": what the program prints for a sheet, and for a sheet and a stage. Document 02, E1: for a sheet
-- that is to be cleaned; E2: quote and audit for the board that shares selectors.
use Rattle.std.specs.Prelude.{ℕ, Bool, cond, List, [], ltb, length, replicate}
use Rattle.base.specs.Cases.{Case, refusing, refused_outcome, second_refused_outcome}
use Rattle.base.specs.Refusals.{refusal_at, too_long}
use Rattle.sheet.specs.Judged.{Reading, holds, refused}
use Rattle.reader.specs.Reading.{reading_of}
use Rattle.nodes.specs.declared.BoardKind.{BoardKind}
use Rattle.quote.specs.Cases.{QuoteReply, no_quote}
use Rattle.quote.specs.Quote.{quoted_of, buffer_quoted}
use Rattle.joined.specs.Joint.{joint_quoted, joint_buffer}
use Rattle.quote.specs.Audit.{audited_of}
use Rattle.diagram.specs.Bytes.{longest_written}
use Rattle.clean.specs.Copy.{longest_copy}
use Rattle.clean.specs.Cleaned.{cleaned_of, buffer_cleaned}
use Rattle.report.specs.Lines.{sheet_text, first_text, refusal_line, lines_of, joint_lines, audit_line, copy_line}

-- the most bytes that the program takes as a sheet
abbrev pub longest_sheet : ℕ
longest_sheet = 4096

-- the budget of the program's quotes
abbrev pub budget : ℕ
budget = 10000

-- the buffers that the program lends: to the quote with room for the longest stage of either board, and for a copy with room for the longest
abbrev pub lent_stage : List ℕ
lent_stage = replicate longest_written 0

abbrev pub lent_copy : List ℕ
lent_copy = replicate longest_copy 0

-- Document 01, "Refusals", 14: the program's own, told from the length alone
abbrev pub is_too_long : List ℕ → Bool
is_too_long sheet = ltb longest_sheet (length sheet)

-- its line, after the word for what is refused, if there is one
abbrev pub too_long_line : List ℕ → List ℕ
too_long_line whose = refusal_line whose too_long longest_sheet

-- the reply of the quote to a sheet, in the numbers of its cases
abbrev pub quoted : BoardKind → List ℕ → QuoteReply
quoted kind sheet = quoted_of kind sheet budget (length lent_stage)

-- the lines for a sheet
unfoldable pub printed_of : BoardKind → List ℕ → List ℕ
printed_of kind sheet =
    let lines = lines_of (quoted kind sheet) (buffer_quoted kind sheet budget lent_stage) in
    cond (is_too_long sheet) (too_long_line []) lines

-- the line for a sheet and a stage
unfoldable pub audit_printed_of : BoardKind → List ℕ → List ℕ → List ℕ
audit_printed_of kind sheet stage =
    let line = audit_line (audited_of kind sheet stage) in
    cond (is_too_long sheet) (too_long_line sheet_text) line

-- the line for a sheet that is to be cleaned: its copy
unfoldable pub clean_printed_of : List ℕ → List ℕ
clean_printed_of sheet =
    let line = copy_line (cleaned_of sheet (length lent_copy)) (buffer_cleaned sheet lent_copy) in
    cond (is_too_long sheet) (too_long_line []) line

-- two sheets of which the second is too long: what reading refuses of the first comes before that
unfoldable pub before_too_long : Reading → Case
before_too_long (refused f) = refusing refused_outcome f
before_too_long (holds cs) = refusing second_refused_outcome (refusal_at too_long longest_sheet)

-- the lines for two sheets that are to have one stage (document 02, E6); each sheet's length is the first thing that it may be refused for
unfoldable pub joint_printed_of : (first second : List ℕ) → List ℕ
joint_printed_of first second =
    let lines = joint_lines (joint_quoted first second budget (length lent_stage)) (joint_buffer first second budget lent_stage) in
    let refusal = joint_lines (no_quote (before_too_long (reading_of first))) lent_stage in
    cond (is_too_long first) (too_long_line first_text) (cond (is_too_long second) refusal lines)
