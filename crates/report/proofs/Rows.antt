-- Worked rows, computed from the meanings: a line of each kind.
use Prim.Native.Nat.{ℕ}
use mathlib.Core.Path.{◌≡◌, refl}
use mathlib.Core.List.{List, [], ◌∷◌, ◌++◌}
use Rattle.base.specs.Cases.{accepted_outcome, accepting, refusing, refused_outcome, second_refused_outcome, refused_case}
use Rattle.base.specs.Refusals.{refusal_at, empty, short_buffer, sizes_differ, too_long}
use Rattle.branch_bound.specs.Reply.{stopped_outcome}
use Rattle.quote.specs.Cases.{fits_outcome, differs_outcome}
use Rattle.text.specs.Text.{digits, decimal, hex_digit, hex_pair, further_pairs, hex_pairs, named}
use Rattle.report.specs.Lines.{newline, cells_text, fits_text, differs_text, sheet_text, stage_text, refused_text, at_text, counts_of, shown_pairs}
use Rattle.report.specs.Lines.{shown_line, result_lines, refusal_text, refusal_line, lines_of, judged_line, audit_line, copy_line}

-- all meanings open: those of text, and with them those of the lines
unfoldable pub texts : ℕ
unfolding digits decimal hex_digit hex_pair further_pairs hex_pairs named
texts = 0

unfoldable pub printing : ℕ
unfolding texts counts_of shown_pairs shown_line result_lines refusal_text refusal_line lines_of judged_line copy_line
printing = 0

-- "cells 2 floor 1 visits 0 stopped" and "20 2F": bytes of the buffer past the length are not shown
pub stopped_lines : lines_of (record { cells = 2; floor = 1; visits = 0; length = 2; mark = accepting stopped_outcome 0 }) (0x20 ∷ 0x2F ∷ 0x7A ∷ [])
    ≡ 0x63 ∷ 0x65 ∷ 0x6C ∷ 0x6C ∷ 0x73 ∷ 0x20 ∷ 0x32 ∷ 0x20 ∷ 0x66 ∷ 0x6C ∷ 0x6F ∷ 0x6F ∷ 0x72 ∷ 0x20 ∷ 0x31 ∷ 0x20
    ∷ 0x76 ∷ 0x69 ∷ 0x73 ∷ 0x69 ∷ 0x74 ∷ 0x73 ∷ 0x20 ∷ 0x30 ∷ 0x20
    ∷ 0x73 ∷ 0x74 ∷ 0x6F ∷ 0x70 ∷ 0x70 ∷ 0x65 ∷ 0x64 ∷ newline ∷ 0x32 ∷ 0x30 ∷ 0x20 ∷ 0x32 ∷ 0x46 ∷ newline ∷ []
unfolding printing
stopped_lines = refl

-- "refused 10 at 2", whatever stands in the buffer
pub refused_10 : (stage : List ℕ) → lines_of (record { cells = 0; floor = 0; visits = 0; length = 0; mark = refused_case (refusal_at empty 2) }) stage
    ≡ 0x72 ∷ 0x65 ∷ 0x66 ∷ 0x75 ∷ 0x73 ∷ 0x65 ∷ 0x64 ∷ 0x20 ∷ 0x31 ∷ 0x30 ∷ 0x20 ∷ 0x61 ∷ 0x74 ∷ 0x20 ∷ 0x32 ∷ newline ∷ []
unfolding printing
refused_10 stage = refl

-- "fits cells 2", "differs cells 60"
pub fits_2 : audit_line (accepting fits_outcome 2) ≡ fits_text ++ cells_text ++ 0x32 ∷ newline ∷ []
unfolding printing
fits_2 = refl

pub differs_60 : audit_line (accepting differs_outcome 60) ≡ differs_text ++ cells_text ++ 0x36 ∷ 0x30 ∷ newline ∷ []
unfolding printing
differs_60 = refl

-- "sheet refused 14 at 4096", "stage refused 13 at 0"
pub sheet_refused_14 : audit_line (refusing refused_outcome (refusal_at too_long 4096))
    ≡ sheet_text ++ refused_text ++ 0x31 ∷ 0x34 ∷ at_text ++ 0x34 ∷ 0x30 ∷ 0x39 ∷ 0x36 ∷ newline ∷ []
unfolding printing
sheet_refused_14 = refl

pub stage_refused_13 : audit_line (refusing second_refused_outcome (refusal_at sizes_differ 0))
    ≡ stage_text ++ refused_text ++ 0x31 ∷ 0x33 ∷ at_text ++ 0x30 ∷ newline ∷ []
unfolding printing
stage_refused_13 = refl

-- "01 00", of a buffer that has a byte more; "refused 12 at 596", the longest copy, whatever stands in it
pub copy_shown : copy_line (accepting accepted_outcome 2) (0x01 ∷ 0x00 ∷ 0x7A ∷ []) ≡ 0x30 ∷ 0x31 ∷ 0x20 ∷ 0x30 ∷ 0x30 ∷ newline ∷ []
unfolding printing
copy_shown = refl

pub copy_refused_12 : (copy : List ℕ) → copy_line (refused_case (refusal_at short_buffer 596)) copy
    ≡ refused_text ++ 0x31 ∷ 0x32 ∷ at_text ++ 0x35 ∷ 0x39 ∷ 0x36 ∷ newline ∷ []
unfolding printing
copy_refused_12 copy = refl
