-- What the program prints, by whether the sheet is too long.
use Prim.Native.Nat.{ℕ, ◌+◌, ◌<◌, ◌≤◌}
use mathlib.Core.Path.{◌≡◌, refl, sym, ap, ap₂, ◌∙◌}
use mathlib.Core.Logic.{⊎_elim}
use mathlib.Core.Bool.{cond}
use mathlib.Core.List.{List, []}
use native.Mathlib.Omega.{arith}
use borrow.Author.Tests.{lt-ltb, le-ltb}
use lib.ListN.{length, take}
use lib.Dec.{ltb, ltb→lt, nltb→le}
use lib.Seq.{take_all, length-take-le}
use Rattle.base.specs.Cases.{Case, refusing, refused_outcome, refused_case}
use Rattle.base.specs.Refusals.{refusal_at, too_long}
use Rattle.base.proofs.Tests.{decide}
use Rattle.nodes.specs.declared.BoardKind.{BoardKind}
use Rattle.diagram.proofs.DiagramForm.{longest_diagrams}
use Rattle.diagram.proofs.Forms.{form_front}
use Rattle.quote.specs.Cases.{QuoteReply, no_quote}
use Rattle.quote.specs.Inner.Refused.{refused_quote}
use Rattle.sheet.specs.Judged.{Reading, holds, refused}
use Rattle.reader.specs.Reading.{reading_of}
use Rattle.quote.specs.Quote.{buffer_quoted}
use Rattle.joined.specs.Joint.{joint_quoted, joint_buffer}
use Rattle.quote.specs.Audit.{audited_from, audited_of}
use Rattle.clean.specs.Cleaned.{cleaned_of, buffer_cleaned}
use Rattle.report.specs.Lines.{sheet_text, first_text, lines_of, joint_lines, audit_line, copy_line}
use Rattle.printed.specs.Printed.{longest_sheet, budget, lent_stage, lent_copy, is_too_long, too_long_line, quoted, printed_of, audit_printed_of, clean_printed_of, before_too_long, joint_printed_of}

module _ (kind : BoardKind) (sheet : List ℕ) where
  pub quote_too_long : (q : QuoteReply) (stage : List ℕ) → q ≡ refused_quote (refusal_at too_long longest_sheet) → longest_sheet < length sheet
      → lines_of q stage ≡ printed_of kind sheet
  unfolding lines_of printed_of
  quote_too_long q stage e l = rw (e, lt-ltb longest_sheet (length sheet) l)

  pub quote_lines : (q : QuoteReply) (stage : List ℕ) → q ≡ quoted kind sheet → stage ≡ buffer_quoted kind sheet budget lent_stage → length sheet ≤ longest_sheet
      → lines_of q stage ≡ printed_of kind sheet
  unfolding printed_of
  quote_lines q stage eq es l = ap₂ lines_of eq es ∙ sym (rw (le-ltb longest_sheet (length sheet) l))

  pub audit_too_long : (c : Case) (stage : List ℕ) → c ≡ refusing refused_outcome (refusal_at too_long longest_sheet) → longest_sheet < length sheet
      → audit_line c ≡ audit_printed_of kind sheet stage
  unfolding audit_printed_of
  audit_too_long c stage e l = rw (e, lt-ltb longest_sheet (length sheet) l)

  pub audit_line_lem : (c : Case) (stage : List ℕ) → c ≡ audited_of kind sheet stage → length sheet ≤ longest_sheet → audit_line c ≡ audit_printed_of kind sheet stage
  unfolding audit_printed_of
  audit_line_lem c stage e l = ap audit_line e ∙ sym (rw (le-ltb longest_sheet (length sheet) l))

  -- what the program reads of a file is enough: of a stage, one byte more than the longest of either board has
  pub stage_front : (stage : List ℕ) → audit_printed_of kind sheet (take (longest_diagrams + 1) stage) ≡ audit_printed_of kind sheet stage
  unfolding audit_printed_of audited_of audited_from
  stage_front stage = rw (form_front kind stage (longest_diagrams + 1) (omega arith))

-- two sheets: the first is too long, or the second, or neither
module _ (first second : List ℕ) where
  pub joined_first_long : (q : QuoteReply) (stage : List ℕ) → q ≡ no_quote (refusing refused_outcome (refusal_at too_long longest_sheet)) → longest_sheet < length first
      → joint_lines q stage ≡ joint_printed_of first second
  unfolding joint_lines joint_printed_of
  joined_first_long q stage e l = rw (e, lt-ltb longest_sheet (length first) l)

  -- a refusal shows no stage
  any_stage : (x : Reading) (a b : List ℕ) → joint_lines (no_quote (before_too_long x)) a ≡ joint_lines (no_quote (before_too_long x)) b
  unfolding joint_lines before_too_long
  any_stage (refused f) a b = refl
  any_stage (holds cs) a b = refl

  module _ (short : length first ≤ longest_sheet) where
    pub joined_second_long : (q : QuoteReply) (stage : List ℕ) → q ≡ no_quote (before_too_long (reading_of first)) → longest_sheet < length second
        → joint_lines q stage ≡ joint_printed_of first second
    unfolding joint_printed_of
    joined_second_long q stage e l =
        ap (λ x. joint_lines x stage) e ∙ any_stage (reading_of first) stage lent_stage
        ∙ sym (rw (le-ltb longest_sheet (length first) short, lt-ltb longest_sheet (length second) l))

    pub joined_lines : (q : QuoteReply) (stage : List ℕ) → q ≡ joint_quoted first second budget (length lent_stage) → stage ≡ joint_buffer first second budget lent_stage
        → length second ≤ longest_sheet → joint_lines q stage ≡ joint_printed_of first second
    unfolding joint_printed_of
    joined_lines q stage eq es l = ap₂ joint_lines eq es ∙ sym (rw (le-ltb longest_sheet (length first) short, le-ltb longest_sheet (length second) l))

module _ (sheet : List ℕ) where
  pub clean_too_long : (c : Case) (copy : List ℕ) → c ≡ refused_case (refusal_at too_long longest_sheet) → longest_sheet < length sheet
      → copy_line c copy ≡ clean_printed_of sheet
  unfolding copy_line clean_printed_of
  clean_too_long c copy e l = rw (e, lt-ltb longest_sheet (length sheet) l)

  pub clean_line : (c : Case) (copy : List ℕ) → c ≡ cleaned_of sheet (length lent_copy) → copy ≡ buffer_cleaned sheet lent_copy → length sheet ≤ longest_sheet
      → copy_line c copy ≡ clean_printed_of sheet
  unfolding clean_printed_of
  clean_line c copy ec eb l = ap₂ copy_line ec eb ∙ sym (rw (le-ltb longest_sheet (length sheet) l))

  -- of a sheet, one byte more than the longest that is taken: it is whole, or too long either way
  module _ {A : Type 0} (P : List ℕ → A) (refusal : A) (long : (s : List ℕ) → longest_sheet < length s → P s ≡ refusal) where
    sheet_front : P (take (longest_sheet + 1) sheet) ≡ P sheet
    sheet_front =
        ⊎_elim
        (λ t.
        let l = ltb→lt longest_sheet (length sheet) t in
        let k : length (take (longest_sheet + 1) sheet) ≡ longest_sheet + 1 = length-take-le (longest_sheet + 1) sheet (omega arith) in
        long (take (longest_sheet + 1) sheet) (omega arith) ∙ sym (long sheet l))
        (λ t. let l = nltb→le longest_sheet (length sheet) t in ap P (take_all (longest_sheet + 1) sheet (omega arith)))
        (decide (ltb longest_sheet (length sheet)))

-- so of every reply that refuses a longer sheet
pub quote_front : (kind : BoardKind) (sheet : List ℕ) → printed_of kind (take (longest_sheet + 1) sheet) ≡ printed_of kind sheet
unfolding printed_of
quote_front kind sheet = sheet_front sheet (printed_of kind) (too_long_line []) (λ s l. rw (lt-ltb longest_sheet (length s) l))

pub audit_front : (kind : BoardKind) (sheet stage : List ℕ) → audit_printed_of kind (take (longest_sheet + 1) sheet) stage ≡ audit_printed_of kind sheet stage
unfolding audit_printed_of
audit_front kind sheet stage = sheet_front sheet (λ s. audit_printed_of kind s stage) (too_long_line sheet_text) (λ s l. rw (lt-ltb longest_sheet (length s) l))

pub clean_front : (sheet : List ℕ) → clean_printed_of (take (longest_sheet + 1) sheet) ≡ clean_printed_of sheet
unfolding clean_printed_of
clean_front sheet = sheet_front sheet clean_printed_of (too_long_line []) (λ s l. rw (lt-ltb longest_sheet (length s) l))

-- and of two sheets, each on its own
pub joined_front : (first second : List ℕ) → joint_printed_of (take (longest_sheet + 1) first) (take (longest_sheet + 1) second) ≡ joint_printed_of first second
unfolding joint_printed_of
joined_front first second =
    let cut = take (longest_sheet + 1) second in
    sheet_front first (λ s. joint_printed_of s cut) (too_long_line first_text) (λ s l. rw (lt-ltb longest_sheet (length s) l))
    ∙ sheet_front second (joint_printed_of first)
    (cond (is_too_long first) (too_long_line first_text) (joint_lines (no_quote (before_too_long (reading_of first))) lent_stage)) (λ s l. rw (lt-ltb longest_sheet (length s) l))
