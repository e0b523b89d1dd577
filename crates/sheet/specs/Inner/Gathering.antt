-- What the steps of the gathering give, where the sheet is what the commands before say.
use Rattle.std.specs.Prelude.{ℕ, ◌≤◌, ◌≡◌, Bool, cond, List, [], ◌∷◌, ◌++◌, length}
use Rattle.std.specs.Prelude.{Result, Ok, Err, IfErr}
use Rattle.base.specs.declared.Refusal.{Refusal}
use Rattle.base.specs.Refusals.{refusal_at, no_signal, too_many}
use Rattle.base.specs.Cases.{refused_case}
use Rattle.sheet.specs.declared.Command.{Command}
use Rattle.sheet.specs.declared.Command.TheVariants.{End, Sizes, Row, DontCare, Gate, Output, Limit}
use Rattle.sheet.specs.declared.Sheet.{Sheet}
use Rattle.sheet.specs.Limits.{max_inputs}
use Rattle.sheet.specs.Commands.{is_empty, is_sizes, inputs_of}
use Rattle.sheet.specs.Gathered.{gathered}
use Rattle.sheet.specs.Cases.{SheetReply, sheet_reply}
use Rattle.sheet.specs.Judged.{judged, ending, Reading, holds, refused}

-- the pattern that a command names; 0 where it names none
abbrev pub pattern_of : Command → ℕ
pattern_of End = 0
pattern_of (Sizes n m) = 0
pattern_of (Row p v) = p
pattern_of (DontCare p) = p
pattern_of (Gate k a b) = 0
pattern_of (Output s) = 0
pattern_of (Limit p w) = p

-- why a gate or an output at a place is refused: a signal that is not made before one too many
abbrev pub fault_of : Bool → Bool → ℕ → Result Unit Refusal
fault_of unmade full at = cond unmade (Err (refusal_at no_signal at)) (cond full (Err (refusal_at too_many at)) (Ok tt))

-- what commands come to, as the code has it
unfoldable pub gathered_reply : Reading → Result Sheet Refusal
gathered_reply (holds cs) = Ok (gathered cs)
gathered_reply (refused f) = Err f

-- a command is gathered
abbrev pub Takes : Sheet → Command → Sheet → Type 0
Takes sheet c r = (before : List Command) → sheet ≡ gathered before → r ≡ gathered (before ++ c ∷ [])

-- a command at a place is judged: 6, 7, 8, or gathered
abbrev pub Judges : Sheet → Command → ℕ → Result Sheet Refusal → Type 0
Judges sheet c at r = (before : List Command) → sheet ≡ gathered before → r ≡ gathered_reply (judged before c at)

-- the same for every command in its turn
abbrev pub Adds : Sheet → Command → ℕ → Result Sheet Refusal → Type 0
Adds sheet c at r = (before : List Command) → sheet ≡ gathered before → is_sizes c ≡ is_empty before → r ≡ gathered_reply (judged before c at)

-- the end is judged: 4, 9, or the sheet stands
abbrev pub Ends : Sheet → ℕ → ℕ → Result Sheet Refusal → Type 0
Ends sheet to len r =
    (before : List Command) (s : List ℕ) → sheet ≡ gathered before → inputs_of before ≤ max_inputs → len ≡ length s → r ≡ gathered_reply (ending s to before)

-- a refusal writes nothing: it is told with the sheet that sizes of 0 alone make
abbrev pub blank_reply : Refusal → SheetReply
blank_reply f = record { sheet = gathered (Sizes 0 0 ∷ []); answer = refused_case f }

abbrev pub TellsBlank : Result Sheet Refusal → Type 0
TellsBlank r = IfErr r (λ f. sheet_reply r ≡ blank_reply f)
