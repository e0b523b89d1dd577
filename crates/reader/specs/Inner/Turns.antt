-- What the steps of the loop over the commands give, where the sheet and the reader stand past the commands before.
use Rattle.std.specs.Prelude.{ℕ, ◌≤◌, ◌≡◌, List, [], ◌∷◌, ◌++◌, length}
use Rattle.sheet.specs.declared.Command.{Command}
use Rattle.sheet.specs.declared.Sheet.{Sheet}
use Rattle.std.specs.Prelude.{Some, None, Result, Ok, Err}
use Rattle.base.specs.declared.Refusal.{Refusal}
use Rattle.sheet.specs.Limits.{max_inputs}
use Rattle.sheet.specs.Gathered.{gathered}
use Rattle.sheet.specs.Judged.{holds, refused}
use Rattle.reader.specs.declared.Reader.{Reader}
use Rattle.reader.specs.declared.Turn.{Turn}
use Rattle.reader.specs.Reader.{reader_at}
use Rattle.reader.specs.Reading.{Passage, over, on, onward, one_command}

abbrev pub turn_of : Passage → Result Turn Refusal
turn_of (over (holds cs)) = Ok record { sheet = gathered cs; next = None }
turn_of (over (refused f)) = Err f
turn_of (on cs to) = Ok record { sheet = gathered cs; next = Some (reader_at to cs) }

-- where a command that was gathered leads
abbrev pub Follows : Sheet → Command → Reader → ℕ → Result Turn Refusal → Type 0
Follows sheet c next len r =
    (before : List Command) (s : List ℕ) → sheet ≡ gathered (before ++ c ∷ []) → next ≡ reader_at next.at (before ++ c ∷ [])
    → next.n ≤ max_inputs → len ≡ length s → r ≡ turn_of (onward s c next.at (holds (before ++ c ∷ [])))

-- where the next command leads
abbrev pub Turns : List ℕ → Sheet → Reader → Result Turn Refusal → Type 0
Turns s sheet reader r =
    (before : List Command) → sheet ≡ gathered before → reader ≡ reader_at reader.at before → r ≡ turn_of (one_command s reader.at before)
