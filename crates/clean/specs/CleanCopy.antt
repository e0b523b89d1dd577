-- Document 02, E1: what a clean copy is good for, told by the bytes of the sheet and of the copy.
use Rattle.std.specs.Prelude.{ℕ, ◌≤◌, ◌≡◌, cond, not, List, [], ◌∷◌, ◌++◌, T, eqb, length, take, drop}
use Rattle.base.specs.Cases.{Case, accepting, accepted_outcome, is_refused}
use Rattle.base.specs.Refusals.{empty}
use Rattle.sheet.specs.declared.Command.{Command}
use Rattle.sheet.specs.SaySame.{SaySame}
use Rattle.sheet.specs.Commands.{wires_of, limits_on}
use Rattle.sheet.specs.Gathered.{gathered, limit_on}
use Rattle.sheet.specs.Judged.{holds}
use Rattle.sheet.specs.Limits.{all_ones}
use Rattle.reader.specs.Reading.{reading_of}
use Rattle.nodes.specs.declared.BoardKind.{BoardKind}
use Rattle.quote.specs.Quote.{quoted_of, buffer_quoted}
use Rattle.clean.specs.Copy.{copy_length, longest_copy}
use Rattle.clean.specs.Cleaned.{cleaned_of, buffer_cleaned}

-- two sheets that are accepted and gather the same: n and m; of each pattern the mark, the present value and the permitted set; the gates; the outputs
pub record GatherAlike (sheet other : List ℕ) : Type 0 where
  pub commands : List Command
  pub held : reading_of sheet ≡ holds commands
  pub others : List Command
  pub held_others : reading_of other ≡ holds others
  pub gathers : gathered commands ≡ gathered others

-- two sheets that are answered alike, with the same bytes in every buffer
abbrev pub SameCopy : (sheet other : List ℕ) → Type 0
SameCopy sheet other =
    (buffer : List ℕ) → (cleaned_of other (length buffer) ≡ cleaned_of sheet (length buffer)) × (buffer_cleaned other buffer ≡ buffer_cleaned sheet buffer)

pub record CleanCopy (sheet copy : List ℕ) : Type 0 where
  -- reading the copy is accepted, and gathers what the sheet does
  pub same : GatherAlike sheet copy
  -- told by the commands of the two: they say the same,
  pub says_same : SaySame same.commands same.others
  -- and on each pattern the copy has one 06 with what is permitted there, or none where that is all values
  pub one_limit : (p : ℕ)
      → limits_on p same.others ≡ cond (eqb (limit_on p same.others) (all_ones (wires_of same.others))) [] (limit_on p same.others ∷ [])
  -- its length is told by what the sheet gathers
  pub length_told : length copy ≡ copy_length (gathered same.commands)
  pub short : length copy ≤ longest_copy
  -- cleaning it again writes it again, in every buffer that is long enough
  pub again : (buffer : List ℕ) → length copy ≤ length buffer
      → (cleaned_of copy (length buffer) ≡ accepting accepted_outcome (length copy)) × (buffer_cleaned copy buffer ≡ copy ++ drop (length copy) buffer)
  -- every sheet that gathers the same comes out as the same bytes,
  pub equal : (other : List ℕ) → GatherAlike sheet other → SameCopy sheet other
  -- and so does every sheet whose commands say the same
  pub equal_said : (other : List ℕ) (ds : List Command) → reading_of other ≡ holds ds → SaySame same.commands ds → SameCopy sheet other
  -- its quote is the quote of the sheet, on either board, refusals included
  pub same_quote : (kind : BoardKind) (budget : ℕ) (buffer : List ℕ)
      → (quoted_of kind copy budget (length buffer) ≡ quoted_of kind sheet budget (length buffer))
      × (buffer_quoted kind copy budget buffer ≡ buffer_quoted kind sheet budget buffer)

-- the reply to a sheet, and the buffer that is left
pub record CleanPromise (sheet : List ℕ) (r : Case) (buffer : List ℕ) : Type 0 where
  -- the refusal's number is never 10
  pub never_empty : r.number ≡ empty → ⊥
  -- unless it is refused, the bytes written are a clean copy
  pub copied : T (not (is_refused r)) → CleanCopy sheet (take r.value buffer)
