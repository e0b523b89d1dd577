-- Document 01, "Bench sheets", with the row of document 02, E5: rows that reading alone answers, computed from the meaning.
use mathlib.Core.Path.{◌≡◌, refl}
use mathlib.Core.List.{List, [], ◌∷◌}
use Prim.Native.Nat.{ℕ}
use Rattle.base.specs.Refusals.{refusal_at, cut_short, out_of_turn, out_of_range}
use Rattle.base.specs.Lowest.{lowest}
use Rattle.sheet.specs.declared.Command.TheVariants.{End, Sizes, Row, Gate, Output}
use Rattle.sheet.specs.Commands.{collect}
use Rattle.reader.specs.Reader.{next_of}
use Rattle.sheet.specs.Judged.{holds, judged, ending, refused}
use Rattle.reader.specs.Reading.{one_command, reading_from, reading_of}

pub empty_sheet : reading_of [] ≡ refused (refusal_at cut_short 0)
unfolding reading_of reading_from
empty_sheet = refl

pub lone_end : reading_of (0 ∷ []) ≡ refused (refusal_at out_of_turn 0)
unfolding reading_of reading_from one_command next_of collect
lone_end = refl

pub seven_inputs : reading_of (1 ∷ 7 ∷ 1 ∷ []) ≡ refused (refusal_at out_of_range 0)
unfolding reading_of reading_from one_command next_of collect
seven_inputs = refl

-- sizes 4 and 4 are in range, and so are 6 and 4: what is missing is the next command
pub four_and_four : reading_of (1 ∷ 4 ∷ 4 ∷ []) ≡ refused (refusal_at cut_short 3)
unfolding reading_of reading_from one_command next_of judged collect
four_and_four = refl

pub six_and_four : reading_of (1 ∷ 6 ∷ 4 ∷ []) ≡ refused (refusal_at cut_short 3)
unfolding reading_of reading_from one_command next_of judged collect
six_and_four = refl

abbrev pub sheet_a : List ℕ
sheet_a = 1 ∷ 2 ∷ 2 ∷ 2 ∷ 0 ∷ 1 ∷ 2 ∷ 1 ∷ 0 ∷ 2 ∷ 2 ∷ 0 ∷ 2 ∷ 3 ∷ 2 ∷ 4 ∷ 2 ∷ 0 ∷ 1 ∷ 4 ∷ 0 ∷ 2 ∷ 1 ∷ 5 ∷ 2 ∷ 5 ∷ 3 ∷ 0 ∷ []

pub sheet_a_lem : reading_of sheet_a
    ≡ holds (Sizes 2 2 ∷ Row 0 1 ∷ Row 1 0 ∷ Row 2 0 ∷ Row 3 2 ∷ Gate 2 0 1 ∷ Gate 0 2 1 ∷ Output 2 ∷ Output 3 ∷ End ∷ [])
unfolding reading_of reading_from one_command next_of judged ending collect lowest
sheet_a_lem = refl
