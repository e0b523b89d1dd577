-- Document 01, "Unit sheet" and "Refusals": from any bytes to the commands that they hold, or one refusal with its place.
use Rattle.std.specs.Prelude.{ℕ, zero, suc, Bool, true, false, cond, List, [], length}
use Rattle.base.specs.Refusals.{refusal_at, cut_short}
use Rattle.base.specs.Cases.{accepted_case, refused_case}
use Rattle.sheet.specs.declared.Command.{Command}
use Rattle.sheet.specs.declared.Command.TheVariants.{End, Sizes, Row, DontCare, Gate, Output, Limit}
use Rattle.sheet.specs.Cases.{SheetReply}
use Rattle.sheet.specs.Gathered.{gathered}
use Rattle.sheet.specs.Judged.{Reading, holds, refused, judged, ending}
use Rattle.std.specs.Prelude.{Result, Ok, Err}
use Rattle.base.specs.declared.Refusal.{Refusal}
use Rattle.reader.specs.declared.Reader.{Reader}
use Rattle.reader.specs.Reader.{reader_at, next_of}

abbrev pub is_end : Command → Bool
is_end End = true
is_end (Sizes n m) = false
is_end (Row p v) = false
is_end (DontCare p) = false
is_end (Gate k a b) = false
is_end (Output s) = false
is_end (Limit p w) = false

-- where one command leads: the reading is over, or goes on at a place past more commands
pub data Passage : Type 0 where
  over : Reading → Passage
  on : List Command → ℕ → Passage

abbrev pub onward : List ℕ → Command → ℕ → Reading → Passage
onward s c to (refused f) = over (refused f)
onward s c to (holds cs) = cond (is_end c) (over (ending s to cs)) (on cs to)

abbrev pub after_step : List ℕ → ℕ → List Command → Result (Command × Reader) Refusal → Passage
after_step s at before (Err f) = over (refused f)
after_step s at before (Ok (c, r)) = onward s c r.at (judged before c at)

-- the command at a place: what the reader refuses, then what the state does; behind 00 also what the end does
unfoldable pub one_command : List ℕ → ℕ → List Command → Passage
one_command s at before = after_step s at before (next_of s (reader_at at before))

abbrev pub continued : (ℕ → List Command → Reading) → Passage → Reading
continued go (over x) = x
continued go (on cs to) = go to cs

-- at most k commands from a place on; cut short where they are spent
unfoldable pub reading_from : ℕ → List ℕ → ℕ → List Command → Reading
reading_from zero s at before = refused (refusal_at cut_short at)
reading_from (suc k) s at before = continued (reading_from k s) (one_command s at before)

-- a whole sheet. Each command has a byte of its own at least, so after as many commands as there are bytes nothing is left.
unfoldable pub reading_of : List ℕ → Reading
reading_of s = reading_from (length s) s 0 []

-- the reply to a reading: what the commands say; or the refusal, with nothing gathered
unfoldable pub reply_told : Reading → SheetReply
reply_told (holds cs) = record { sheet = gathered cs; answer = accepted_case }
reply_told (refused f) = record { sheet = gathered []; answer = refused_case f }
