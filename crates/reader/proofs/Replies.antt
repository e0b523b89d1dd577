-- What the reply of `read_sheet` tells of the reading.
use Prim.Native.Nat.{ℕ}
use mathlib.Core.Path.{◌≡◌, refl, sym, ap}
use mathlib.Core.List.{List}
use Rattle.base.specs.declared.Refusal.{Refusal}
use Rattle.base.specs.Cases.{refused_outcome}
use Rattle.base.proofs.Cases.{accepted_refused, refused_accepted, same_refusal}
use Rattle.std.specs.Prelude.{Result, Ok, Err}
use Rattle.sheet.specs.declared.Command.{Command}
use Rattle.sheet.specs.declared.Sheet.{Sheet}
use Rattle.sheet.specs.Cases.{SheetReply, sheet_reply}
use Rattle.sheet.specs.Gathered.{gathered}
use Rattle.sheet.specs.Judged.{Reading, holds, refused}
use Rattle.reader.specs.Reading.{reading_of, reply_told}
use Rattle.reader.specs.Inner.WasRead.{WasRead}
use Rattle.sheet.specs.Inner.Gathering.{gathered_reply}

-- an accepted sheet holds commands, and is what they say
pub record Holding (x : Reading) (sheet : Sheet) : Type 0 where
  pub commands : List Command
  pub holds_them : x ≡ holds commands
  pub sheet_is : sheet ≡ gathered commands

-- the loop's reply is the written one
pub reply_told_lem : (x : Reading) → sheet_reply (gathered_reply x) ≡ reply_told x
unfolding gathered_reply reply_told
reply_told_lem (holds cs) = refl
reply_told_lem (refused f) = refl

abbrev Tells : Result Sheet Refusal → Reading → Type 0
Tells r x = sheet_reply r ≡ reply_told x

answer_told : (r : Result Sheet Refusal) (x : Reading) → Tells r x → (sheet_reply r).answer ≡ (reply_told x).answer
answer_told r x e = ap (λ (y : SheetReply). y.answer) e

pub accepted_reply_lem : (sheet : Sheet) (x : Reading) → Tells (Ok sheet) x → Holding x sheet
unfolding reply_told
accepted_reply_lem sheet (holds cs) e = record { commands = cs; holds_them = refl; sheet_is = ap (λ (y : SheetReply). y.sheet) e }
accepted_reply_lem sheet (refused f) e = accepted_refused f (answer_told (Ok sheet) (refused f) e)

pub refused_reply_lem : (f : Refusal) (x : Reading) → Tells (Err f) x → x ≡ refused f
unfolding reply_told
refused_reply_lem f (holds cs) e = refused_accepted f (answer_told (Err f) (holds cs) e)
refused_reply_lem f (refused g) e = ap refused (sym (same_refusal refused_outcome f g (answer_told (Err f) (refused g) e)))

-- a reply that accepts comes from a sheet that was read
unfoldable pub accepted_held : (bytes : List ℕ) (sheet : Sheet) → sheet_reply (Ok sheet) ≡ reply_told (reading_of bytes) → WasRead sheet
accepted_held bytes sheet e =
    let x = accepted_reply_lem sheet (reading_of bytes) e in
    record { bytes = bytes; commands = x.commands; held = x.holds_them; gathers = x.sheet_is }
