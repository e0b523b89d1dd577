-- What is told of a gathered sheet, or of the refusal in its place, tells which it is.
use mathlib.Core.Path.{◌≡◌, refl}
use mathlib.Core.Bool.{cond}
use Rattle.std.specs.Prelude.{Result, Ok, Err}
use Rattle.base.specs.declared.Refusal.{Refusal}
use Rattle.base.specs.Cases.{is_refused}
use Rattle.base.specs.Refusals.{refusal_at}
use Rattle.base.proofs.Cases.{told_one}
use Rattle.sheet.specs.declared.Sheet.{Sheet}
use Rattle.sheet.specs.Cases.{SheetReply, sheet_reply}

abbrev back : SheetReply → Result Sheet Refusal
back r = cond (is_refused r.answer) (Err (refusal_at r.answer.number r.answer.place)) (Ok r.sheet)

undo : (a : Result Sheet Refusal) → back (sheet_reply a) ≡ a
undo (Ok sheet) = refl
undo (Err f) = refl

pub sheet_one : (a b : Result Sheet Refusal) → sheet_reply a ≡ sheet_reply b → a ≡ b
sheet_one = told_one sheet_reply back undo
