-- What is told of a stage sheet that was read, or of the refusal in its place, tells which it is.
use mathlib.Core.Path.{◌≡◌, refl}
use mathlib.Core.Bool.{cond}
use Rattle.std.specs.Prelude.{Result, Ok, Err}
use Rattle.base.specs.declared.Refusal.{Refusal}
use Rattle.base.specs.Cases.{is_refused}
use Rattle.base.specs.Refusals.{refusal_at}
use Rattle.base.proofs.Cases.{told_one}
use Rattle.stage.specs.Reply.{StageReply}
use Rattle.stage_reader.specs.declared.StageRead.{StageRead}
use Rattle.stage_reader.specs.Cases.{stage_reply}

abbrev back : StageReply → Result StageRead Refusal
back r = cond (is_refused r.answer) (Err (refusal_at r.answer.number r.answer.place)) (Ok (record { n = r.n; m = r.m; tables = r.tables; cells = r.cells }))

undo : (a : Result StageRead Refusal) → back (stage_reply a) ≡ a
undo (Ok r) = refl
undo (Err f) = refl

pub stage_one : (a b : Result StageRead Refusal) → stage_reply a ≡ stage_reply b → a ≡ b
stage_one = told_one stage_reply back undo
