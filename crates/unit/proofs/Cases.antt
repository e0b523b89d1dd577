-- What is told of a relation that was formed, or of the refusal in its place, tells which it is.
use mathlib.Core.Path.{◌≡◌, refl}
use mathlib.Core.Bool.{cond}
use Rattle.std.specs.Prelude.{Result, Ok, Err}
use Rattle.base.specs.declared.Refusal.{Refusal}
use Rattle.base.specs.Cases.{is_refused}
use Rattle.base.specs.Refusals.{refusal_at}
use Rattle.base.proofs.Cases.{told_one}
use Rattle.relation.specs.declared.Relation.{Relation}
use Rattle.unit.specs.Cases.{FormedReply, formed_reply}

abbrev back : FormedReply → Result Relation Refusal
back r = cond (is_refused r.answer) (Err (refusal_at r.answer.number r.answer.place)) (Ok r.relation)

undo : (a : Result Relation Refusal) → back (formed_reply a) ≡ a
undo (Ok r) = refl
undo (Err f) = refl

pub formed_one : (a b : Result Relation Refusal) → formed_reply a ≡ formed_reply b → a ≡ b
formed_one = told_one formed_reply back undo
