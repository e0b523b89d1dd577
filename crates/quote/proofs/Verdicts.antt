-- Of what the calls hand back, the answer alone: two that are told with the same case are both accepted, or the same refusal; and of searches and quotes two that are told with the same mark have it, or are the same refusal.
use mathlib.Core.Path.{◌≡◌, refl, sym, ◌∙◌}
use Rattle.std.specs.Prelude.{Result, Ok, Err}
use Rattle.base.specs.declared.Refusal.{Refusal}
use Rattle.base.specs.Cases.{verdict_case}
use Rattle.base.proofs.Cases.{verdict_one}
use Rattle.sheet.specs.declared.Sheet.{Sheet}
use Rattle.sheet.specs.Cases.{sheet_reply}
use Rattle.relation.specs.declared.Relation.{Relation}
use Rattle.unit.specs.Cases.{formed_reply}
use Rattle.stage_reader.specs.declared.StageRead.{StageRead}
use Rattle.stage_reader.specs.Cases.{stage_reply}
use Rattle.search.specs.declared.Mark.{Mark}
use Rattle.search.specs.declared.Answer.{Answer}
use Rattle.search.specs.Cases.{search_reply}
use Rattle.search.proofs.Cases.{marked, mark_one}
use Rattle.branch_bound.specs.Reply.{refused_with}
use Rattle.quote.specs.declared.Quoted.{Quoted}
use Rattle.quote.specs.Cases.{quote_reply}

-- whether a thing was accepted, or why not
abbrev pub verdict : {A : Type 0} → Result A Refusal → Result Unit Refusal
verdict (Ok x) = Ok tt
verdict (Err f) = Err f

sheet_told : (a : Result Sheet Refusal) → (sheet_reply a).answer ≡ verdict_case (verdict a)
sheet_told (Ok x) = refl
sheet_told (Err f) = refl

pub sheet_verdict_one : (a b : Result Sheet Refusal) → (sheet_reply a).answer ≡ (sheet_reply b).answer → verdict a ≡ verdict b
sheet_verdict_one a b e = verdict_one (verdict a) (verdict b) (sym (sheet_told a) ∙ e ∙ sheet_told b)

formed_told : (a : Result Relation Refusal) → (formed_reply a).answer ≡ verdict_case (verdict a)
formed_told (Ok x) = refl
formed_told (Err f) = refl

pub formed_verdict_one : (a b : Result Relation Refusal) → (formed_reply a).answer ≡ (formed_reply b).answer → verdict a ≡ verdict b
formed_verdict_one a b e = verdict_one (verdict a) (verdict b) (sym (formed_told a) ∙ e ∙ formed_told b)

stage_told : (a : Result StageRead Refusal) → (stage_reply a).answer ≡ verdict_case (verdict a)
stage_told (Ok x) = refl
stage_told (Err f) = refl

pub stage_verdict_one : (a b : Result StageRead Refusal) → (stage_reply a).answer ≡ (stage_reply b).answer → verdict a ≡ verdict b
stage_verdict_one a b e = verdict_one (verdict a) (verdict b) (sym (stage_told a) ∙ e ∙ stage_told b)

-- the mark of an answer, or the refusal in its place
abbrev pub answer_mark : Result Answer Refusal → Result Mark Refusal
answer_mark (Ok a) = Ok a.mark
answer_mark (Err f) = Err f

answer_marked : (a : Result Answer Refusal) → (search_reply a).mark ≡ marked (answer_mark a)
unfolding refused_with
answer_marked (Ok a) = refl
answer_marked (Err f) = refl

pub answer_mark_one : (a b : Result Answer Refusal) → (search_reply a).mark ≡ (search_reply b).mark → answer_mark a ≡ answer_mark b
answer_mark_one a b e = mark_one (answer_mark a) (answer_mark b) (sym (answer_marked a) ∙ e ∙ answer_marked b)

-- and of a quote
abbrev pub quote_mark : Result Quoted Refusal → Result Mark Refusal
quote_mark (Ok q) = Ok q.mark
quote_mark (Err f) = Err f

quote_marked : (a : Result Quoted Refusal) → (quote_reply a).mark ≡ marked (quote_mark a)
quote_marked (Ok q) = refl
quote_marked (Err f) = refl

pub quote_mark_one : (a b : Result Quoted Refusal) → (quote_reply a).mark ≡ (quote_reply b).mark → quote_mark a ≡ quote_mark b
quote_mark_one a b e = mark_one (quote_mark a) (quote_mark b) (sym (quote_marked a) ∙ e ∙ quote_marked b)
