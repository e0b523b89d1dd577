-- The case of a mark, or of the refusal in its place, tells which it is; and what is told of an answer, or of a refusal, tells the answer.
use Prim.Native.Nat.{ℕ}
use mathlib.Core.Path.{◌≡◌, refl}
use mathlib.Core.List.{List}
use mathlib.Core.Bool.{cond}
use lib.Dec.{eqb}
use Rattle.std.specs.Prelude.{Result, Ok, Err}
use Rattle.base.specs.declared.Refusal.{Refusal}
use Rattle.base.specs.Cases.{Case, refused_case, is_refused}
use Rattle.base.specs.Refusals.{refusal_at}
use Rattle.base.proofs.Cases.{case_one, told_one}
use Rattle.search.specs.declared.Mark.{Mark}
use Rattle.search.specs.declared.Mark.TheVariants.{Best, Stopped}
use Rattle.branch_bound.specs.Reply.{best_outcome, SearchReply, refused_with}
use Rattle.search.specs.declared.Answer.{Answer}
use Rattle.search.specs.Cases.{mark_case, answer_told, search_reply}

abbrev pub marked : Result Mark Refusal → Case
marked (Ok k) = mark_case k
marked (Err f) = refused_case f

abbrev back : Case → Result Mark Refusal
back c = cond (is_refused c) (Err (refusal_at c.number c.place)) (Ok (cond (eqb c.outcome best_outcome) Best Stopped))

undo : (a : Result Mark Refusal) → back (marked a) ≡ a
undo (Ok Best) = refl
undo (Ok Stopped) = refl
undo (Err f) = refl

pub mark_one : (a b : Result Mark Refusal) → marked a ≡ marked b → a ≡ b
mark_one = case_one marked back undo

-- and what is told of an answer, or of a refusal, tells that: the mark is had from its case, the rest as it stands
abbrev answer_back : SearchReply → Result Answer Refusal
answer_back r =
    cond (is_refused r.mark) (Err (refusal_at r.mark.number r.mark.place))
    (Ok (record { tables = r.tables; cells = r.cells; floor = r.floor; visits = r.visits; mark = cond (eqb r.mark.outcome best_outcome) Best Stopped }))

found_undo : (t : List ℕ) (c f v : ℕ) (k : Mark) → answer_back (answer_told (record { tables = t; cells = c; floor = f; visits = v; mark = k })) ≡ Ok (record { tables = t; cells = c; floor = f; visits = v; mark = k })
found_undo t c f v Best = refl
found_undo t c f v Stopped = refl

answer_undo : (a : Result Answer Refusal) → answer_back (search_reply a) ≡ a
unfolding refused_with
answer_undo (Ok a) = found_undo a.tables a.cells a.floor a.visits a.mark
answer_undo (Err f) = refl

pub answer_one : (a b : Result Answer Refusal) → search_reply a ≡ search_reply b → a ≡ b
answer_one = told_one search_reply answer_back answer_undo
