-- The cases of a mark as document 01's numbers, and what the code's search hands back told by them.
use Rattle.std.specs.Prelude.{Result, Ok, Err}
use Rattle.base.specs.declared.Refusal.{Refusal}
use Rattle.base.specs.Cases.{Case, accepting, refused_case}
use Rattle.branch_bound.specs.Reply.{best_outcome, stopped_outcome, SearchReply, refused_with}
use Rattle.search.specs.declared.Mark.{Mark}
use Rattle.search.specs.declared.Mark.TheVariants.{Best, Stopped}
use Rattle.search.specs.declared.Answer.{Answer}

abbrev pub mark_case : Mark → Case
mark_case Best = accepting best_outcome 0
mark_case Stopped = accepting stopped_outcome 0

abbrev pub answer_told : Answer → SearchReply
answer_told a = record { tables = a.tables; cells = a.cells; floor = a.floor; visits = a.visits; mark = mark_case a.mark }

-- where the relation is refused there is nothing but the refusal
abbrev pub search_reply : Result Answer Refusal → SearchReply
search_reply (Ok a) = answer_told a
search_reply (Err f) = refused_with (refused_case f)
