-- The cases of a joint quote's refusal as numbers, with the sheet that is refused told by the outcome; and its reply told by them.
use Rattle.std.specs.Prelude.{cond, Result, Ok, Err}
use Rattle.base.specs.Cases.{Case, refusing, is_refused, refused_outcome, second_refused_outcome}
use Rattle.quote.specs.declared.Quoted.{Quoted}
use Rattle.quote.specs.Cases.{QuoteReply, quoted_told, no_quote}
use Rattle.joined.specs.declared.JointRefusal.{JointRefusal}
use Rattle.joined.specs.declared.JointRefusal.TheVariants.{First, Second}

abbrev pub joint_case : JointRefusal → Case
joint_case (First f) = refusing refused_outcome f
joint_case (Second f) = refusing second_refused_outcome f

abbrev pub joint_reply : Result Quoted JointRefusal → QuoteReply
joint_reply (Ok q) = quoted_told q
joint_reply (Err f) = no_quote (joint_case f)

-- the same with no sheet named: a refusal of either is told as that of a quote
abbrev pub unnamed_case : Case → Case
unnamed_case c = cond (is_refused c) (record { outcome = refused_outcome; number = c.number; place = c.place; value = c.value }) c

abbrev pub unnamed : QuoteReply → QuoteReply
unnamed q = record { cells = q.cells; floor = q.floor; visits = q.visits; length = q.length; mark = unnamed_case q.mark }
