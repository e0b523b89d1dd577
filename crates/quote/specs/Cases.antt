-- The cases of an audit as document 01's numbers, and the reply of a quote told by its mark's.
use Rattle.std.specs.Prelude.{ℕ, zero, Result, Ok, Err}
use Rattle.base.specs.declared.Refusal.{Refusal}
use Rattle.base.specs.Cases.{Case, accepting, refusing, refused_case, refused_outcome, second_refused_outcome}
use Rattle.search.specs.Cases.{mark_case}
use Rattle.quote.specs.declared.Audited.{Audited}
use Rattle.quote.specs.declared.Audited.TheVariants.{Fits, Differs}
use Rattle.quote.specs.declared.AuditRefusal.{AuditRefusal}
use Rattle.quote.specs.declared.AuditRefusal.TheVariants.{Sheet as SheetRefused, Stage as StageRefused}
use Rattle.quote.specs.declared.Quoted.{Quoted}

-- the two outcomes of an audit that refuses nothing
abbrev pub fits_outcome : ℕ
fits_outcome = 0

abbrev pub differs_outcome : ℕ
differs_outcome = 1

-- the value of a stage that was judged is its cells; the unit sheet is the first of the two handed in
abbrev pub audited_case : Result Audited AuditRefusal → Case
audited_case (Ok (Fits c)) = accepting fits_outcome c
audited_case (Ok (Differs c)) = accepting differs_outcome c
audited_case (Err (SheetRefused f)) = refusing refused_outcome f
audited_case (Err (StageRefused f)) = refusing second_refused_outcome f

pub record QuoteReply : Type 0 where
  pub cells : ℕ
  pub floor : ℕ
  pub visits : ℕ
  pub length : ℕ
  pub mark : Case

-- every number of a refused quote but its refusal's is 0
abbrev pub no_quote : Case → QuoteReply
no_quote c = record { cells = zero; floor = zero; visits = zero; length = zero; mark = c }

abbrev pub quoted_told : Quoted → QuoteReply
quoted_told q = record { cells = q.cells; floor = q.floor; visits = q.visits; length = q.length; mark = mark_case q.mark }

abbrev pub quote_reply : Result Quoted Refusal → QuoteReply
quote_reply (Ok q) = quoted_told q
quote_reply (Err f) = no_quote (refused_case f)
