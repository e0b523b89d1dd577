-- The case of an audit tells the audit, and what is told of a quote, or of the refusal in its place, tells which it is.
use Prim.Native.Nat.{ℕ}
use mathlib.Core.Path.{◌≡◌, refl}
use mathlib.Core.Bool.{cond}
use lib.Dec.{eqb}
use Rattle.base.specs.Cases.{Case, is_refused, refused_outcome}
use Rattle.base.specs.Refusals.{refusal_at}
use Rattle.base.proofs.Cases.{case_one, told_one}
use Rattle.base.specs.declared.Refusal.{Refusal}
use Rattle.std.specs.Prelude.{Result, Ok, Err}
use Rattle.branch_bound.specs.Reply.{best_outcome}
use Rattle.search.specs.declared.Mark.{Mark}
use Rattle.search.specs.declared.Mark.TheVariants.{Best, Stopped}
use Rattle.quote.specs.declared.Quoted.{Quoted}
use Rattle.quote.specs.declared.Audited.{Audited}
use Rattle.quote.specs.declared.Audited.TheVariants.{Fits, Differs}
use Rattle.quote.specs.declared.AuditRefusal.{AuditRefusal}
use Rattle.quote.specs.declared.AuditRefusal.TheVariants.{Sheet as SheetRefused, Stage as StageRefused}
use Rattle.quote.specs.Cases.{fits_outcome, audited_case, QuoteReply, quoted_told, quote_reply}

abbrev back : Case → Result Audited AuditRefusal
back c =
    let refusal = refusal_at c.number c.place in
    cond (is_refused c) (cond (eqb c.outcome refused_outcome) (Err (SheetRefused refusal)) (Err (StageRefused refusal)))
    (cond (eqb c.outcome fits_outcome) (Ok (Fits c.value)) (Ok (Differs c.value)))

undo : (a : Result Audited AuditRefusal) → back (audited_case a) ≡ a
undo (Ok (Fits c)) = refl
undo (Ok (Differs c)) = refl
undo (Err (SheetRefused f)) = refl
undo (Err (StageRefused f)) = refl

pub audited_one : (a b : Result Audited AuditRefusal) → audited_case a ≡ audited_case b → a ≡ b
audited_one = case_one audited_case back undo

-- the numbers of a quote tell it: the mark is had from its case, the rest as it stands
abbrev pub quoted_from : QuoteReply → Quoted
quoted_from r = record { cells = r.cells; floor = r.floor; visits = r.visits; length = r.length; mark = cond (eqb r.mark.outcome best_outcome) Best Stopped }

abbrev quote_back : QuoteReply → Result Quoted Refusal
quote_back r = cond (is_refused r.mark) (Err (refusal_at r.mark.number r.mark.place)) (Ok (quoted_from r))

quoted_kept : (c f v l : ℕ) (k : Mark) → quote_back (quoted_told (record { cells = c; floor = f; visits = v; length = l; mark = k })) ≡ Ok (record { cells = c; floor = f; visits = v; length = l; mark = k })
quoted_kept c f v l Best = refl
quoted_kept c f v l Stopped = refl

quote_undo : (a : Result Quoted Refusal) → quote_back (quote_reply a) ≡ a
quote_undo (Ok q) = quoted_kept q.cells q.floor q.visits q.length q.mark
quote_undo (Err f) = refl

pub quoted_one : (a b : Result Quoted Refusal) → quote_reply a ≡ quote_reply b → a ≡ b
quoted_one = told_one quote_reply quote_back quote_undo
