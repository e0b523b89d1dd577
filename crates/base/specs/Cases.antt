-- Document 01, "Which form goes where": answers told by numbers. Each answer enum has one definition, in the meanings of its crate, that turns a case into
-- numbers; contracts and promises speak of the answer through it.
use Rattle.std.specs.Prelude.{ℕ, Bool, leb, Result, Ok, Err}
use Rattle.base.specs.declared.Refusal.{Refusal}

-- the outcome, which tells a case from the other cases of its enum; the number and the place of its refusal, 0 where it refuses nothing;
-- and its own value (cells, a length), 0 where it has none
pub record Case : Type 0 where
  pub outcome : ℕ
  pub number : ℕ
  pub place : ℕ
  pub value : ℕ

-- The outcomes that enums share: nothing is refused; something is; of two things handed in, the second is.
-- An enum that accepts in two ways names its own two, 0 and 1.
abbrev pub accepted_outcome : ℕ
accepted_outcome = 0

abbrev pub refused_outcome : ℕ
refused_outcome = 2

abbrev pub second_refused_outcome : ℕ
second_refused_outcome = 3

-- a case that refuses nothing
abbrev pub accepting : (outcome value : ℕ) → Case
accepting o v = record { outcome = o; number = 0; place = 0; value = v }

-- a case that refuses
abbrev pub refusing : (outcome : ℕ) → Refusal → Case
refusing o f = record { outcome = o; number = f.number; place = f.place; value = 0 }

abbrev pub accepted_case : Case
accepted_case = accepting accepted_outcome 0

abbrev pub refused_case : Refusal → Case
refused_case f = refusing refused_outcome f

abbrev pub is_refused : Case → Bool
is_refused c = leb refused_outcome c.outcome

-- whether what was handed in is accepted
abbrev pub verdict_case : Result Unit Refusal → Case
verdict_case (Ok u) = accepted_case
verdict_case (Err f) = refused_case f

-- the value of what was written is its length
abbrev pub written_case : Result ℕ Refusal → Case
written_case (Ok k) = accepting accepted_outcome k
written_case (Err f) = refused_case f
