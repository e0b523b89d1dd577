-- The relation formed from a sheet, told by the cases of the sheet's answer.
use Rattle.std.specs.Prelude.{Result, Ok, Err}
use Rattle.base.specs.declared.Refusal.{Refusal}
use Rattle.base.specs.Cases.{Case, accepted_case, refused_case}
use Rattle.sheet.specs.Limits.{max_patterns}
use Rattle.table.specs.Bits.{tabulate}
use Rattle.relation.specs.declared.Relation.{Relation}

pub record FormedReply : Type 0 where
  pub relation : Relation
  pub answer : Case

-- a refusal leaves no relation
abbrev pub no_relation : Relation
no_relation = record { n = 0; m = 0; sets = tabulate max_patterns (λ p. 0) }

abbrev pub formed_reply : Result Relation Refusal → FormedReply
formed_reply (Ok r) = record { relation = r; answer = accepted_case }
formed_reply (Err f) = record { relation = no_relation; answer = refused_case f }
