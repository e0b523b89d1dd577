-- What was gathered, with the verdict on it told by its case.
use Rattle.std.specs.Prelude.{Result, Ok, Err, []}
use Rattle.base.specs.declared.Refusal.{Refusal}
use Rattle.base.specs.Cases.{Case, accepted_case, refused_case}
use Rattle.sheet.specs.declared.Sheet.{Sheet}
use Rattle.sheet.specs.Gathered.{gathered}

pub record SheetReply : Type 0 where
  pub sheet : Sheet
  pub answer : Case

-- a refusal writes nothing: what was gathered is dropped, and the sheet is one without commands
abbrev pub sheet_reply : Result Sheet Refusal → SheetReply
sheet_reply (Ok sheet) = record { sheet = sheet; answer = accepted_case }
sheet_reply (Err f) = record { sheet = gathered []; answer = refused_case f }
