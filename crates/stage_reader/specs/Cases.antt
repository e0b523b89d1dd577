-- The stage reader's replies told by document 01's numbers.
use Rattle.std.specs.Prelude.{Result, Ok, Err}
use Rattle.base.specs.Cases.{accepted_case}
use Rattle.base.specs.declared.Refusal.{Refusal}
use Rattle.stage.specs.Reply.{StageReply, refused_reply}
use Rattle.stage_reader.specs.declared.StageRead.{StageRead}

abbrev pub stage_reply : Result StageRead Refusal → StageReply
stage_reply (Ok r) = record { n = r.n; m = r.m; tables = r.tables; cells = r.cells; answer = accepted_case }
stage_reply (Err f) = refused_reply f
