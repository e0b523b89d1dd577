-- Document 01, "Stage sheet": what the stage reader hands back, the truth table of each drawing that it took and the cells of all of them.
use Rattle.std.specs.Prelude.{ℕ, List, map, get_or, replicate}
use Rattle.base.specs.Cases.{Case, accepted_case, refused_case}
use Rattle.base.specs.declared.Refusal.{Refusal}
use Rattle.sheet.specs.Limits.{max_wires}
use Rattle.table.specs.Bits.{tabulate}
use Rattle.table.specs.Drawing.{Drawing, StageSheet, got, no_stage, drawn_table, drawn_cells}

-- a stage sheet: its sizes, tables and cells, and the case of the answer
pub record StageReply : Type 0 where
  pub n : ℕ
  pub m : ℕ
  pub tables : List ℕ
  pub cells : ℕ
  pub answer : Case

-- a refused sheet leaves nothing of what was read
abbrev pub refused_reply : Refusal → StageReply
refused_reply f = record { n = 0; m = 0; tables = replicate max_wires 0; cells = 0; answer = refused_case f }

module _ (D : Drawing) where
  -- a table for each wire that a stage can have; 0 for one that the sheet does not have
  unfoldable pub stage_tables : ℕ → List D.Shape → List ℕ
  stage_tables n stage = tabulate max_wires (λ j. get_or (map (drawn_table D n) stage) j 0)

  unfoldable pub reply_to_stage : StageSheet D.Shape → StageReply
  reply_to_stage (got n m stage) = record { n = n; m = m; tables = stage_tables n stage; cells = drawn_cells D stage; answer = accepted_case }
  reply_to_stage (no_stage f) = refused_reply f
