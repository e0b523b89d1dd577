-- Document 01, "Quote, audit, program": the audit of a stage against a sheet. The sheet is judged first, then the stage, then their sizes, then every pattern.
use Rattle.std.specs.Prelude.{ℕ, ◌^◌, Bool, cond, ◌&&◌, List, eqb}
use Rattle.base.specs.Cases.{Case, accepting, refusing, is_refused, second_refused_outcome}
use Rattle.base.specs.Refusals.{refusal_at, sizes_differ}
use Rattle.table.specs.Bits.{all}
use Rattle.nodes.specs.declared.BoardKind.{BoardKind}
use Rattle.relation.specs.declared.Relation.{Relation}
use Rattle.relation.specs.Handed.{relation_of}
use Rattle.stage.specs.Read.{read_sheet}
use Rattle.diagram.specs.Forms.{form_of, drawing_of}
use Rattle.table.specs.Drawing.{Drawing, StageSheet, got, no_stage, drawn_value, drawn_cells}
use Rattle.unit.specs.Cases.{FormedReply}
use Rattle.unit.specs.Formed.{formed_of}
use Rattle.quote.specs.Cases.{fits_outcome, differs_outcome}

module _ (D : Drawing) where
  -- the value that the drawings drive is allowed on every pattern
  unfoldable pub keeps_to : Relation → List D.Shape → Bool
  keeps_to r stage = all (2 ^ r.n) (λ p. relation_of r p (drawn_value D r.n stage p))

-- 13, which counts as the stage's
abbrev pub sizes_apart : Case
sizes_apart = refusing second_refused_outcome (refusal_at sizes_differ 0)

module _ (D : Drawing) where
  unfoldable pub audited_stage : Relation → StageSheet D.Shape → Case
  audited_stage r (no_stage f) = refusing second_refused_outcome f
  audited_stage r (got n m stage) =
      let cells = drawn_cells D stage in
      cond (eqb n r.n && eqb m r.m) (cond (keeps_to D r stage) (accepting fits_outcome cells) (accepting differs_outcome cells)) sizes_apart

unfoldable pub audited_from : BoardKind → FormedReply → List ℕ → Case
audited_from kind f stage =
    let judged = audited_stage (drawing_of kind) f.relation (read_sheet (form_of kind) stage) in
    cond (is_refused f.answer) f.answer judged

-- the reply to the bytes of a unit sheet and of a stage sheet, for either board
unfoldable pub audited_of : BoardKind → List ℕ → List ℕ → Case
audited_of kind sheet stage = audited_from kind (formed_of sheet) stage
