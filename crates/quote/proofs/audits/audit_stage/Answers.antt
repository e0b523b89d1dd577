use mathlib.Core.Bool.{true, false}
use mathlib.Core.Path.{sym, ap, ◌∙◌}
use Rattle.std.specs.Prelude.{Err}
use Rattle.stage_reader.specs.Cases.{stage_reply}
use Rattle.quote.specs.Cases.{audited_case}
use Rattle.quote.specs.declared.AuditRefusal.TheVariants.{Stage as StageRefused}
use Rattle.quote.proofs.Auditing.{stage_refused, inputs_differ, wires_differ, few_inputs, tested}
use Rattle.quote.proofs.audits.audit_stage.Goals as goal
use Rattle.quote.proofs.audits.audit_stage.Goals.{then-read-relation-via-then-read-relation, then-read-relation-via-else-read-relation+then-read-relation-2}

pub returns-in_default : goal.returns-in_default
returns-in_default c =
    let a = c.args in
    stage_refused a.kind a.relation a.s.now c.unwrap_err.result (sym (ap stage_reply c.unwrap_err.ensures) ∙ c.read_on-reply.ensures)

pub returns-then-read-relation : goal.returns-then-read-relation
returns-then-read-relation c =
    let a = c.args in
    let told = ap (λ f. audited_case (Err (StageRefused f))) c.at.ensures in
    elim c.then-read-relation.branch [
      | then-read-relation-via-then-read-relation w ↦ told ∙ inputs_differ a.kind a.relation a.s.now c.in-Ok.read c.in-Ok.ensures w.if-read-relation.true
      | then-read-relation-via-else-read-relation+then-read-relation-2 w ↦
          told ∙ wires_differ a.kind a.relation a.s.now c.in-Ok.read c.in-Ok.ensures w.if-read-relation.false w.if-read-relation-2.true
    ]

pub allowed_everywhere-requires : goal.allowed_everywhere-requires
allowed_everywhere-requires c = let a = c.args in few_inputs a.kind a.relation a.s.now c.in-Ok.read c.in-Ok.ensures

pub returns-then-allowed_everywhere : goal.returns-then-allowed_everywhere
returns-then-allowed_everywhere c =
    let a = c.args in
    tested a.kind a.relation a.s.now c.in-Ok.read c.in-Ok.ensures
    c.if-read-relation.false c.if-read-relation-2.false true (sym c.if-allowed_everywhere.true ∙ c.allowed_everywhere.ensures)

pub returns-else-allowed_everywhere : goal.returns-else-allowed_everywhere
returns-else-allowed_everywhere c =
    let a = c.args in
    tested a.kind a.relation a.s.now c.in-Ok.read c.in-Ok.ensures
    c.if-read-relation.false c.if-read-relation-2.false false (sym c.if-allowed_everywhere.false ∙ c.allowed_everywhere.ensures)
