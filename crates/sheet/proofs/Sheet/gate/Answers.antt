use mathlib.Core.Path.{◌≡◌, sym, ◌∙◌}
use lib.Dec.{leb}
use Rattle.base.proofs.Passing.{passed_on}
use Rattle.sheet.specs.Limits.{max_gates}
use Rattle.sheet.specs.Inner.Gathering.{fault_of}
use Rattle.sheet.proofs.Judging.{gate_unmade, gate_refused, gate_taken}
use Rattle.sheet.proofs.Sheet.gate.Goals as goal

pub returns-in_err-fault_of : goal.returns-in_err-fault_of
returns-in_err-fault_of c before e =
    let a = c.args in
    let h = c.in_err-fault_of in
    let fault : c.fault_of.result ≡ fault_of (gate_unmade a.self a.a a.b) (leb max_gates a.self.gate_count) a.at = rw (c.fault_of.ensures, c.not_made.ensures, c.signals_made-made.ensures) in
    passed_on c.from_residual.result h.field-0.0 c.from_residual.ensures.1
    ∙ gate_refused before a.at a.self e a.kind a.a a.b h.field-0.0 (sym fault ∙ h.was)

pub returns : goal.returns
returns c before e =
    let a = c.args in
    let fault : c.fault_of.result ≡ fault_of (gate_unmade a.self a.a a.b) (leb max_gates a.self.gate_count) a.at = rw (c.fault_of.ensures, c.not_made.ensures, c.signals_made-made.ensures) in
    gate_taken before a.at a.self e a.kind a.a a.b (sym fault ∙ c.in_ok-fault_of.was)
