use mathlib.Core.Path.{◌≡◌, sym, ◌∙◌}
use lib.Dec.{leb}
use Rattle.base.proofs.Passing.{passed_on}
use Rattle.sheet.specs.Limits.{max_outputs}
use Rattle.sheet.specs.Inner.Gathering.{fault_of}
use Rattle.sheet.proofs.Judging.{output_unmade, output_refused, output_taken}
use Rattle.sheet.proofs.Sheet.output.Goals as goal

pub returns-in_err-fault_of : goal.returns-in_err-fault_of
returns-in_err-fault_of c before e =
    let a = c.args in
    let h = c.in_err-fault_of in
    let fault : c.fault_of.result ≡ fault_of (output_unmade a.self a.s) (leb max_outputs a.self.output_count) a.at = rw (c.fault_of.ensures, c.signals_made-made.ensures) in
    passed_on c.from_residual.result h.field-0.0 c.from_residual.ensures.1
    ∙ output_refused before a.at a.self e a.s h.field-0.0 (sym fault ∙ h.was)

pub returns : goal.returns
returns c before e =
    let a = c.args in
    let fault : c.fault_of.result ≡ fault_of (output_unmade a.self a.s) (leb max_outputs a.self.output_count) a.at = rw (c.fault_of.ensures, c.signals_made-made.ensures) in
    output_taken before a.at a.self e a.s (sym fault ∙ c.in_ok-fault_of.was)
