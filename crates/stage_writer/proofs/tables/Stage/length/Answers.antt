-- `length` meets its contract: the wires' frames and the selectors, each with its bytes.
use Rattle.std.proofs.Common.{◌≡◌, ◌+◌, ◌*◌, length, sym, ap₂, ◌∙◌, rules, arith}
use Rattle.sheet.specs.Limits.{max_wires}
use Rattle.stage_writer.proofs.Forms.{form_length}
use Rattle.stage_writer.proofs.tables.Stage.length.Goals as goal

pub returns : goal.returns
returns c =
    let s = c.args.self.now in
    let long : length s.tables ≡ max_wires = search rules in
    ap₂ (λ f k. 4 + f * s.m + 3 * k) c.frame.ensures.0 c.selectors-selectors.ensures ∙ sym (form_length s.kind s.n s.m s.tables (omega (arith, s.few_wires)))
