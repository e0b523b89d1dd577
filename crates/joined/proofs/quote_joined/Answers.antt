-- `quote_joined` meets its contract: the first sheet's reading, then the second's, then both together.
use mathlib.Core.Path.{◌≡◌, ap, sym, ◌∙◌}
use Rattle.std.proofs.Common.{Err}
use Rattle.base.proofs.Passing.{passed_on, mapped_ok, mapped_err}
use Rattle.unit.specs.Cases.{formed_reply}
use Rattle.unit.proofs.Relating.{related_held, related_turned}
use Rattle.joined.specs.declared.JointRefusal.TheVariants.{First, Second}
use Rattle.joined.specs.Cases.{joint_reply}
use Rattle.joined.proofs.JointQuoting.{first_turned, second_turned, second_named, both_quoted_lem}
use Rattle.joined.proofs.quote_joined.Goals as goal

pub returns-in_err-one : goal.returns-in_err-one
returns-in_err-one c =
    let a = c.args in
    let h = c.in_err-one in
    let p = mapped_err _ c.relate.result c.map_err.result h.field-0.0 c.map_err.ensures.cases h.was in
    let same : h.field-0.0 ≡ First p.0 = p.2 in
    let told = ap joint_reply (passed_on c.from_residual.result h.field-0.0 c.from_residual.ensures.1 ∙ ap Err same) in
    let k = first_turned a.first.now a.second.now a.budget a.buffer.now p.0 (related_turned a.first.now p.0 (sym (ap formed_reply p.1) ∙ c.relate.ensures)) told in
    record { reply = k.0; bytes = k.1.0; promise = k.1.1 }

pub returns-in_err-two : goal.returns-in_err-two
returns-in_err-two c =
    let a = c.args in
    let g = c.in_ok-one in
    let h = c.in_err-two in
    let one = related_held a.first.now g.one (sym (ap formed_reply (mapped_ok _ c.relate.result c.map_err.result g.one c.map_err.ensures.cases g.was)) ∙ c.relate.ensures) in
    let p = mapped_err _ c.relate-2.result c.map_err-2.result h.field-0.0 c.map_err-2.ensures.cases h.was in
    let same : h.field-0.0 ≡ Second p.0 = p.2 in
    let told = ap joint_reply (passed_on c.from_residual-in_err-two.result h.field-0.0 c.from_residual-in_err-two.ensures.1 ∙ ap Err same) in
    let k =
    second_turned a.first.now a.second.now a.budget a.buffer.now one.0 one.1 p.0
    (related_turned a.second.now p.0 (sym (ap formed_reply p.1) ∙ c.relate-2.ensures)) told in
    record { reply = k.0; bytes = k.1.0; promise = k.1.1 }

pub returns : goal.returns
returns c =
    let a = c.args in
    let g = c.in_ok-one in
    let h = c.in_ok-two in
    let one = related_held a.first.now g.one (sym (ap formed_reply (mapped_ok _ c.relate.result c.map_err.result g.one c.map_err.ensures.cases g.was)) ∙ c.relate.ensures) in
    let two = related_held a.second.now h.two (sym (ap formed_reply (mapped_ok _ c.relate-2.result c.map_err-2.result h.two c.map_err-2.ensures.cases h.was)) ∙ c.relate-2.ensures) in
    let named = second_named c.quote_both.result c.map_err-3.result c.map_err-3.ensures.cases in
    let z =
    both_quoted_lem a.first.now a.second.now a.budget a.buffer.now one.0 one.1 two.0 two.1 g.one h.two one.2 two.2
    (named ∙ c.quote_both.ensures.0, c.quote_both.ensures.1) in
    record { reply = z.0; bytes = z.1.0; promise = z.1.1 }
