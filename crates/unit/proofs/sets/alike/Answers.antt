use mathlib.Core.Path.{◌≡◌, refl, ap, ap₂, ◌∙◌}
use native.Mathlib.Omega.{arith}
use lib.Bits.{bit_and}
use lib.ListN.{get_or}
use Rattle.table.specs.Bits.{all, is_one, of_bits, sum}
use Rattle.sheet.specs.Limits.{max_outputs, max_values}
use Rattle.unit.specs.Inner.Forming.{same_bit, same_outputs}
use Rattle.unit.proofs.Members.{told, told_more}
use Rattle.unit.proofs.sets.alike.Goals as goal

pub loop-i-init : goal.loop-i-init
unfolding all is_one of_bits sum
loop-i-init c = (omega arith, refl)

pub loop-i-preserved : goal.loop-i-preserved
loop-i-preserved c =
    let a = c.args in
    let l = c.loop-i in
    (omega arith, ap₂ bit_and l.invariant.1 c.alike_on-found.ensures ∙ told_more (λ v k. same_bit (get_or a.outputs k 0) a.u v) max_values l.i)

pub returns : goal.returns
unfolding same_outputs
returns c =
    let a = c.args in
    let e : c.loop-i.i ≡ max_outputs = omega arith in
    c.loop-i.invariant.1 ∙ ap (λ i. told max_values (λ v. all i (λ k. same_bit (get_or a.outputs k 0) a.u v))) e
