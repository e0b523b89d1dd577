-- `pick6` meets its contract: the picks of both halves and of what they have in common.
use mathlib.Core.Path.{sym, subst}
use Rattle.table.specs.Inner.Wide.{SixShown}
use Rattle.table.proofs.SideBySide.{six_found}
use Rattle.table.proofs.wide.pick6.Goals as goal

pub returns : goal.returns
returns c =
    let f = c.line_fits in
    let z = c.common_five-both in
    let y = c.pick5-high in
    let x = c.pick5-low in
    let i = c.args in
    subst (SixShown i.a i.b i.c i.d) (sym (simp (← f.ensures) c.join6.ensures))
    (six_found i.a i.b i.c i.d x.result y.result z.result x.ensures.1 y.ensures.1 z.ensures.2 x.ensures.0 y.ensures.0 z.ensures.0)
