-- `wide_pick` meets its contract: five inputs, else six.
use mathlib.Core.Path.{◌≡◌}
use native.Mathlib.Omega.{arith}
use Rattle.table.specs.Inner.Pairs.{zeros_in, ones_in}
use Rattle.table.specs.Inner.Wide.{four_masks}
use Rattle.table.proofs.SideBySide.{five_told, six_told}
use Rattle.table.proofs.wide.wide_pick.Goals as goal

pub returns-then-n-eq-FIVE_INPUTS : goal.returns-then-n-eq-FIVE_INPUTS
returns-then-n-eq-FIVE_INPUTS c =
    let i = c in
    let a = i.args in
    five_told (zeros_in a.a) (zeros_in a.b) (zeros_in a.c) (zeros_in a.d) (ones_in a.a) (ones_in a.b) (ones_in a.c) (ones_in a.d) a.n c.pick5-x.result
    c.if-n-eq-FIVE_INPUTS.true i.requires.3 i.requires.4 i.requires.5 c.pick5-x.ensures.0

pub returns : goal.returns
returns c =
    let i = c in
    let a = i.args in
    let six : a.n ≡ 6 = omega arith in
    six_told (four_masks (zeros_in a.a) (zeros_in a.b) (zeros_in a.c) (zeros_in a.d)) (four_masks (ones_in a.a) (ones_in a.b) (ones_in a.c) (ones_in a.d)) a.n
    c.pick6.result.cells c.pick6.result.table six i.requires.5 (omega arith) c.pick6.ensures
