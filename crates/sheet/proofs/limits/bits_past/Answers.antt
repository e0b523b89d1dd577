use Prim.Native.Nat.{◌^◌}
use mathlib.Core.Path.{ap, ◌∙◌}
use lib.Dec.{leb}
use Rattle.sheet.specs.Limits.{word_power}
use Rattle.sheet.proofs.Powers.{beyond_capped}
use Rattle.sheet.proofs.limits.bits_past.Goals as goal

pub returns : goal.returns
returns c =
    let x = c.args.x in
    let k = c.args.k in
    c.beyond.ensures ∙ ap (λ e. leb (2 ^ e) x) c.power.ensures.0 ∙ beyond_capped x word_power k c.ranges.x.fits
