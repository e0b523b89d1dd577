use mathlib.Core.Path.{◌≡◌, ap}
use lib.Dec.{eqb}
use Rattle.sheet.specs.Limits.{all_ones}
use Rattle.clean.proofs.sections.permits_all.Goals as goal

pub returns : goal.returns
returns c =
    let test : eqb c.args.set c.all_ones-all.result ≡ eqb c.args.set (all_ones c.args.m) =
    ap (eqb c.args.set) c.all_ones-all.ensures in
    test
