-- `constants` meets its contract: without an entry the numbers tell the two constants.
use Rattle.std.proofs.Common.{refl, arith}
use Rattle.diagram.specs.Diagram.{EntriesFit, entries_cells}
use Rattle.stage_reader.specs.Inner.Numbers.{entries_in}
use Rattle.stage_reader.proofs.Numbering.{constants_tell}
use Rattle.stage_reader.proofs.numbers.Numbers.constants.Goals as goal

pub invariant_of-result : goal.invariant_of-result
unfolding entries_in EntriesFit entries_cells
invariant_of-result c =
    let a = c.args in
    record {
      small = c.requires;
      few = omega arith;
      fit = tt;
      tell = constants_tell a.n c.full_table.result _ refl c.full_table.ensures;
      counted = refl;
    }

pub returns : goal.returns
unfolding entries_in
returns c = refl
