use Rattle.sheet.specs.Commands.{collect}
use Rattle.sheet.specs.Gathered.{gathered, tabulate, meet}
use Rattle.sheet.proofs.Sheet.fresh.Goals as goal

pub returns : goal.returns
unfolding gathered tabulate meet collect
returns c = rw c.all_ones-all.ensures
