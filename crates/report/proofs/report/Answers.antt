-- `report` meets its contract: the lines by the case of the reply.
use Rattle.std.proofs.Common.{rules}
use Rattle.report.specs.Lines.{lines_of}
use Rattle.report.proofs.report.Goals as goal

pub returns : goal.returns
unfolding lines_of
returns c = search rules
