-- `report_copy` meets its contract: the lines by the case of the reply.
use Rattle.std.proofs.Common.{rules}
use Rattle.report.specs.Lines.{copy_line}
use Rattle.report.proofs.report_copy.Goals as goal

pub returns : goal.returns
unfolding copy_line
returns c = search rules
