-- `report_joint` meets its contract: the lines of the quote, or the line of the refusal with the word for its sheet.
use Rattle.std.proofs.Common.{rules, ap, ◌∙◌}
use Rattle.report.specs.Lines.{lines_of, joint_lines}
use Rattle.report.proofs.Reports.{printed, joint_same}
use Rattle.report.proofs.report_joint.Goals as goal

pub returns-in-Ok : goal.returns-in-Ok
returns-in-Ok c = printed _ _ _ c.report.ensures (ap (λ x. lines_of x c.args.stage.now) c.unnamed.ensures ∙ rw c.in-Ok.is (joint_same _ _))

pub returns-in-Err-First : goal.returns-in-Err-First
unfolding joint_lines
returns-in-Err-First c = search rules

pub returns-in-Err-Second : goal.returns-in-Err-Second
unfolding joint_lines
returns-in-Err-Second c = search rules
