-- `put_shown_line` meets its contract: the pairs, and the end of their line.
use Rattle.report.specs.Lines.{shown_line}
use Rattle.text.proofs.Pages.{adds_then}
use Rattle.report.proofs.line_parts.put_shown_line.Goals as goal

pub returns : goal.returns
unfolding shown_line
returns c = adds_then c.put_shown_pairs.ensures c.put_text.ensures
