-- `put_refusal_line` meets its contract: the word for what is refused, the refusal, and the end of the line.
use Rattle.report.specs.Lines.{refusal_line}
use Rattle.text.proofs.Pages.{adds_then, adds_widened}
use Rattle.report.proofs.line_parts.put_refusal_line.Goals as goal

pub returns : goal.returns
unfolding refusal_line
returns c = adds_then (adds_then (adds_widened c.put_text.ensures c.requires.0) c.put_refusal.ensures) c.put_byte.ensures
