-- `put_refusal` meets its contract: two numbers, each after its name.
use Rattle.report.specs.Lines.{refusal_text}
use Rattle.text.proofs.Pages.{adds_then}
use Rattle.report.proofs.line_parts.put_refusal.Goals as goal

pub returns : goal.returns
unfolding refusal_text
returns c = adds_then (rw c.from.ensures at c.put_named.ensures) c.put_named-2.ensures
