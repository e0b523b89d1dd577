-- `put_counts` meets its contract: three numbers, each after its name.
use Rattle.report.specs.Lines.{counts_of}
use Rattle.text.proofs.Pages.{adds_then}
use Rattle.report.proofs.line_parts.put_counts.Goals as goal

pub returns : goal.returns
unfolding counts_of
returns c = adds_then (adds_then c.put_named.ensures c.put_named-2.ensures) c.put_named-3.ensures
