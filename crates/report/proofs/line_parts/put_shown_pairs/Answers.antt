-- `put_shown_pairs` meets its contract: as many bytes as are shown.
use Rattle.std.proofs.Common.{arith, ap, length}
use Rattle.std.proofs.lemmas.List.{length-take}
use Rattle.report.specs.Lines.{shown_pairs}
use Rattle.text.proofs.Pages.{adds_widened}
use Rattle.report.proofs.line_parts.put_shown_pairs.Goals as goal

pub returns : goal.returns
unfolding shown_pairs
returns c =
    let few = simp length-take at (ap length c.shown.ensures) in
    rw (← c.shown.ensures) (adds_widened c.put_hex_pairs.ensures (omega (arith, few)))
