-- `put_judged` meets its contract: the word, the cells after their name, and the end of the line.
use Rattle.report.specs.Lines.{judged_line}
use Rattle.text.proofs.Pages.{adds_then, adds_widened}
use Rattle.report.proofs.lines.put_judged.Goals as goal

pub returns : goal.returns
unfolding judged_line
returns c =
    let word = adds_widened c.put_text.ensures c.requires.0 in
    adds_then (adds_then word (rw c.from.ensures at c.put_named.ensures)) c.put_byte.ensures
