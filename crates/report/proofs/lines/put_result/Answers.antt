-- `put_result` meets its contract: the counts, the word of the mark, and the line of the stage.
use Rattle.text.proofs.Pages.{adds_then}
use Rattle.report.proofs.Reports.{result_told}
use Rattle.report.proofs.lines.put_result.Goals as goal

pub returns : goal.returns
returns c =
    let q = c.args.quoted in
    let told = result_told q.cells q.floor q.visits q.length q.mark c.args.stage.now in
    rw (← told) (adds_then (adds_then c.put_counts.ensures c.put_mark.ensures) c.put_shown_line.ensures)
