use Rattle.text.proofs.Pages.{adds_next}
use Rattle.text.proofs.Page.put_text.Goals as goal

pub loop-b-preserved : goal.loop-b-preserved
loop-b-preserved c = adds_next c.args.text.now c.loop-b.b-index c.loop-b.invariant c.put_byte.ensures c.loop-b-test.true
