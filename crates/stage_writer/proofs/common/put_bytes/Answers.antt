use Rattle.std.proofs.Common.{arith}
use Rattle.base.proofs.Stores.{put_next}
use Rattle.stage_writer.proofs.Storing.{one_stored}
use Rattle.stage_writer.proofs.common.put_bytes.Goals as goal

pub loop-b-preserved : goal.loop-b-preserved
loop-b-preserved c =
    let l = c.loop-b in
    (omega arith, put_next c.args.bytes.now l.b-index l.invariant.1 (one_stored c.put.ensures) c.loop-b-test.true)
