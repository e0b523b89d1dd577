use Rattle.std.proofs.Common.{take, arith}
use lib.Seq.{length-take-le}
use Rattle.base.proofs.Stores.{put_none, put_then}
use Rattle.diagram.specs.Bytes.{entries_bytes}
use Rattle.diagram.specs.Written.{entries_of}
use Rattle.stage_writer.proofs.Entries.{entries_bytes_lem, entries_step}
use Rattle.stage_writer.proofs.diagrams.put_entries.Goals as goal

pub loop-k-init : goal.loop-k-init
unfolding entries_of entries_bytes
loop-k-init c = put_none

pub put_entry-next-requires : goal.put_entry-next-requires
put_entry-next-requires c =
    let l = c.loop-k in
    let ks = c.args.listed.now in
    let passed = length-take-le l.k ks (omega arith) in (
      omega (arith, passed, c.requires.0),
      c.requires.1,
      c.requires.2 l.k c.loop-k-test.true,
      omega (arith, c.requires.3, l.invariant.past, c.loop-k-test.true, entries_bytes_lem c.args.n (take l.k ks), passed),
    )

pub loop-k-preserved : goal.loop-k-preserved
loop-k-preserved c =
    let l = c.loop-k in
    rw (entries_step c.args.n c.args.listed.now l.k c.loop-k-test.true) (put_then l.invariant c.put_entry-next.ensures)
