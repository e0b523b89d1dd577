-- `put_wires` meets its contract. The loop's invariant: storing the wires that are left gives all wires stored.
use Rattle.std.proofs.Common.{◌≡◌, ◌+◌, length}
use lib.Seq.{sets}
use Rattle.stage.specs.Bytes.{wires_bytes}
use Rattle.stage.specs.Written.{stage_drawn}
use Rattle.diagram.specs.Forms.{form_of}
use Rattle.stage_writer.proofs.Storing.{wires_from}
use Rattle.stage_writer.proofs.stores.put_wires.Given as goal

abbrev pub invariant-loop-j : goal.invariant-loop-j
invariant-loop-j l =
    let F = form_of l.stage.kind in
    let n = l.stage.n in
    let m = l.stage.m in
    let tables = l.stage.tables in
    (sets l.buffer l.at (wires_from F n m l.j tables) ≡ sets l.initial.buffer 3 (wires_bytes F 0 (stage_drawn F n m tables)))
    × (l.at + length (wires_from F n m l.j tables) ≡ 3 + length (wires_bytes F 0 (stage_drawn F n m tables)))
