-- `put_sheet` meets its contract: the head, the wires and the end are stored one after the other.
use Rattle.std.proofs.Common.{◌≡◌, ◌≤◌, length, rules, arith}
use Rattle.sheet.specs.Limits.{max_wires}
use Rattle.diagram.specs.Forms.{form_of}
use Rattle.diagram.proofs.Forms.{form_length_most}
use Rattle.stage_writer.proofs.Storing.{stage_stored, stage_ends}
use Rattle.stage_writer.proofs.stores.put_sheet.Goals as goal

pub put_bytes-requires-2 : goal.put_bytes-requires-2
put_bytes-requires-2 c =
    let s = c.args.stage.now in
    let long : length s.tables ≡ max_wires = search rules in
    let all : s.m ≤ length s.tables = omega (arith, s.few_wires) in
    let most = form_length_most s.kind s.n s.m s.tables all s.few_inputs s.few_wires in
    omega (arith, c.put_wires-at.ensures.past, stage_ends (form_of s.kind) s.n s.m s.tables, most)

pub returns : goal.returns
returns c =
    let s = c.args.stage.now in
    stage_stored (form_of s.kind) s.n s.m s.tables c.put_bytes.ensures c.put_wires-at.ensures c.put_bytes-2.ensures
