use Rattle.std.proofs.Common.{◌≡◌, ◌+◌, ◌≤◌, length, get_or, refl, ap, rules, arith}
use Rattle.std.proofs.lemmas.List.{length-append}
use Rattle.sheet.specs.Limits.{max_wires}
use Rattle.stage.specs.Written.{stage_drawn}
use Rattle.diagram.specs.Bytes.{longest_written}
use Rattle.diagram.specs.Forms.{form_of}
use Rattle.diagram.proofs.Forms.{form_length_most}
use Rattle.stage_writer.proofs.Storing.{wires_from, wires_step, wires_end, wire_fits, stored_on}
use Rattle.stage_writer.proofs.stores.put_wires.Goals as goal

pub loop-j-init : goal.loop-j-init
unfolding stage_drawn
loop-j-init c = (refl, refl)

pub put_wire-at-requires : goal.put_wire-at-requires
put_wire-at-requires c =
    let l = c.loop-j in
    let s = c.args.stage.now in
    let i = c.loop-j-test.true in
    let long : length s.tables ≡ max_wires = search rules in
    let all : s.m ≤ length s.tables = omega (arith, s.few_wires) in
    let most = form_length_most s.kind s.n s.m s.tables all s.few_inputs s.few_wires in
    (s.few_inputs, s.in_range l.j i, wire_fits (form_of s.kind) s.n s.m l.j s.tables all l.at longest_written most i l.invariant.1)

pub loop-j-preserved : goal.loop-j-preserved
loop-j-preserved c =
    let l = c.loop-j in
    let s = c.args.stage.now in
    let F = form_of s.kind in
    let long : length s.tables ≡ max_wires = search rules in
    let all : s.m ≤ length s.tables = omega (arith, s.few_wires) in
    let step = wires_step F s.n s.m l.j s.tables all c.loop-j-test.true in
    let x = F.wire_bytes l.j (F.reduced s.n (get_or s.tables l.j 0)) in
    let y = wires_from F s.n s.m (l.j + 1) s.tables in (
      stored_on l.buffer _ x y _ l.at _ c.put_wire-at.ensures (rw step at l.invariant.0),
      omega (arith, l.invariant, c.put_wire-at.ensures.past, ap length step, length-append x y),
    )

pub returns : goal.returns
returns c =
    let l = c.loop-j in
    let s = c.args.stage.now in
    let long : length s.tables ≡ max_wires = search rules in
    let all : s.m ≤ length s.tables = omega (arith, s.few_wires) in
    let e = wires_end (form_of s.kind) s.n s.m l.j s.tables all c.loop-j-test.false in
    record { stored = rw e at l.invariant.0; past = omega (arith, l.invariant, ap length e) }
