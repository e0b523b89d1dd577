use borrow.Author.Rules.{rules}
use mathlib.Core.Path.{◌≡◌, sym, ap, ◌∙◌}
use native.Mathlib.Omega.{arith}
use lib.ListN.{get_or, length-set}
use Rattle.table.specs.Bits.{bit, tabulate}
use Rattle.table.proofs.Bits.{tabulate_length, tabulate_at}
use Rattle.unit.proofs.Signals.{up_to, gate_more}
use Rattle.reader.proofs.Placed.{gate_of, placed}
use Rattle.unit.proofs.HeldSignals.{gate_room, sources_room, signals_is, signals_made_lem}
use Rattle.unit.proofs.gates.signal_words.Goals as goal

pub loop-i-init : goal.loop-i-init
unfolding up_to
loop-i-init c =
    let a = c.args in
    let h = placed c.requires in (
      omega arith,
      search rules,
      λ v b q l. c.wire_words-signals.ensures q v (omega (arith, h.few_wires)) b ∙ sym (tabulate_at a.sheet.m (bit v) q (omega arith)),
    )

pub bounds-gates-i : goal.bounds-gates-i
bounds-gates-i c = gate_room c.requires c.loop-i.i (omega arith)

pub bounds-signals-gate : goal.bounds-signals-gate
bounds-signals-gate c = let b = sources_room c.requires c.loop-i.i (omega arith) in omega arith

pub bounds-signals-gate-in-loop-i : goal.bounds-signals-gate-in-loop-i
bounds-signals-gate-in-loop-i c = let b = sources_room c.requires c.loop-i.i (omega arith) in omega arith

pub overflow_add-signals : goal.overflow_add-signals
overflow_add-signals c =
    let h = placed c.requires in
    omega (arith, h.few_wires, h.few_gates)

pub bounds-signals-m : goal.bounds-signals-m
bounds-signals-m c =
    let h = placed c.requires in
    omega (arith, h.few_wires, h.few_gates)

pub loop-i-preserved : goal.loop-i-preserved
loop-i-preserved c =
    let a = c.args in
    let l = c.loop-i in
    let h = placed c.requires in
    let w = h.wired l.i (omega arith) in (
      omega arith,
      simp length-set l.invariant.1,
      λ v b.
          gate_more (tabulate a.sheet.m (bit v)) (gate_of a.sheet) a.sheet.m l.i (tabulate_length a.sheet.m (bit v)) l.signals
          (omega (arith, h.few_wires, h.few_gates)) v (l.invariant.2 v b) c.gate_word.result w.left_made w.right_made
          (c.gate_word.ensures w.kind_known v b),
    )

pub returns : goal.returns
returns c =
    let a = c.args in
    let l = c.loop-i in
    let e : l.i ≡ a.sheet.gate_count = omega arith in
    λ h s v b d.
    l.invariant.2 v d s (rw e (rw (signals_made_lem h) at b))
    ∙ sym (ap (λ x. get_or x s 0) (signals_is h v ∙ ap (up_to (tabulate a.sheet.m (bit v)) (gate_of a.sheet)) (sym e)))
