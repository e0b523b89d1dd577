use borrow.Author.Rules.{rules}
use mathlib.Core.Path.{refl, sym, ap, ◌∙◌}
use mathlib.Core.Logic.{⊎_elim}
use native.Mathlib.Omega.{arith}
use lib.Dec.{ltb, ltb→lt, nltb→le}
use lib.ListN.{get_or, length-set}
use lib.Seq.{get_or-set_other}
use Rattle.base.proofs.Tests.{decide}
use Rattle.base.proofs.Tabulate.{filled_more, zeros_entry}
use Rattle.table.specs.Bits.{bit, tabulate}
use Rattle.table.proofs.Bits.{zero_bit}
use Rattle.sheet.specs.Limits.{max_outputs}
use Rattle.unit.proofs.HeldSignals.{output_room, output_made}
use Rattle.unit.proofs.Outputs.{output_is, output_past}
use Rattle.unit.proofs.gates.output_words.Goals as goal

pub loop-i-init : goal.loop-i-init
unfolding tabulate
loop-i-init c = (λ k l. absurd (omega arith), λ k _. zeros_entry max_outputs k, omega arith, search rules)

pub bounds-numbers-at : goal.bounds-numbers-at
bounds-numbers-at c = let b = output_room c.requires c.loop-i.i (omega arith) in omega arith

pub offset_bounds-signals-numbers : goal.offset_bounds-signals-numbers
offset_bounds-signals-numbers c = omega (arith, output_made c.requires c.loop-i.i (omega arith))

pub bounds-signals-numbers : goal.bounds-signals-numbers
bounds-signals-numbers c = output_made c.requires c.loop-i.i (omega arith)

pub bounds-words-at : goal.bounds-words-at
bounds-words-at c = output_room c.requires c.loop-i.i (omega arith)

pub loop-i-preserved : goal.loop-i-preserved
loop-i-preserved c =
    let l = c.loop-i in
    let x = get_or c.signal_words-signals.result (get_or c.args.sheet.signals l.i 0) 0 in
    let b = output_room c.requires l.i (omega arith) in (
      filled_more (λ k. get_or c.signal_words-signals.result (get_or c.args.sheet.signals k 0) 0) l.words l.i x
          (omega arith) l.invariant.0 refl,
      λ k d. get_or-set_other l.words l.i k x 0 (λ e. omega arith) ∙ l.invariant.1 k (omega arith),
      omega arith,
      simp length-set l.invariant.3,
    )

pub returns : goal.returns
returns c =
    let a = c.args in
    let l = c.loop-i in
    let s = c.signal_words-signals in
    λ h i v b d.
    ⊎_elim (λ t. ap (λ x. bit x v) (l.invariant.0 i (ltb→lt i l.i t)) ∙ output_is h s.result (s.ensures h) i v (omega (arith, ltb→lt i l.i t)) d)
    (λ t.
    let past = nltb→le i l.i t in
    ap (λ x. bit x v) (l.invariant.1 i past) ∙ zero_bit v ∙ sym (output_past h i v (omega (arith, past))))
    (decide (ltb i l.i))
