-- The gates and the outputs of a sheet name signals that are made before them, and are not too many.
use Prim.Native.Nat.{ℕ, ◌+◌, ◌<◌, ◌≤◌}
use mathlib.Core.Path.{◌≡◌}
use mathlib.Core.Logic.{⊎_elim}
use mathlib.Core.List.{List, [], ◌∷◌, ◌++◌, append-nil}
use native.Mathlib.Nat.{not-suc-le-zero}
use native.Mathlib.Numerals.{add-one}
use native.Mathlib.Omega.{arith}
use lib.Dec.{leb}
use lib.ListN.{length, get_or, length-append, get_or-append}
use lib.Seq.{get_or-append_seam}
use borrow.Author.Tests.{leb-false, ltb-false}
use Rattle.base.proofs.Tests.{below_suc, neither}
use Rattle.sheet.specs.declared.Command.{Command}
use Rattle.sheet.specs.declared.Command.TheVariants.{End, Sizes, Row, DontCare, Gate, Output, Limit}
use Rattle.sheet.specs.declared.LogicGate.{LogicGate}
use Rattle.sheet.specs.Commands.{collect, gate_in, output_in, no_gate, gates_of, signals_made, outputs_of, wires_of}
use Rattle.reader.specs.Reader.{last_kind}
use Rattle.sheet.specs.Limits.{max_gates, max_outputs}
use Rattle.sheet.proofs.Lists.{collect_snoc}
use Rattle.base.specs.Each.{Each}
use Rattle.base.proofs.Each.{each_append, each_weaken}
use Rattle.reader.proofs.Passages.{InOrder}
use Rattle.reader.proofs.Opening.{by_opening}

-- gate i of a sheet of m wires is of a known kind, on signals made before it
pub record Wired (m i : ℕ) (g : LogicGate) : Type 0 where
  pub kind_known : g.kind ≤ last_kind
  pub left_made : g.left < m + i
  pub right_made : g.right < m + i

-- the gates of a sheet of m wires
pub record GatesWired (m : ℕ) (gs : List LogicGate) : Type 0 where
  pub few : length gs ≤ max_gates
  pub wired : (i : ℕ) → i < length gs → Wired m i (get_or gs i no_gate)

-- the outputs of a sheet with so many signals
pub record OutputsMade (made : ℕ) (os : List ℕ) : Type 0 where
  pub few : length os ≤ max_outputs
  pub made_before : Each (λ s. s < made) os

no_gates : (m : ℕ) → GatesWired m []
no_gates m = record { few = omega arith; wired = λ i h. absurd (not-suc-le-zero h) }

one_gate_more : (m : ℕ) (gs : List LogicGate) (g : LogicGate) → GatesWired m gs → length gs < max_gates → Wired m (length gs) g → GatesWired m (gs ++ g ∷ [])
one_gate_more m gs g p l w =
    record {
      few = simp length-append (omega arith);
      wired = λ i h.
          ⊎_elim (λ (e : i ≡ length gs). rw e (rw (get_or-append_seam gs g [] no_gate) w))
          (λ (b : i < length gs). rw (get_or-append gs (g ∷ []) no_gate i b) (p.wired i b))
          (below_suc (rw add-one at (simp length-append at h)));
    }

-- the gates with what one command adds
gates_with : (before : List Command) (c : Command) → GatesWired (wires_of before) (gates_of before)
    → InOrder before c → GatesWired (wires_of before) (gates_of before ++ gate_in c)
gates_with before (Gate k a b) p o =
    let made = neither (leb (signals_made before) a) (leb (signals_made before) b) o.made in
    one_gate_more (wires_of before) (gates_of before) (record { kind = k; left = a; right = b }) p
    (leb-false max_gates (length (gates_of before)) o.room)
    (record {
      kind_known = ltb-false last_kind k o.in_range;
      left_made = leb-false (signals_made before) a made.0;
      right_made = leb-false (signals_made before) b made.1;
    })
gates_with before End p o = rw (append-nil (gates_of before)) p
gates_with before (Sizes n m) p o = rw (append-nil (gates_of before)) p
gates_with before (Row q v) p o = rw (append-nil (gates_of before)) p
gates_with before (DontCare q) p o = rw (append-nil (gates_of before)) p
gates_with before (Output s) p o = rw (append-nil (gates_of before)) p
gates_with before (Limit q w) p o = rw (append-nil (gates_of before)) p

abbrev pub Gates : List Command → Type 0
Gates cs = GatesWired (wires_of cs) (gates_of cs)

pub gates_more : (before : List Command) (c : Command) → Gates before → InOrder before c → Gates (before ++ c ∷ [])
unfolding collect
gates_more before c p o = by_opening Gates before c o (λ n m _. no_gates m) (λ _ i w. rw (w, collect_snoc gate_in before c) (gates_with before c p o))

-- the outputs with what one command adds
outputs_with : (before : List Command) (c : Command) → OutputsMade (signals_made before) (outputs_of before) → InOrder before c
    → OutputsMade (wires_of before + length (gates_of before ++ gate_in c)) (outputs_of before ++ output_in c)
outputs_with before (Output s) p o =
    rw (append-nil (gates_of before))
    (record {
      few = simp length-append (omega (arith, p.few, leb-false max_outputs (length (outputs_of before)) o.room));
      made_before = each_append _ (outputs_of before) (s ∷ []) p.made_before (leb-false (signals_made before) s o.made, tt);
    })
outputs_with before (Gate k a b) p o =
    rw (append-nil (outputs_of before))
    (record {
      few = p.few;
      made_before = each_weaken (λ s. s < signals_made before) _ (λ s h. simp length-append (omega arith)) (outputs_of before) p.made_before;
    })
outputs_with before End p o = rw (append-nil (gates_of before), append-nil (outputs_of before)) p
outputs_with before (Sizes n m) p o = rw (append-nil (gates_of before), append-nil (outputs_of before)) p
outputs_with before (Row q v) p o = rw (append-nil (gates_of before), append-nil (outputs_of before)) p
outputs_with before (DontCare q) p o = rw (append-nil (gates_of before), append-nil (outputs_of before)) p
outputs_with before (Limit q w) p o = rw (append-nil (gates_of before), append-nil (outputs_of before)) p

abbrev pub Outputs : List Command → Type 0
Outputs cs = OutputsMade (signals_made cs) (outputs_of cs)

pub outputs_more : (before : List Command) (c : Command) → Outputs before → InOrder before c → Outputs (before ++ c ∷ [])
unfolding collect
outputs_more before c p o =
    by_opening Outputs before c o (λ n m _. record { few = omega arith; made_before = tt })
    (λ _ i w. rw (w, collect_snoc gate_in before c, collect_snoc output_in before c) (outputs_with before c p o))
