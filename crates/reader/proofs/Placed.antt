-- What is known of a sheet that was read: sizes, gates and outputs are in place.
use Prim.Native.Nat.{ℕ, ◌+◌, ◌<◌, ◌≤◌}
use mathlib.Core.Path.{◌≡◌, sym, subst}
use mathlib.Core.List.{List}
use native.Mathlib.Nat.{lt_of_lt_of_le}
use lib.ListN.{length, get_or}
use Rattle.base.proofs.Each.{each_get_d}
use Rattle.sheet.specs.Limits.{max_inputs, max_wires, max_gates, max_outputs}
use Rattle.sheet.specs.declared.Command.{Command}
use Rattle.sheet.specs.declared.Sheet.{Sheet}
use Rattle.sheet.specs.declared.LogicGate.{LogicGate}
use Rattle.sheet.specs.Commands.{no_gate, gates_of, outputs_of, signals_made}
use Rattle.sheet.specs.Gathered.{gathered, gate_at}
use Rattle.sheet.proofs.Fields.{inputs_field, wires_field, gates_field, outputs_field, gate_field, output_field}
use Rattle.reader.specs.Inner.WasRead.{WasRead}
use Rattle.reader.proofs.Sound.{Sound, sound}
use Rattle.reader.proofs.Wiring.{Wired}

-- the gate in place i
abbrev pub gate_of : Sheet → ℕ → LogicGate
gate_of sheet i = get_or sheet.gates i no_gate

pub record Placed (sheet : Sheet) : Type 0 where
  pub few_inputs : sheet.n ≤ max_inputs
  pub few_wires : sheet.m ≤ max_wires
  pub few_gates : sheet.gate_count ≤ max_gates
  pub wired : (i : ℕ) → i < sheet.gate_count → Wired sheet.m i (gate_of sheet i)
  pub few_outputs : sheet.output_count ≤ max_outputs
  pub made : (i : ℕ) → i < sheet.output_count → get_or sheet.signals i 0 < sheet.m + sheet.gate_count

module _ (cs : List Command) (s : Sound cs) where
  pub gate_held_lem : (i : ℕ) → i < length (gates_of cs) → gate_of (gathered cs) i ≡ gate_at i cs
  gate_held_lem i h = gate_field cs i (lt_of_lt_of_le h s.gates.few)

  pub placed_all : Placed (gathered cs)
  placed_all =
      record {
        few_inputs = rw (inputs_field cs) s.sizes.n_most;
        few_wires = rw (wires_field cs) s.sizes.m_most;
        few_gates = rw (gates_field cs) s.gates.few;
        wired = λ i h.
            let l : i < length (gates_of cs) = rw (gates_field cs) at h in
            rw (wires_field cs, gate_held_lem i l) (s.gates.wired i l);
        few_outputs = rw (outputs_field cs) s.outputs.few;
        made = λ i h.
            let l : i < length (outputs_of cs) = rw (outputs_field cs) at h in
            rw (wires_field cs, gates_field cs, output_field cs i (lt_of_lt_of_le l s.outputs.few))
            (each_get_d (λ x. x < signals_made cs) (outputs_of cs) 0 s.outputs.made_before i l);
      }

module _ {sheet : Sheet} (h : WasRead sheet) where
  abbrev pub held_sound : Sound h.commands
  held_sound = sound h.bytes h.commands h.held

  pub placed : Placed sheet
  placed = subst Placed (sym h.gathers) (placed_all h.commands held_sound)
