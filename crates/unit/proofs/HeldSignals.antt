-- The signals of a sheet that was read: each wire and each gate has its place.
use Prim.Native.Nat.{ℕ, ◌+◌, ◌<◌, ◌≤◌}
use mathlib.Core.Path.{◌≡◌, sym, ◌∙◌, subst}
use mathlib.Core.List.{List}
use native.Mathlib.Nat.{lt_of_lt_of_le}
use native.Mathlib.Omega.{arith}
use lib.ListN.{length, get_or}
use Rattle.sheet.specs.Limits.{max_wires, max_gates, max_outputs}
use Rattle.table.specs.Bits.{bit, tabulate}
use Rattle.sheet.specs.declared.Command.{Command}
use Rattle.sheet.specs.declared.Sheet.{Sheet}
use Rattle.sheet.specs.Commands.{no_gate, wires_of, gates_of, signals_made}
use Rattle.sheet.specs.Gathered.{gathered}
use Rattle.sheet.proofs.Fields.{wires_field, gates_field}
use Rattle.reader.specs.Inner.WasRead.{WasRead}
use Rattle.reader.proofs.Sound.{Sound}
use Rattle.reader.proofs.Placed.{gate_of, gate_held_lem, held_sound, placed}
use Rattle.unit.specs.Gates.{signals_on}
use Rattle.unit.proofs.Signals.{up_to, up_to_cong, gates_up_to}

-- room for a signal of each wire and of each gate
abbrev pub max_signals : ℕ
max_signals = max_wires + max_gates

module _ (cs : List Command) (s : Sound cs) where
  -- the signals of the commands are those of the sheet's lists
  signals_all : (v : ℕ) → signals_on cs v ≡ up_to (tabulate (gathered cs).m (bit v)) (gate_of (gathered cs)) (gathered cs).gate_count
  unfolding signals_on
  signals_all v =
      rw (wires_field cs, gates_field cs)
      (gates_up_to (tabulate (wires_of cs) (bit v)) (gates_of cs)
      ∙ up_to_cong (tabulate (wires_of cs) (bit v)) (λ i. get_or (gates_of cs) i no_gate) (gate_of (gathered cs)) (length (gates_of cs))
      (λ i l. sym (gate_held_lem cs s i l)))

module _ {sheet : Sheet} (h : WasRead sheet) where
  -- each gate and each output, and the signals that they name, have room
  pub gate_room : (i : ℕ) → i < sheet.gate_count → i < max_gates
  gate_room i l = lt_of_lt_of_le l (placed h).few_gates

  signal_room : {s : ℕ} (i : ℕ) → i ≤ sheet.gate_count → s < sheet.m + i → s < max_signals
  signal_room i l b = omega (arith, (placed h).few_wires, (placed h).few_gates)

  pub sources_room : (i : ℕ) → i < sheet.gate_count → ((gate_of sheet i).left < max_signals) × ((gate_of sheet i).right < max_signals)
  sources_room i l =
      let w = (placed h).wired i l in
      let b : i ≤ sheet.gate_count = omega arith in
      (signal_room i b w.left_made, signal_room i b w.right_made)

  pub output_room : (i : ℕ) → i < sheet.output_count → i < max_outputs
  output_room i l = lt_of_lt_of_le l (placed h).few_outputs

  pub output_made : (i : ℕ) → i < sheet.output_count → get_or sheet.signals i 0 < max_signals
  output_made i l = signal_room sheet.gate_count (omega arith) ((placed h).made i l)

  pub signals_is : (v : ℕ) → signals_on h.commands v ≡ up_to (tabulate sheet.m (bit v)) (gate_of sheet) sheet.gate_count
  signals_is v =
      subst (λ x. signals_on h.commands v ≡ up_to (tabulate x.m (bit v)) (gate_of x) x.gate_count) (sym h.gathers)
      (signals_all h.commands (held_sound h) v)

  pub signals_made_lem : signals_made h.commands ≡ sheet.m + sheet.gate_count
  signals_made_lem =
      subst (λ x. signals_made h.commands ≡ x.m + x.gate_count) (sym h.gathers)
      (sym (rw (wires_field h.commands, gates_field h.commands)))
