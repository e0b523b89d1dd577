-- Document 01, "Unit sheet": the soldered second stage, told by the commands.
use Rattle.std.specs.Prelude.{ℕ, ◌+◌, ◌*◌, ◌%◌, ◌-◌, max, cond, List, [], ◌∷◌, ◌++◌, map, eqb, get_or}
use Rattle.table.specs.Bits.{bit, tabulate}
use Rattle.sheet.specs.declared.Command.{Command}
use Rattle.sheet.specs.declared.LogicGate.{LogicGate}
use Rattle.sheet.specs.Commands.{wires_of, gates_of, outputs_of}

-- two bits under each of the three plain kinds, and a bit inverted
abbrev pub and_bit : ℕ → ℕ → ℕ
and_bit a b = a * b

abbrev pub or_bit : ℕ → ℕ → ℕ
or_bit a b = max a b

abbrev pub xor_bit : ℕ → ℕ → ℕ
xor_bit a b = (a + b) % 2

abbrev pub inverted : ℕ → ℕ
inverted x = 1 - x

-- what a gate of each kind makes of two bits: the three plain kinds, then the same inverted
unfoldable pub gate_bit : ℕ → ℕ → ℕ → ℕ
gate_bit k a b =
    cond (eqb k 0) (and_bit a b)
    (cond (eqb k 1) (or_bit a b)
    (cond (eqb k 2) (xor_bit a b)
    (cond (eqb k 3) (inverted (and_bit a b)) (cond (eqb k 4) (inverted (or_bit a b)) (inverted (xor_bit a b))))))

-- the signals so far, with one gate more
abbrev pub with_gate : List ℕ → LogicGate → List ℕ
with_gate s g = s ++ gate_bit g.kind (get_or s g.left 0) (get_or s g.right 0) ∷ []

-- the same with all gates, each of which may use those before it
unfoldable pub with_gates : List ℕ → List LogicGate → List ℕ
with_gates s [] = s
with_gates s (g ∷ gs) = with_gates (with_gate s g) gs

-- all signals for a wire value: its bits, wire by wire, then the gates
unfoldable pub signals_on : List Command → ℕ → List ℕ
signals_on cs v = with_gates (tabulate (wires_of cs) (bit v)) (gates_of cs)

-- what the unit answers for a wire value: G of document 01's "Relation"
unfoldable pub outputs_for : List Command → ℕ → List ℕ
outputs_for cs v = map (λ s. get_or (signals_on cs v) s 0) (outputs_of cs)
