-- What is gathered from the commands of a sheet.
use Rattle.std.specs.Prelude.{ℕ, cond, List, [], ◌∷◌, length, get_or}
use Rattle.std.specs.Int.Bits.{bit_and}
unfoldable pub use Rattle.base.specs.Tabulate.{tabulate}
use Rattle.sheet.specs.declared.Command.{Command}
use Rattle.sheet.specs.declared.Sheet.{Sheet}
use Rattle.sheet.specs.Limits.{max_patterns, max_gates, max_outputs, all_ones}
use Rattle.sheet.specs.declared.LogicGate.{LogicGate}
use Rattle.sheet.specs.Commands.{inputs_of, wires_of, rows_on, has_row, is_dont_care, no_gate, gates_of, outputs_of, limits_on}

-- a pattern's mark: it has neither 02 nor 03, it has a 02, it has a 03
abbrev pub no_mark : ℕ
no_mark = 0

abbrev pub row_mark : ℕ
row_mark = 1

abbrev pub dont_care_mark : ℕ
dont_care_mark = 2

abbrev pub mark_on : ℕ → List Command → ℕ
mark_on p cs = cond (is_dont_care p cs) dont_care_mark (cond (has_row p cs) row_mark no_mark)

-- the present value on pattern p; 0 where it has no 02
abbrev pub present_on : ℕ → List Command → ℕ
present_on p cs = get_or (rows_on p cs) 0 0

-- a set and others, intersected
unfoldable pub meet : ℕ → List ℕ → ℕ
meet w [] = w
meet w (x ∷ xs) = meet (bit_and w x) xs

-- what all 06 for a pattern permit together, out of all values
abbrev pub limit_on : ℕ → List Command → ℕ
limit_on p cs = meet (all_ones (wires_of cs)) (limits_on p cs)

-- gate i; all 0 past the last
abbrev pub gate_at : ℕ → List Command → LogicGate
gate_at i cs = get_or (gates_of cs) i no_gate

-- output i; 0 past the last
abbrev pub output_at : ℕ → List Command → ℕ
output_at i cs = get_or (outputs_of cs) i 0

-- what the commands say: n and m; for each pattern its mark, its present value and its permitted values; the gates and the outputs in order
unfoldable pub gathered : List Command → Sheet
gathered cs =
    record {
      n = inputs_of cs;
      m = wires_of cs;
      marks = tabulate max_patterns (λ p. mark_on p cs);
      values = tabulate max_patterns (λ p. present_on p cs);
      limits = tabulate max_patterns (λ p. limit_on p cs);
      gate_count = length (gates_of cs);
      gates = tabulate max_gates (λ i. gate_at i cs);
      output_count = length (outputs_of cs);
      signals = tabulate max_outputs (λ i. output_at i cs);
    }
