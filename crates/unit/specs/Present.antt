-- Document 01, "Unit sheet" and "Cells": the present first stage, as the sheet's own 02 commands tell it.
use Rattle.std.specs.Prelude.{ℕ, zero, ◌^◌, List}
use Rattle.sheet.specs.Limits.{max_wires}
use Rattle.table.specs.Bits.{bit, of_bits, tabulate}
use Rattle.table.specs.Cells.{cells, wires, total}
use Rattle.sheet.specs.declared.Command.{Command}
use Rattle.sheet.specs.Commands.{inputs_of, wires_of}
use Rattle.sheet.specs.Gathered.{present_on}
use Rattle.sheet.specs.Judged.{Reading, holds, refused}

-- the table of wire j: its bit p is the wire's bit in the value on pattern p, 0 where p has no 02
unfoldable pub present_table : List Command → ℕ → ℕ
present_table cs j = of_bits (2 ^ inputs_of cs) (λ p. bit (present_on p cs) j)

unfoldable pub present_tables : Reading → List ℕ
present_tables (holds cs) = tabulate max_wires (present_table cs)
present_tables (refused f) = tabulate max_wires (λ _. zero)

-- the cells of these tables, wire by wire
unfoldable pub present_cells : Reading → ℕ
present_cells (holds cs) = total (cells (inputs_of cs)) (wires_of cs) (wires (present_tables (holds cs)))
present_cells (refused f) = zero
