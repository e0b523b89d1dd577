-- The cells of a table, and the most inputs, by the board that is built.
use Rattle.std.specs.Prelude.{ℕ}
use Rattle.nodes.specs.declared.BoardKind.{BoardKind}
use Rattle.nodes.specs.declared.BoardKind.TheVariants.{Tree, Sharing}
use Rattle.sheet.specs.Limits.{max_inputs, max_shared_inputs}
use Rattle.table.specs.Cells.{cells}
use Rattle.nodes.specs.Nodes.{nodes}

abbrev pub count_of : BoardKind → ℕ → ℕ → ℕ
count_of Tree n = cells n
count_of Sharing n = nodes n

-- document 02, E5: trees have as many inputs as a sheet, and a board that shares selectors has a limit of its own
abbrev pub most_inputs : BoardKind → ℕ
most_inputs Tree = max_inputs
most_inputs Sharing = max_shared_inputs
