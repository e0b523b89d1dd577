-- Laws of the cells of a table on either board.
use Prim.Native.Nat.{ℕ, ◌^◌, ◌<◌, ◌≤◌}
use mathlib.Core.Path.{◌≡◌, refl}
use mathlib.Core.Logic.{inl}
use native.Mathlib.Omega.{arith}
use Rattle.sheet.specs.Limits.{max_inputs}
use Rattle.nodes.specs.declared.BoardKind.{BoardKind}
use Rattle.nodes.specs.declared.BoardKind.TheVariants.{Tree, Sharing}
use Rattle.table.proofs.Cells.{constant_cells, cells_lt}
use Rattle.nodes.specs.Counts.{count_of, most_inputs}
use Rattle.nodes.proofs.Halved.{nodes_zero, nodes_lt}

-- the table of zeros has none
pub count_zero : (kind : BoardKind) (n : ℕ) → count_of kind n 0 ≡ 0
count_zero Tree n = constant_cells n 0 (inl refl)
count_zero Sharing n = nodes_zero n

-- and no table has as many as patterns
pub count_lt : (kind : BoardKind) (n t : ℕ) → count_of kind n t < 2 ^ n
count_lt Tree n t = cells_lt n t
count_lt Sharing n t = nodes_lt n t

-- no board has more inputs than a sheet
pub most_inputs_lem : (kind : BoardKind) → most_inputs kind ≤ max_inputs
most_inputs_lem Tree = omega arith
most_inputs_lem Sharing = omega arith
