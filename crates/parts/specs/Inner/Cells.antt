-- The cells of all wires in one number: a byte for each wire.
use Rattle.std.specs.Prelude.{ℕ, ◌+◌, ◌*◌, ◌-◌, ◌/◌, ◌%◌, ◌^◌}
use Rattle.sheet.specs.Limits.{max_wires}
use Rattle.table.specs.Bits.{sum}

-- more than the cells of any board's wires together
abbrev pub cell_space : ℕ
cell_space = 256

unfoldable pub packed : (ℕ → ℕ) → ℕ
packed f = sum max_wires (λ j. f j * cell_space ^ j)

-- the cells of wire j
unfoldable pub byte_in : ℕ → ℕ → ℕ
byte_in cells j = cells / cell_space ^ j % cell_space

-- the cells once wire j has k
unfoldable pub put_cells : (cells j k : ℕ) → ℕ
put_cells cells j k = cells - byte_in cells j * cell_space ^ j + k * cell_space ^ j

-- all wires' cells together: the floor
unfoldable pub cells_sum : ℕ → ℕ
cells_sum cells = sum max_wires (byte_in cells)
