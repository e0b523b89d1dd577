-- The line of an input, soldered through (document 02, E4), as the pick finds it.
use Rattle.std.specs.Prelude.{ℕ, ◌*◌, ◌^◌, cond, eqb}
use Rattle.std.specs.Int.Bits.{bit_and}
use Rattle.table.specs.Cells.{full}

-- the table of r + 1 inputs that is the first of them
unfoldable pub line : ℕ → ℕ
line r = full r * 2 ^ (2 ^ r)

-- what a pair needs for the first of three inputs to suit, and of four: the zeros of the lower half and the ones of the upper half
abbrev pub needs_of_three : ℕ
needs_of_three = 0x0FF0

abbrev pub needs_of_four : ℕ
needs_of_four = 0x0F0FF0F0

-- a line where the pair has what it needs, and another number where it does not
abbrev pub line_by : (pair needed table other : ℕ) → ℕ
line_by pair needed table other = cond (eqb (bit_and pair needed) needed) table other
