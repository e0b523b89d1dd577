-- Sets of values as numbers: a value's own bit says that it is there.
use Rattle.std.specs.Prelude.{ℕ, Bool, eqb}
use Rattle.std.specs.Int.Bits.{bit_and}
use Rattle.table.specs.Bits.{bit}
use Rattle.table.specs.Inner.Columns.{column_of}

-- value v is in the set whose number is w
unfoldable pub member : ℕ → ℕ → Bool
member w v = eqb (bit w v) 1

-- the values of w that have wire j at b
unfoldable pub with_bit : ℕ → ℕ → ℕ → ℕ
with_bit w j b = bit_and w (column_of j b)
