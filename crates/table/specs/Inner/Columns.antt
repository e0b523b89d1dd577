-- The values that have a wire at a bit, as a set.
use Rattle.std.specs.Prelude.{ℕ, eqb}
use Rattle.sheet.specs.Limits.{max_values}
use Rattle.table.specs.Bits.{bit, of_bits, is_one}

-- the values that have bit j at b
unfoldable pub column_of : ℕ → ℕ → ℕ
column_of j b = of_bits max_values (λ v. is_one (eqb (bit v j) b))
