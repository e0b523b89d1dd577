-- Truth tables as the stage reader makes them.
use Rattle.std.specs.Prelude.{ℕ, ◌^◌, ◌-◌, cond, eqb}
use Rattle.sheet.specs.Limits.{max_patterns}
use Rattle.table.specs.Bits.{bit, of_bits}

-- the truth table of the input whose bit of a pattern is bit j
unfoldable pub input_table : ℕ → ℕ
input_table j = of_bits max_patterns (λ p. bit p j)

-- the truth table of a selector on input i, from the tables of its two branches
unfoldable pub select_of : ℕ → ℕ → ℕ → ℕ → ℕ
select_of n i off on = of_bits (2 ^ n) (λ p. cond (eqb (bit p (n - i)) 0) (bit off p) (bit on p))
