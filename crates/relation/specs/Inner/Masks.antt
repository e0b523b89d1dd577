-- Sets of patterns as numbers: the projection on a wire as masks.
use Rattle.std.specs.Prelude.{ℕ, ◌*◌, ◌-◌, ◌^◌, Bool, true, false, List}
use Rattle.sheet.specs.Limits.{max_wires, max_patterns}
use Rattle.table.specs.Bits.{bit, of_bits, is_one}
use Rattle.relation.specs.Tests.{of_sets, occurs}

-- the patterns on which some value has wire j at b: bit p is pattern p
unfoldable pub mask_of : List ℕ → ℕ → ℕ → ℕ
mask_of sets j b = of_bits max_patterns (λ p. is_one (occurs max_wires (of_sets sets p) j b))

-- mask x with pattern p taken out unless the test holds
unfoldable pub cut : ℕ → ℕ → Bool → ℕ
cut x p true = x
cut x p false = x - bit x p * 2 ^ p
