-- The two masks of a wire in one number: a byte for each block of four patterns, the patterns that can be 0 in its upper half,
-- those that can be 1 in its lower.
-- Each byte is so the place of a block, and a pick starts with no work on the masks.
use Rattle.std.specs.Prelude.{ℕ, ◌+◌, ◌*◌, ◌/◌, ◌%◌, ◌^◌}
use Rattle.table.specs.Bits.{bit, sum, of_bits}

-- up to so many inputs the masks of a wire are one number; of more inputs they are one number for each so many patterns
abbrev pub narrow_inputs : ℕ
narrow_inputs = 4

abbrev pub narrow_patterns : ℕ
narrow_patterns = 2 ^ narrow_inputs

-- a block is of two inputs: so many patterns, a bit for each in either half of a byte
abbrev pub block_patterns : ℕ
block_patterns = 4

-- the masks of a block, and its tables, are the numbers below this
abbrev pub block_space : ℕ
block_space = 2 ^ block_patterns

-- what the lowest bit of the upper half counts for
abbrev pub upper_half : ℕ
upper_half = block_space

-- the bits of a byte: both masks of a block
abbrev pub byte_bits : ℕ
byte_bits = 2 * block_patterns

-- the bits of the number: two for each pattern
abbrev pub pair_bits : ℕ
pair_bits = 2 * narrow_patterns

-- the bit of pattern p among those that can be 1; half a byte above it stands the pattern among those that can be 0
unfoldable pub seat : ℕ → ℕ
seat p = p / block_patterns * byte_bits + p % block_patterns

-- the mask of the patterns that can be 0, and of those that can be 1
unfoldable pub zeros_in : ℕ → ℕ
zeros_in pair = of_bits narrow_patterns (λ p. bit pair (seat p + block_patterns))

unfoldable pub ones_in : ℕ → ℕ
ones_in pair = of_bits narrow_patterns (λ p. bit pair (seat p))

-- the number of two masks
unfoldable pub paired : (zeros ones : ℕ) → ℕ
paired zeros ones = sum narrow_patterns (λ p. (bit ones p + upper_half * bit zeros p) * 2 ^ seat p)
