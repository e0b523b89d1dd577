-- Five and six inputs (document 02, E5): two pairs of masks, or four, of sixteen patterns each, the first for the lowest patterns.
use Rattle.std.specs.Prelude.{ℕ, ◌+◌, ◌*◌, ◌/◌, ◌^◌, Bool, ◌&&◌, eqb}
use Rattle.std.specs.Int.Bits.{bit_and, bit_or}
use Rattle.sheet.specs.Limits.{max_inputs, max_patterns}
use Rattle.table.specs.Inner.Ranks.{narrow_space}
use Rattle.table.specs.Inner.Pairs.{narrow_inputs, narrow_patterns, upper_half, zeros_in, ones_in}
use Rattle.table.specs.Inner.Blocks.{PickShown}

-- a section of a table is its bits on narrow_patterns patterns: so many sections of the largest
abbrev pub sections : ℕ
sections = max_patterns / narrow_patterns

-- above every table of five inputs, and of six
abbrev pub five_space : ℕ
five_space = 2 ^ (2 ^ (narrow_inputs + 1))

abbrev pub six_space : ℕ
six_space = 2 ^ (2 ^ max_inputs)

-- two masks of four inputs side by side, the first below; and four of them
unfoldable pub two_masks : (a b : ℕ) → ℕ
two_masks a b = b * narrow_space + a

unfoldable pub four_masks : (a b c d : ℕ) → ℕ
four_masks a b c d = two_masks c d * five_space + two_masks a b

-- all seats of a pair for patterns that can be 0, and for those that can be 1
abbrev pub zero_seats : ℕ
zero_seats = 0xF0F0F0F0

abbrev pub one_seats : ℕ
one_seats = 0x0F0F0F0F

-- a pair has all of some seats
abbrev pub has_seats : (pair seats : ℕ) → Bool
has_seats pair seats = eqb (bit_and pair seats) seats

-- every pattern of a pair can be 0 or 1
abbrev pub all_covered : ℕ → Bool
all_covered pair = has_seats (bit_or pair (pair / upper_half)) one_seats

-- the line of the first input suits: all of the lower half can be 0, and all of the upper half 1
abbrev pub line_fits : (low high : ℕ) → Bool
line_fits low high = has_seats low zero_seats && has_seats high one_seats

-- a number shows the least table of five inputs between the masks of two pairs
abbrev pub FiveShown : (low high x : ℕ) → Type 0
FiveShown low high = PickShown (narrow_inputs + 1) five_space (two_masks (zeros_in low) (zeros_in high)) (two_masks (ones_in low) (ones_in high))

-- the same of six inputs and four pairs
abbrev pub SixShown : (a b c d x : ℕ) → Type 0
SixShown a b c d =
    PickShown max_inputs six_space (four_masks (zeros_in a) (zeros_in b) (zeros_in c) (zeros_in d)) (four_masks (ones_in a) (ones_in b) (ones_in c) (ones_in d))

-- the first of five inputs, and of six, as numbers that show it: its key is 1
abbrev pub line_of_five : ℕ
line_of_five = five_space + 0xFFFF0000

abbrev pub line_of_six : ℕ
line_of_six = six_space + 0xFFFFFFFF00000000
