-- The words as the cycle of the search keeps them, each in two halves: the half of a word is a number of sixteen bits, the two masks of a wire on eight patterns. The
-- halves of all wires on the same patterns stand one after the other, a row, so that a split changes one row and no more.
use Rattle.std.specs.Prelude.{ℕ, ◌+◌, ◌*◌, ◌-◌, ◌/◌, ◌%◌, ◌^◌, ◌<◌, cond, List, eqb, get_or}
use Rattle.std.specs.Int.Bits.{bit_and}
use Rattle.sheet.specs.Limits.{max_wires}
use Rattle.table.specs.Bits.{tabulate}
use Rattle.table.specs.Inner.Pairs.{narrow_patterns, seat}
use Rattle.lanes.specs.Inner.Lanes.{lane_space, lane_of, lanes_of}
use Rattle.parts.specs.Inner.Pairs.{lost_of}
use Rattle.parts.specs.Inner.Words.{word_count}

-- the patterns of a row
abbrev pub row_patterns : ℕ
row_patterns = narrow_patterns / 2

abbrev pub mask_count : ℕ
mask_count = 2 * word_count

-- where wire j's number in row b stands
abbrev pub mask_place : (b j : ℕ) → ℕ
mask_place b j = b * max_wires + j

-- every number is the half of a word
abbrev pub Halved : List ℕ → Type 0
Halved masks = (i : ℕ) → get_or masks i 0 < lane_space

-- wire j's word on section q: its lower half is in the section's first row, its upper half in the second
unfoldable pub word_from : List ℕ → (q j : ℕ) → ℕ
word_from masks q j = get_or masks (mask_place (2 * q) j) 0 + get_or masks (mask_place (2 * q + 1) j) 0 * lane_space

unfoldable pub words_of : List ℕ → List ℕ
words_of masks = tabulate word_count (λ i. word_from masks (i / max_wires) (i % max_wires))

-- row b with its numbers side by side, and the masks with row b replaced
unfoldable pub mask_row : List ℕ → ℕ → ℕ
mask_row masks b = lanes_of (λ j. get_or masks (mask_place b j) 0)

unfoldable pub with_lanes : List ℕ → (b row : ℕ) → List ℕ
with_lanes masks b row = tabulate mask_count (λ i. cond (eqb (i / max_wires) b) (lane_of row (i % max_wires)) (get_or masks i 0))

-- wire j's number in the row of pattern p once the pattern has the set w, and the whole row
abbrev pub cut_half : (x p w j : ℕ) → ℕ
cut_half x p w j = x - bit_and x (lost_of w j * 2 ^ seat (p % row_patterns))

unfoldable pub cut_row : (row p w : ℕ) → ℕ
cut_row row p w = lanes_of (λ j. cut_half (lane_of row j) p w j)
