-- What the functions of `picks` give on the way to the pick of a table of four inputs, from the table of the best quarters.
use Rattle.std.specs.Prelude.{ℕ, zero, suc, ◌+◌, ◌*◌, ◌^◌, ◌/◌, ◌%◌, ◌-◌, min, cond, List, [], ◌∷◌, eqb}
use Rattle.std.specs.Int.Bits.{bit_and, bit_or}
use Rattle.table.specs.Inner.Ranks.{narrow_space}
use Rattle.table.specs.Inner.Pairs.{block_space, byte_bits, pair_bits}
use Rattle.table.specs.Inner.Blocks.{entries, three_space, no_table, no_entry, best_at}
use Rattle.nodes.specs.Inner.Tops.{top_price, four_times}

-- a selector, in a rank
abbrev pub one_node : ℕ
one_node = narrow_space

-- the places of quarters in a table of four inputs: digits to the base block_space
abbrev pub place_of : ℕ → ℕ
place_of j = block_space ^ j

abbrev pub all_places : ℕ
all_places = 0x1111

-- the bits of a rank that count selectors
abbrev pub all_nodes : ℕ
all_nodes = 0xffff0000

-- the entry of the masks in the lowest byte of `at`
unfoldable pub quarter_entry_at : ℕ → ℕ
quarter_entry_at at = four_times (best_at top_price (at % entries))

-- the entry at the places of a class, which are cut out
unfoldable pub class_at : (at places : ℕ) → ℕ
class_at at places = bit_and (quarter_entry_at at) (all_nodes + places * (block_space - 1))

-- no class gives more
abbrev pub most_class : ℕ
most_class = no_entry * three_space + three_space

abbrev pub apart_at : (x y i j : ℕ) → ℕ
apart_at x y i j = class_at x i + class_at y j

-- a constant quarter of ones
abbrev pub ones_quarter : ℕ
ones_quarter = block_space - 1

-- more than the rank of any table
abbrev pub no_line : ℕ
no_line = no_table * one_node

-- The line of an input, which is soldered through: constant 0 in the quarters of a class, of masks x, and constant 1 in those of another, of masks y at the
-- places j. No selector counts.
unfoldable pub line_at : (x y j : ℕ) → ℕ
line_at x y j = cond (eqb (bit_and (x / block_space) y % block_space) ones_quarter) (j * ones_quarter) no_line

abbrev pub half_at : (x y i j : ℕ) → ℕ
half_at x y i j = min (min (class_at (bit_and x y) (i + j)) (line_at x y j)) (one_node + apart_at x y i j)

abbrev pub four : (a b c d : ℕ) → ℕ → ℕ
four a b c d zero = a
four a b c d (suc zero) = b
four a b c d (suc (suc zero)) = c
four a b c d (suc (suc (suc j))) = d

-- a class of quarters, the last first: what may stand in all of them, and their places
abbrev pub together : (ℕ → ℕ) → List ℕ → ℕ
together byte [] = zero
together byte (j ∷ []) = byte j
together byte (j ∷ (k ∷ js)) = bit_and (together byte (k ∷ js)) (byte j)

abbrev pub places : List ℕ → ℕ
places [] = zero
places (j ∷ js) = places js + place_of j

abbrev pub class_in : (ℕ → ℕ) → List ℕ → ℕ
class_in byte js = class_at (together byte js) (places js)

abbrev pub line_in : (ℕ → ℕ) → (zeros ones : List ℕ) → ℕ
line_in byte js ks = line_at (together byte js) (together byte ks) (places ks)

-- the masks of the quarters of a pair, each in the lowest byte
abbrev pub quarter_bytes : ℕ → ℕ → ℕ
quarter_bytes w = four w (w / 2 ^ byte_bits) (w / 2 ^ (2 * byte_bits)) (w / 2 ^ (3 * byte_bits))

-- The least over the ways in which quarters coincide, from what the classes give, and over the lines, with no selectors on input 4.
module _ (F : List ℕ → ℕ) where
  abbrev pub one : ℕ → ℕ
  one i = F (i ∷ [])

  abbrev pub two : (i j : ℕ) → ℕ
  two i j = F (j ∷ i ∷ [])

  abbrev pub three : (i j k : ℕ) → ℕ
  three i j k = F (k ∷ j ∷ i ∷ [])

  -- three quarters alike
  abbrev pub three_alike : ℕ
  three_alike = 2 * one_node + min (min (three 0 1 2 + one 3) (three 0 1 3 + one 2)) (min (three 0 2 3 + one 1) (three 1 2 3 + one 0))

  -- the first quarter of one half is the second of the other
  abbrev pub crossed_alike : ℕ
  crossed_alike = min (two 0 3 + min (two 1 2) (one 1 + one 2)) (two 1 2 + (one 0 + one 3))

  -- the halves have their first quarter in common, or their second
  abbrev pub beside_alike : ℕ
  beside_alike = min (two 0 2 + (one 1 + one 3)) (two 1 3 + (one 0 + one 2))

  abbrev pub across_alike : ℕ
  across_alike = 3 * one_node + min crossed_alike beside_alike

  module _ (L : (zeros ones : List ℕ) → ℕ) where
    -- a half, of the quarters i and j: one class, a line, or two classes
    abbrev pub half_least : (i j : ℕ) → ℕ
    half_least i j = min (min (two i j) (L (i ∷ []) (j ∷ []))) (one_node + (one i + one j))

    -- the line of the first input, and of the second
    abbrev pub first_line : ℕ
    first_line = L (1 ∷ 0 ∷ []) (3 ∷ 2 ∷ [])

    abbrev pub second_line : ℕ
    second_line = L (2 ∷ 0 ∷ []) (3 ∷ 1 ∷ [])

    -- equal halves: one class, a line, or two classes
    abbrev pub halves_alike : ℕ
    halves_alike = min (min (F (3 ∷ 2 ∷ 1 ∷ 0 ∷ [])) second_line) (one_node + (two 0 2 + two 1 3))

    -- halves that share no quarter
    abbrev pub tree_like : ℕ
    tree_like = one_node + half_least 0 1 + half_least 2 3

    unfoldable pub least_way : ℕ
    least_way = min (min (min halves_alike first_line) tree_like) (min three_alike across_alike)

-- all seats of a pair but those of the zeros on the odd patterns, where the last input is 1
abbrev pub not_odd_zeros : ℕ
not_odd_zeros = 0x5f5f5f5f

-- each bit in the seat above its own
abbrev pub from_below : ℕ → ℕ
from_below w = w * 2 ^ 1 % 2 ^ pair_bits

-- the masks under which no best quarter has the inverse of the last input as a half: 0 stays on an odd pattern where it may stand on the even one below
abbrev pub no_inverted : ℕ → ℕ
no_inverted w = bit_and w (bit_or (from_below w) not_odd_zeros)

abbrev pub way_of : ℕ → ℕ
way_of w = least_way (class_in (quarter_bytes w)) (line_in (quarter_bytes w))
