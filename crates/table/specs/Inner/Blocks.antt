-- The least tables of two inputs, by what a table counts for, between all pairs of masks: one list with an entry for each pair.
use Rattle.std.specs.Prelude.{ℕ, ◌+◌, ◌*◌, ◌/◌, ◌%◌, ◌^◌, ◌<◌, ◌≤◌, ◌≡◌, List, get_or}
use Rattle.std.proofs.Math.Option.{Option, none, some}
use Rattle.table.specs.Bits.{bit}
use Rattle.table.specs.Pick.{least_of}
use Rattle.table.specs.Inner.Ranks.{masked, pick_key}
use Rattle.table.specs.Inner.Pairs.{block_space, byte_bits}

-- a pair of masks of a block is a byte: so many entries
abbrev pub entries : ℕ
entries = 2 ^ byte_bits

-- the tables of one input, which stand twice in a table of a block; and of three inputs, which are two tables of a block side by side
abbrev pub one_space : ℕ
one_space = 2 ^ (2 ^ 1)

abbrev pub three_space : ℕ
three_space = 2 ^ (2 ^ 3)

-- where no table suits: more than any table counts for
abbrev pub no_table : ℕ
no_table = 128

abbrev pub no_entry : ℕ
no_entry = no_table * three_space

-- what a table counts for, then the table twice side by side
unfoldable pub block_entry : (ℕ → ℕ) → Option ℕ → ℕ
block_entry count none = no_entry
block_entry count (some t) = count t * three_space + t * (block_space + 1)

unfoldable pub best_block : (ℕ → ℕ) → (zeros ones : ℕ) → ℕ
best_block count zeros ones = block_entry count (least_of count 2 (masked zeros ones))

-- the entry of two masks stands at the place zeros * block_space + ones, in the form that a board has its entries written in
pub record BestBlocks (written count : ℕ → ℕ) (e : List ℕ) : Type 0 where
  pub entry : (zeros ones : ℕ) → zeros < block_space → ones < block_space → get_or e (zeros * block_space + ones) 0 ≡ written (best_block count zeros ones)

-- the entry at a place
abbrev pub best_at : (ℕ → ℕ) → ℕ → ℕ
best_at count at = best_block count (at / block_space) (at % block_space)

-- the same where the key counts by which picks are found, and entries are written as they are
abbrev pub Blocks : List ℕ → Type 0
Blocks = BestBlocks (λ x. x) (pick_key 2)

abbrev pub block_of : (zeros ones : ℕ) → ℕ
block_of = best_block (pick_key 2)

abbrev pub block_at : ℕ → ℕ
block_at = best_at (pick_key 2)

-- the masks of three inputs whose lower and upper half stand at two places
abbrev pub zeros_at : (low high : ℕ) → ℕ
zeros_at low high = high / block_space * block_space + low / block_space

abbrev pub ones_at : (low high : ℕ) → ℕ
ones_at low high = high % block_space * block_space + low % block_space

-- a number shows a table by its key: the key times w, and the table; where there is none, at least as much as no_table times w
abbrev pub Shown : (ℕ → ℕ) → ℕ → Option ℕ → ℕ → Type 0
Shown key w none x = no_table * w ≤ x
Shown key w (some t) x = x ≡ key t * w + t

-- it shows the least table of n inputs between two masks
abbrev pub PickShown : (n w zeros ones x : ℕ) → Type 0
PickShown n w zeros ones = Shown (pick_key n) w (least_of (pick_key n) n (masked zeros ones))

-- the same of three inputs, told by the places of a lower and an upper half
abbrev pub HalvesShow : (low high x : ℕ) → Type 0
HalvesShow low high = PickShown 3 three_space (zeros_at low high) (ones_at low high)

-- each of the patterns has 0 or 1
abbrev pub Covered : ℕ → ℕ → ℕ → Type 0
Covered n zeros ones = (p : ℕ) → p < 2 ^ n → 1 ≤ bit zeros p + bit ones p
