-- The two masks of a pair, bit by bit and a block at a time: half a byte after half a byte, the pair is the blocks of its masks in turn.
use Prim.Native.Nat.{ℕ, ◌+◌, ◌*◌, ◌^◌, ◌/◌, ◌%◌, ◌<◌}
use mathlib.Core.Path.{◌≡◌, sym, ap, ◌∙◌}
use native.Mathlib.Omega.{arith}
use native.Mathlib.Nat.{add_comm}
use lib.Pow.{shr-shr}
use Rattle.table.specs.Bits.{bit}
use Rattle.table.specs.Inner.Blocks.{entries, three_space}
use Rattle.table.specs.Inner.Pairs.{narrow_patterns, block_patterns, block_space, byte_bits, pair_bits, seat, zeros_in, ones_in}
use Rattle.table.specs.Inner.Ranks.{narrow_space}
use Rattle.table.proofs.Bits.{bit_lt, bit_mod, bit_div, bit_ext, bit_of_bits, of_bits_lt}

-- a pattern in each mask
pub ones_at_lem : (w p : ℕ) → p < narrow_patterns → bit (ones_in w) p ≡ bit w (seat p)
unfolding ones_in
ones_at_lem w p h = bit_of_bits (λ q. bit w (seat q)) narrow_patterns (λ i l. bit_lt w (seat i)) p h

pub zeros_at_lem : (w p : ℕ) → p < narrow_patterns → bit (zeros_in w) p ≡ bit w (seat p + block_patterns)
unfolding zeros_in
zeros_at_lem w p h = bit_of_bits (λ q. bit w (seat q + block_patterns)) narrow_patterns (λ i l. bit_lt w (seat i + block_patterns)) p h

-- both masks have a bit for each pattern, as tables have
pub ones_lt : (w : ℕ) → ones_in w < narrow_space
unfolding ones_in
ones_lt w = of_bits_lt (λ q. bit w (seat q)) narrow_patterns (λ i l. bit_lt w (seat i))

pub zeros_lt : (w : ℕ) → zeros_in w < narrow_space
unfolding zeros_in
zeros_lt w = of_bits_lt (λ q. bit w (seat q + block_patterns)) narrow_patterns (λ i l. bit_lt w (seat i + block_patterns))

-- the blocks of a mask, which are the bytes of a pair
abbrev block_count : ℕ
block_count = narrow_patterns / block_patterns

-- a mask from block k on, and a pair from byte k on
abbrev pub from_block : (k mask : ℕ) → ℕ
from_block k mask = mask / 2 ^ (block_patterns * k)

abbrev pub from_byte : (k w : ℕ) → ℕ
from_byte k w = w / 2 ^ (byte_bits * k)

-- the patterns of a block in a mask whose bit p is the bit of w at the seat of p
seat_at : (k i : ℕ) → i < block_patterns → byte_bits * k + i ≡ seat (block_patterns * k + i)
unfolding seat
seat_at k i h = omega arith

digit : (w m : ℕ) → ((p : ℕ) → p < narrow_patterns → bit m p ≡ bit w (seat p))
    → (k : ℕ) → k < block_count → from_byte k w % block_space ≡ from_block k m % block_space
digit w m f k h =
    let x = from_byte k w in
    let y = from_block k m in
    bit_ext block_patterns (x % block_space) (y % block_space) (omega arith) (omega arith)
    (λ i l. bit_mod x {k = block_patterns} l ∙ bit_div w (byte_bits * k) i ∙ ap (bit w) (seat_at k i l)
    ∙ sym (bit_mod y {k = block_patterns} l ∙ bit_div m (block_patterns * k) i ∙ f (block_patterns * k + i) (omega arith)))

-- byte k of a pair is the place of block k of its masks: its halves are their blocks
abbrev pub Place : ℕ → ℕ → ℕ → Type 0
Place at zeros ones = (at / block_space ≡ zeros % block_space) × (at % block_space ≡ ones % block_space)

pub byte_place : (w k : ℕ) → k < block_count → Place (from_byte k w % entries) (from_block k (zeros_in w)) (from_block k (ones_in w))
byte_place w k h =
    let x = from_byte k w in
    let s : from_byte k (w / block_space) ≡ x / block_space =
    shr-shr w block_patterns (byte_bits * k) ∙ ap (λ e. w / 2 ^ e) (add_comm block_patterns (byte_bits * k)) ∙ sym (shr-shr w (byte_bits * k) block_patterns) in
    let up : (p : ℕ) → p < narrow_patterns → bit (zeros_in w) p ≡ bit (w / block_space) (seat p) =
    λ p l. zeros_at_lem w p l ∙ ap (bit w) (add_comm (seat p) block_patterns) ∙ sym (bit_div w block_patterns (seat p)) in
    let z : x / block_space % block_space ≡ from_block k (zeros_in w) % block_space =
    ap (λ y. y % block_space) (sym s) ∙ digit (w / block_space) (zeros_in w) up k h in
    let o : x % block_space ≡ from_block k (ones_in w) % block_space = digit w (ones_in w) (ones_at_lem w) k h in
    ((halves x).0 ∙ z, (halves x).1 ∙ o)
  where
    halves : (x : ℕ) → (x % entries / block_space ≡ x / block_space % block_space) × (x % entries % block_space ≡ x % block_space)
    halves x = (omega arith, omega arith)

-- the lowest byte, with no division
pub first_place : (w : ℕ) → Place (w % entries) (zeros_in w) (ones_in w)
first_place w = let p = byte_place w 0 (omega arith) in (omega (arith, p.0), omega (arith, p.1))

-- so a block with no pattern in either mask is an empty byte: masks of three inputs take two bytes, and masks of two inputs are the halves of one
empty : (at zeros ones : ℕ) → Place at zeros ones → zeros ≡ 0 → ones ≡ 0 → at ≡ 0
empty at zeros ones p ez eo = omega arith

byte_empty : (w k : ℕ) → k < block_count → from_block k (zeros_in w) ≡ 0 → from_block k (ones_in w) ≡ 0 → from_byte k w % entries ≡ 0
byte_empty w k h = empty (from_byte k w % entries) (from_block k (zeros_in w)) (from_block k (ones_in w)) (byte_place w k h)

pub two_bytes : (w : ℕ) → w < 2 ^ pair_bits → zeros_in w < three_space → ones_in w < three_space → w < entries * entries
two_bytes w l lz lo =
    let b : from_byte 2 w % entries ≡ 0 = byte_empty w 2 (omega arith) (omega arith) (omega arith) in
    let d : from_byte 3 w % entries ≡ 0 = byte_empty w 3 (omega arith) (omega arith) (omega arith) in
    omega arith

pub one_byte : (w : ℕ) → w < 2 ^ pair_bits → zeros_in w < block_space → ones_in w < block_space → w ≡ zeros_in w * block_space + ones_in w
one_byte w l lz lo =
    let h = two_bytes w l (omega arith) (omega arith) in
    let b : from_byte 1 w % entries ≡ 0 = byte_empty w 1 (omega arith) (omega arith) (omega arith) in
    let e : w ≡ w % entries = omega arith in
    e ∙ digits (w % entries) (zeros_in w) (ones_in w) (first_place w) lz lo
  where
    digits : (at zeros ones : ℕ) → Place at zeros ones → zeros < block_space → ones < block_space → at ≡ zeros * block_space + ones
    digits at zeros ones p y o = omega arith
