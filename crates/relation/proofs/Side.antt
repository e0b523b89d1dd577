-- Laws of sections of four tables side by side in one number: the bits of a pattern, and the value they make.
use mathlib.Core.Path.{◌≡◌, sym, ap, ◌∙◌}
use mathlib.Core.List.{List}
use Prim.Native.Nat.{ℕ, ◌+◌, ◌*◌, ◌-◌, ◌^◌, ◌/◌, ◌%◌, ◌<◌}
use native.Mathlib.Omega.{arith}
use native.Mathlib.Nat.{add_comm, mod-lt, mod-eq_of_lt, add-mul-mod_self_right}
use lib.Bits.{bit_and, and_block, and_mask, and_zero_r}
use Rattle.sheet.specs.Limits.{max_wires, max_values}
use lib.Pow.{pow_pos, split}
use Rattle.table.specs.Bits.{bit, sum, of_bits}
use Rattle.table.proofs.Bits.{bit_lt, bit_low, bit_mod, bit_div}
use Rattle.relation.specs.Source.{value}
use Rattle.table.specs.Cells.{wires}
use Rattle.table.specs.Inner.Pairs.{narrow_inputs, narrow_patterns}
use Rattle.table.specs.Inner.Ranks.{narrow_space}
use Rattle.relation.specs.Inner.Side.{section, side_by_side, value_in}

-- where the section of wire j begins in the number, and what its lowest bit counts for
abbrev start : (j : ℕ) → ℕ
start j = narrow_patterns * j

abbrev side : (j : ℕ) → ℕ
side j = 2 ^ start j

-- the lowest bit of each section
abbrev pub lowest : ℕ
lowest = 1 + side 1 + side 2 + side 3

-- the lowest bit under a mask, and the number from the next section on under the rest of the mask
lowest_kept : (x rest : ℕ) → bit_and x (rest * side 1 + 1) ≡ bit_and (x / side 1) rest * side 1 + bit x 0
unfolding bit
lowest_kept x rest =
    let low : x % side 1 % 2 ≡ x / 2 ^ 0 % 2 = omega arith in
    ap (λ y. bit_and y (rest * side 1 + 1)) (sym (split x narrow_patterns))
    ∙ and_block narrow_patterns (x / side 1) rest (x % side 1) 1 (mod-lt x (pow_pos narrow_patterns)) (omega arith)
    ∙ ap (λ y. bit_and (x / side 1) rest * side 1 + y) (and_mask (x % side 1) 1 ∙ low)

-- the lowest bits of four sections
lowest_bits : (x : ℕ) → bit_and x lowest ≡ bit x 0 + bit x (start 1) * side 1 + bit x (start 2) * side 2 + bit x (start 3) * side 3
lowest_bits x =
    let a = x / side 1 in
    let b = a / side 1 in
    let c = b / side 1 in
    omega (
      arith,
      lowest_kept x (1 + side 1 + side 2),
      lowest_kept a (1 + side 1),
      lowest_kept b 1,
      lowest_kept c 0,
      and_zero_r (c / side 1),
      bit_div x narrow_patterns 0,
      bit_div a narrow_patterns 0,
      bit_div x narrow_patterns (start 1),
      bit_div b narrow_patterns 0,
      bit_div a narrow_patterns (start 1),
      bit_div x narrow_patterns (start 2),
    )

-- the lowest bits are moved down by one bit less than a section has, above those of the section below; then by twice that, above those of the two below
abbrev pub once : ℕ
once = 2 ^ (narrow_patterns - 1)

abbrev pub twice : ℕ
twice = 2 ^ (2 * (narrow_patterns - 1))

-- so the two sums move them together. What else there is in the sums is a multiple of max_values: the places of other sections' bits, as powers written out
together : (b0 b1 b2 b3 y : ℕ) → b0 < 2 → b1 < 2 → b2 < 2 → b3 < 2 → y ≡ b0 + b1 * side 1 + b2 * side 2 + b3 * side 3
    → (y + y / once + (y + y / once) / twice) % max_values ≡ b0 + 2 * b1 + 4 * b2 + 8 * b3
together b0 b1 b2 b3 y h0 h1 h2 h3 e =
    let v = b0 + 2 * b1 + 4 * b2 + 8 * b3 in
    let below : v < max_values = omega arith in
    let k = b1 * 2 ^ 12 + b2 * (2 ^ 28 + 2 ^ 13) + b3 * (2 ^ 44 + 2 ^ 29 + 2 ^ 14) in
    let first : y / once ≡ b1 * 2 + b2 * 2 ^ 17 + b3 * 2 ^ 33 = omega arith in
    let second : (y + y / once) / twice ≡ b2 * 4 + b3 * 8 + b3 * 2 ^ 18 = omega (arith, first) in
    let whole : y + y / once + (y + y / once) / twice ≡ v + k * max_values = omega (arith, first, second) in
    rw (whole, add-mul-mod_self_right v k max_values, mod-eq_of_lt below)

-- so the code takes the value on pattern p
pub value_taken : (t p y z : ℕ) → y ≡ bit_and (t / 2 ^ p) lowest → z ≡ y + y / once → (z + z / twice) % max_values ≡ value_in t p
unfolding value_in of_bits sum
value_taken t p y z ey ez =
    let x = t / 2 ^ p in
    let at : (j : ℕ) → bit x (start j) ≡ bit t (start j + p) = λ j. bit_div t p (start j) ∙ ap (bit t) (add_comm p (start j)) in
    let b : bit x 0 + 2 * bit x (start 1) + 4 * bit x (start 2) + 8 * bit x (start 3) ≡ value_in t p = omega (arith, at 0, at 1, at 2, at 3) in
    rw ez
    (together (bit x 0) (bit x (start 1)) (bit x (start 2)) (bit x (start 3)) y (bit_lt x 0) (bit_lt x (start 1)) (bit_lt x (start 2)) (bit_lt x (start 3))
    (ey ∙ lowest_bits x) ∙ b)

-- a section of a table
pub section_lt : (t q : ℕ) → section t q < narrow_space
unfolding section
section_lt t q = mod-lt (t / 2 ^ (narrow_patterns * q)) (pow_pos narrow_patterns)

pub section_bit : (t q p : ℕ) → p < narrow_patterns → bit (section t q) p ≡ bit t (narrow_patterns * q + p)
unfolding section
section_bit t q p h = bit_mod (t / 2 ^ (narrow_patterns * q)) {j = p} {k = narrow_patterns} h ∙ bit_div t (narrow_patterns * q) p

-- a section's bits in the number
placed : (x k s hi p : ℕ) → p < narrow_patterns → x / 2 ^ k ≡ s + hi * side 1 → bit x (k + p) ≡ bit s p
placed x k s hi p h e = sym (bit_div x k p) ∙ ap (λ y. bit y p) e ∙ bit_low s hi h

-- the value of four sections side by side is the value of the tables
pub sections_value : (ts : List ℕ) (q p : ℕ) → p < narrow_patterns → value_in (side_by_side ts q) p ≡ value max_wires (wires ts) (narrow_patterns * q + p)
unfolding value_in side_by_side value of_bits sum
sections_value ts q p h =
    let x = side_by_side ts q in
    let a = section (wires ts 0) q in
    let b = section (wires ts 1) q in
    let c = section (wires ts 2) q in
    let d = section (wires ts 3) q in
    let l0 : a < narrow_space = section_lt (wires ts 0) q in
    let l1 : b < narrow_space = section_lt (wires ts 1) q in
    let l2 : c < narrow_space = section_lt (wires ts 2) q in
    let e0 = placed x (start 0) a (b + c * side 1 + d * side 2) p h (omega arith) ∙ section_bit (wires ts 0) q p h in
    let e1 = placed x (start 1) b (c + d * side 1) p h (omega arith) ∙ section_bit (wires ts 1) q p h in
    let e2 = placed x (start 2) c d p h (omega arith) ∙ section_bit (wires ts 2) q p h in
    let e3 = placed x (start 3) d 0 p h (omega arith) ∙ section_bit (wires ts 3) q p h in
    omega (arith, e0, e1, e2, e3)

-- each pattern is in one section, which its quotient tells
pub side_value : (ts : List ℕ) (p : ℕ) → value_in (side_by_side ts (p / narrow_patterns)) (p % narrow_patterns) ≡ value max_wires (wires ts) p
side_value ts p =
    sections_value ts (p / narrow_patterns) (p % narrow_patterns) (mod-lt p (pow_pos narrow_inputs)) ∙ ap (value max_wires (wires ts)) (omega arith)
