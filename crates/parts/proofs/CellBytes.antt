-- Laws of the cells of all wires in one number.
use Prim.Native.Nat.{ℕ, zero, suc, ◌+◌, ◌*◌, ◌-◌, ◌/◌, ◌%◌, ◌^◌, ◌<◌}
use mathlib.Core.Path.{◌≡◌, refl, sym, ap, ap₂, ◌∙◌}
use native.Mathlib.Omega.{arith}
use native.Mathlib.Nat.{mod-eq_of_lt}
use lib.Bits.{bit_and}
use lib.Pow.{shl_exact}
use Rattle.sheet.specs.Limits.{max_wires}
use Rattle.table.specs.Bits.{sum}
use Rattle.lanes.proofs.Replaced.{mask_kept}
use Rattle.parts.specs.Inner.Cells.{cell_space, packed, byte_in, put_cells, cells_sum}

-- the bits of a byte, and of the number that the code keeps
abbrev byte_bits : ℕ
byte_bits = 8

abbrev word_bits : ℕ
word_bits = 64

-- the code's byte, and its new cells
module _ (x j k : ℕ) (lj : j < max_wires) (lk : k < cell_space) (lx : x < 2 ^ word_bits) where
  taken : bit_and x ((2 ^ byte_bits - 1) * 2 ^ (byte_bits * j) % 2 ^ word_bits) ≡ x / 2 ^ (byte_bits * j) % 2 ^ byte_bits * 2 ^ (byte_bits * j)
  taken = ap (bit_and x) (shl_exact byte_bits (byte_bits * j) word_bits (omega arith) (omega arith)) ∙ mask_kept x byte_bits (byte_bits * j)

  put : k * 2 ^ (byte_bits * j) % 2 ^ word_bits ≡ k * 2 ^ (byte_bits * j)
  put = shl_exact byte_bits (byte_bits * j) word_bits lk (omega arith)

  powers : (i : ℕ) → i < max_wires → 2 ^ (byte_bits * i) ≡ cell_space ^ i
  powers zero l = refl
  powers (suc zero) l = refl
  powers (suc (suc zero)) l = refl
  powers (suc (suc (suc zero))) l = refl
  powers (suc (suc (suc (suc i)))) l = absurd (omega arith)

  pub cells_put : x - bit_and x ((2 ^ byte_bits - 1) * 2 ^ (byte_bits * j) % 2 ^ word_bits) + k * 2 ^ (byte_bits * j) % 2 ^ word_bits ≡ put_cells x j k
  unfolding put_cells byte_in
  cells_put =
      ap₂ (λ y z. x - y + z) taken put ∙ ap (λ s. x - x / s % cell_space * s + k * s) (powers j lj)

  fits : (i : ℕ) → i < max_wires → x - byte_in x i * cell_space ^ i + k * cell_space ^ i < 2 ^ word_bits
  unfolding byte_in
  fits zero l = omega arith
  fits (suc zero) l = omega arith
  fits (suc (suc zero)) l = omega arith
  fits (suc (suc (suc zero))) l = omega arith
  fits (suc (suc (suc (suc i)))) l = absurd (omega arith)

  pub cells_fit : x - bit_and x ((2 ^ byte_bits - 1) * 2 ^ (byte_bits * j) % 2 ^ word_bits) + k * 2 ^ (byte_bits * j) % 2 ^ word_bits < 2 ^ word_bits
  unfolding put_cells
  cells_fit = rw cells_put (fits j lj)

-- one in each wire's byte
abbrev pub each : ℕ
each = 1 + cell_space + cell_space ^ 2 + cell_space ^ 3

-- the product has the sum of all bytes in the last wire's
sum_at : (x a b c d : ℕ) → x ≡ a + b * cell_space + c * cell_space ^ 2 + d * cell_space ^ 3 → a + b + c + d < cell_space → x * each / cell_space ^ 3 % cell_space ≡ a + b + c + d
sum_at x a b c d e s =
    let lower = a + (a + b) * cell_space + (a + b + c) * cell_space ^ 2 in
    let upper = b + c + d + (c + d) * cell_space + d * cell_space ^ 2 in
    let total = a + b + c + d in
    let top : x * each / cell_space ^ 3 ≡ total + upper * cell_space = omega arith in
    omega (arith, top)

bytes_sum : (x : ℕ) → cells_sum x ≡ x % cell_space + x / cell_space % cell_space + x / cell_space ^ 2 % cell_space + x / cell_space ^ 3 % cell_space
unfolding cells_sum byte_in sum
bytes_sum x = let e : x / 1 ≡ x = omega arith in omega (arith, ap (λ y. y % cell_space) e)

pub sum_found : (x : ℕ) → x < cell_space ^ max_wires → cells_sum x < cell_space → x * each / cell_space ^ 3 % cell_space ≡ cells_sum x
sum_found x l s =
    let two : x / cell_space / cell_space ≡ x / cell_space ^ 2 = omega arith in
    let three : x / cell_space ^ 2 / cell_space ≡ x / cell_space ^ 3 = omega arith in
    let first : x ≡ x / cell_space * cell_space + x % cell_space = omega arith in
    let second : x / cell_space ≡ x / cell_space ^ 2 * cell_space + x / cell_space % cell_space = omega (arith, two) in
    let third : x / cell_space ^ 2 ≡ x / cell_space ^ 3 * cell_space + x / cell_space ^ 2 % cell_space = omega (arith, three) in
    let last : x / cell_space ^ 3 % cell_space ≡ x / cell_space ^ 3 = mod-eq_of_lt (omega arith) in
    let e = together x (x / cell_space) (x / cell_space ^ 2) (x / cell_space ^ 3) (x % cell_space) (x / cell_space % cell_space) (x / cell_space ^ 2 % cell_space) first second third in
    let t = bytes_sum x ∙ ap (λ y. x % cell_space + x / cell_space % cell_space + x / cell_space ^ 2 % cell_space + y) last in
    sum_at x (x % cell_space) (x / cell_space % cell_space) (x / cell_space ^ 2 % cell_space) (x / cell_space ^ 3) e (rw t at s) ∙ sym t
  where
    together : (x y z w a b c : ℕ) → x ≡ y * cell_space + a → y ≡ z * cell_space + b → z ≡ w * cell_space + c
        → x ≡ a + b * cell_space + c * cell_space ^ 2 + w * cell_space ^ 3
    together x y z w a b c p q r = omega arith

-- what is packed
module _ (f : ℕ → ℕ) (small : (j : ℕ) → f j < cell_space) where
  pub packed_lt : packed f < cell_space ^ max_wires
  unfolding packed sum
  packed_lt = omega (arith, small 0, small 1, small 2, small 3)

  pub packed_byte : (j : ℕ) → j < max_wires → byte_in (packed f) j ≡ f j
  unfolding packed sum byte_in
  packed_byte zero l = omega (arith, small 0, small 1, small 2, small 3)
  packed_byte (suc zero) l = omega (arith, small 0, small 1, small 2, small 3)
  packed_byte (suc (suc zero)) l = omega (arith, small 0, small 1, small 2, small 3)
  packed_byte (suc (suc (suc zero))) l = omega (arith, small 0, small 1, small 2, small 3)
  packed_byte (suc (suc (suc (suc j)))) l = absurd (omega arith)

  -- wire j's cells replaced
  pub packed_put : (g : ℕ → ℕ) (j k : ℕ) → j < max_wires → g j ≡ k → ((i : ℕ) → (i ≡ j → ⊥) → f i ≡ g i) → put_cells (packed f) j k ≡ packed g
  unfolding packed sum put_cells
  packed_put g zero k l e o =
      omega (arith, packed_byte 0 (omega arith), e, o 1 (λ d. absurd (omega arith)), o 2 (λ d. absurd (omega arith)), o 3 (λ d. absurd (omega arith)))
  packed_put g (suc zero) k l e o =
      omega (arith, packed_byte 1 (omega arith), e, o 0 (λ d. absurd (omega arith)), o 2 (λ d. absurd (omega arith)), o 3 (λ d. absurd (omega arith)))
  packed_put g (suc (suc zero)) k l e o =
      omega (arith, packed_byte 2 (omega arith), e, o 0 (λ d. absurd (omega arith)), o 1 (λ d. absurd (omega arith)), o 3 (λ d. absurd (omega arith)))
  packed_put g (suc (suc (suc zero))) k l e o =
      omega (arith, packed_byte 3 (omega arith), e, o 0 (λ d. absurd (omega arith)), o 1 (λ d. absurd (omega arith)), o 2 (λ d. absurd (omega arith)))
  packed_put g (suc (suc (suc (suc j)))) k l e o = absurd (omega arith)
