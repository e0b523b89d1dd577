-- A gate by arithmetic (document 02, E3): three terms added up modulo 2, each taken once or not at all as its kind says.
use Prim.Native.Nat.{ℕ, zero, suc, ◌+◌, ◌*◌, ◌-◌, ◌/◌, ◌%◌, ◌^◌, ◌<◌, ◌≤◌}
use mathlib.Core.Path.{◌≡◌, refl, ap, ap₂, ◌∙◌}
use native.Mathlib.Omega.{arith}
use lib.Bits.{bit_and, bit_xor}
use Rattle.sheet.specs.Limits.{max_values}
use Rattle.table.specs.Bits.{bit}
use Rattle.table.proofs.Bits.{bit_lt, bit_and_lem, bit_xor_lem}
use Rattle.reader.specs.Reader.{last_kind}
use Rattle.unit.specs.Gates.{gate_bit}
use Rattle.unit.proofs.Bits.{two_bits, times_bit, ones_times}

-- the sum of a and b and their product, each so many times, and a third term, added up modulo 2
abbrev by_terms : (sums products third a b : ℕ) → ℕ
by_terms sums products third a b = bit_xor (bit_xor (sums * bit_xor a b) (products * bit_and a b)) third

-- half of the kinds are plain, the others are inverted
abbrev kinds : ℕ
kinds = last_kind + 1

abbrev plain : ℕ
plain = kinds / 2

-- how often a gate of kind k takes the sum, the product, and 1
abbrev sums_of : ℕ → ℕ
sums_of k = (k % plain + 1) / 2

abbrev products_of : ℕ → ℕ
products_of k = 1 - k % plain / 2

abbrev ones_of : ℕ → ℕ
ones_of k = k % kinds / plain

-- what that makes of two bits
abbrev gate_sum : (k a b : ℕ) → ℕ
gate_sum k = by_terms (sums_of k) (products_of k) (ones_of k)

-- a kind by its four rows
by_rows : (k : ℕ) → gate_sum k 0 0 ≡ gate_bit k 0 0 → gate_sum k 0 1 ≡ gate_bit k 0 1 → gate_sum k 1 0 ≡ gate_bit k 1 0 → gate_sum k 1 1 ≡ gate_bit k 1 1
    → (a b : ℕ) → a < 2 → b < 2 → gate_sum k a b ≡ gate_bit k a b
by_rows k = two_bits (λ a b. gate_sum k a b ≡ gate_bit k a b)

-- the arithmetic is the gate of document 01: all 24 rows are computed
pub gate_sum_lem : (k : ℕ) → k ≤ last_kind → (a b : ℕ) → a < 2 → b < 2 → gate_sum k a b ≡ gate_bit k a b
unfolding gate_bit
gate_sum_lem zero h = by_rows 0 refl refl refl refl
gate_sum_lem (suc zero) h = by_rows 1 refl refl refl refl
gate_sum_lem (suc (suc zero)) h = by_rows 2 refl refl refl refl
gate_sum_lem (suc (suc (suc zero))) h = by_rows 3 refl refl refl refl
gate_sum_lem (suc (suc (suc (suc zero)))) h = by_rows 4 refl refl refl refl
gate_sum_lem (suc (suc (suc (suc (suc zero))))) h = by_rows 5 refl refl refl refl
gate_sum_lem (suc (suc (suc (suc (suc (suc k)))))) h = absurd (omega arith)

-- so it is of words, in the bit of every value
pub gate_word : {sums products ones : ℕ} (k a b : ℕ) → sums ≡ sums_of k → products ≡ products_of k → ones ≡ ones_of k → k ≤ last_kind
    → (v : ℕ) → v < max_values → bit (by_terms sums products (ones * (2 ^ max_values - 1)) a b) v ≡ gate_bit k (bit a v) (bit b v)
gate_word {sums} {products} {ones} k a b es ep eo h v l =
    let taken : (sums < 2) × (products < 2) × (ones < 2) = (omega arith, omega arith, omega arith) in
    bit_xor_lem (bit_xor (sums * bit_xor a b) (products * bit_and a b)) (ones * (2 ^ max_values - 1)) v
    ∙ ap₂ bit_xor
    (bit_xor_lem (sums * bit_xor a b) (products * bit_and a b) v
    ∙ ap₂ bit_xor (times_bit sums (bit_xor a b) v taken.0 ∙ ap (λ x. sums * x) (bit_xor_lem a b v))
    (times_bit products (bit_and a b) v taken.1 ∙ ap (λ x. products * x) (bit_and_lem a b v)))
    (ones_times ones v taken.2 l)
    ∙ rw (es, ep, eo) (gate_sum_lem k h (bit a v) (bit b v) (bit_lt a v) (bit_lt b v))
