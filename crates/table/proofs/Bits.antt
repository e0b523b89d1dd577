-- Laws of bits, and of numbers made of bits. Those of tests, of sums and of lists told by a function are handed on to the crates above.
use Prim.Native.Nat.{ℕ, zero, suc, ◌+◌, ◌*◌, ◌-◌, ◌^◌, ◌/◌, ◌%◌, ◌<◌, ◌≤◌}
use mathlib.Core.Path.{◌≡◌, refl, sym, ap, ◌∙◌}
use mathlib.Core.Logic.{◌⊎◌, inl, inr, ⊎_elim}
use mathlib.Core.Bool.{◌&&◌}
use native.Mathlib.Omega.{arith}
use native.Mathlib.Nat.{not-suc-le-zero, le_of_suc-le-suc, lt_of_lt_of_le, le_dest, add_comm, pow-suc, mul-le-mul_right}
use native.Mathlib.Nat.{mod-lt, mod-eq_of_lt, mod-add-div', div-eq_of_lt, div-lt_iff_lt-mul, add-mul-div_right, add-mul-mod_self_right}
use lib.Dec.{eqb}
use lib.Bits.{bit_and, bit_xor, and_shr, and_mod, xor_shr, xor_mod, bit_or, or_shr, or_mod}
use lib.Pow.{pow_pos, pow-add, pow_mono, high, shr-shr, shl_exact}
pub use Rattle.base.proofs.Tabulate.{tabulate_length, tabulate_at, tabulate_cong, tabulate_four}
use Rattle.base.proofs.Tests.{below_suc}
pub use Rattle.table.proofs.Below.{all_at, all_intro, all_cong, any_intro, any_at, any_cong}
pub use Rattle.table.proofs.Sums.{sum_cong, sum_le, sum_lt, sum_bound, sum_short, sum_but_one}
use Rattle.table.specs.Bits.{bit, sum, of_bits}

pub bit_lt : (w v : ℕ) → bit w v < 2
unfolding bit
bit_lt w v = omega arith

-- a bit below k does not see what stands from bit k up
pub bit_low : (x c : ℕ) {j k : ℕ} → j < k → bit (x + c * 2 ^ k) j ≡ bit x j
unfolding bit
bit_low x c {j} {k} h = go (le_dest h).0 (le_dest h).1
  where
    go : (d : ℕ) → suc j + d ≡ k → (x + c * 2 ^ k) / 2 ^ j % 2 ≡ x / 2 ^ j % 2
    go d r =
        let e : 2 ^ k ≡ 2 ^ d * 2 * 2 ^ j = rw (← r, pow-add, pow-suc) (omega arith) in
        let e' : c * 2 ^ k ≡ c * 2 ^ d * 2 * 2 ^ j = rw e (omega arith) in
        rw (e', add-mul-div_right x (c * 2 ^ d * 2) (pow_pos j), add-mul-mod_self_right)

-- bit k of a number below 2 ^ k with b put on top
pub bit_top : {x b : ℕ} (k : ℕ) → x < 2 ^ k → b < 2 → bit (x + b * 2 ^ k) k ≡ b
unfolding bit
bit_top {x} {b} k h l = rw (add_comm x (b * 2 ^ k), high b k h, mod-eq_of_lt l)

pub bit_mod : (x : ℕ) {j k : ℕ} → j < k → bit (x % 2 ^ k) j ≡ bit x j
bit_mod x {j} {k} h = sym (bit_low (x % 2 ^ k) (x / 2 ^ k) h) ∙ ap (λ y. bit y j) (mod-add-div' x (2 ^ k))

pub bit_div : (x k j : ℕ) → bit (x / 2 ^ k) j ≡ bit x (k + j)
unfolding bit
bit_div x k j = rw shr-shr

module _ (f : ℕ → ℕ) where
  pub of_bits_lt : (k : ℕ) → ((i : ℕ) → i < k → f i < 2) → of_bits k f < 2 ^ k
  unfolding of_bits sum
  of_bits_lt zero h = omega arith
  of_bits_lt (suc k) h =
      omega (arith, of_bits_lt k (λ i l. h i (omega arith)), mul-le-mul_right (2 ^ k) (le_of_suc-le-suc (h k (omega arith))))

  pub bit_of_bits : (k : ℕ) → ((i : ℕ) → i < k → f i < 2) → (j : ℕ) → j < k → bit (of_bits k f) j ≡ f j
  unfolding of_bits sum
  bit_of_bits zero h j l = absurd (not-suc-le-zero l)
  bit_of_bits (suc k) h j l =
      let h' : (i : ℕ) → i < k → f i < 2 = λ i b. h i (omega arith) in
      ⊎_elim
      (λ (e : j ≡ k). rw e (bit_top k (of_bits_lt k h') (h k (omega arith))))
      (λ b. bit_low (of_bits k f) (f k) b ∙ bit_of_bits k h' j b)
      (below_suc l)

bit_quot : (x k : ℕ) → x / 2 ^ k < 2 → bit x k ≡ x / 2 ^ k
unfolding bit
bit_quot x k q = mod-eq_of_lt q

pub of_bits_bit : (k x : ℕ) → x < 2 ^ k → of_bits k (bit x) ≡ x
unfolding of_bits sum
of_bits_bit zero x h = omega arith
of_bits_bit (suc k) x h =
    let q : x / 2 ^ k < 2 = (div-lt_iff_lt-mul (pow_pos k)).1 (omega arith) in
    let low : of_bits k (bit x) ≡ x % 2 ^ k =
    sum_cong k (λ i. bit x i * 2 ^ i) (λ i. bit (x % 2 ^ k) i * 2 ^ i) (λ i l. ap (λ b. b * 2 ^ i) (sym (bit_mod x l)))
    ∙ of_bits_bit k (x % 2 ^ k) (mod-lt x (pow_pos k)) in
    let top : bit x k ≡ x / 2 ^ k = bit_quot x k q in
    rw top (ap (λ y. y + x / 2 ^ k * 2 ^ k) low ∙ mod-add-div' x (2 ^ k))

-- numbers below 2 ^ k are equal by their bits
pub bit_ext : (k x y : ℕ) → x < 2 ^ k → y < 2 ^ k → ((i : ℕ) → i < k → bit x i ≡ bit y i) → x ≡ y
unfolding of_bits
bit_ext k x y hx hy h =
    sym (of_bits_bit k x hx) ∙ sum_cong k (λ i. bit x i * 2 ^ i) (λ i. bit y i * 2 ^ i) (λ i l. ap (λ b. b * 2 ^ i) (h i l)) ∙ of_bits_bit k y hy

pub bit_cases : (x i : ℕ) → (bit x i ≡ 0) ⊎ (bit x i ≡ 1)
bit_cases x i = go (bit x i) (bit_lt x i)
  where
    go : (y : ℕ) → y < 2 → (y ≡ 0) ⊎ (y ≡ 1)
    go zero h = inl refl
    go (suc zero) h = inr refl
    go (suc (suc y)) h = absurd (omega arith)

pub bit_zero : (t : ℕ) → t < 2 → bit t 0 ≡ t
unfolding bit
bit_zero t h = omega arith

pub bit_and_lem : (a b v : ℕ) → bit (bit_and a b) v ≡ bit_and (bit a v) (bit b v)
unfolding bit
bit_and_lem a b v = ap (λ x. x % 2) (and_shr a b v) ∙ and_mod (a / 2 ^ v) (b / 2 ^ v) 1

pub bit_or_lem : (a b v : ℕ) → bit (bit_or a b) v ≡ bit_or (bit a v) (bit b v)
unfolding bit
bit_or_lem a b v = ap (λ z. z % 2) (or_shr a b v) ∙ or_mod (a / 2 ^ v) (b / 2 ^ v) 1

pub bit_xor_lem : (a b v : ℕ) → bit (bit_xor a b) v ≡ bit_xor (bit a v) (bit b v)
unfolding bit
bit_xor_lem a b v = ap (λ x. x % 2) (xor_shr a b v) ∙ xor_mod (a / 2 ^ v) (b / 2 ^ v) 1

pub test_and : (a b v : ℕ) → eqb (bit (bit_and a b) v) 1 ≡ eqb (bit a v) 1 && eqb (bit b v) 1
test_and a b v = ap (λ x. eqb x 1) (bit_and_lem a b v) ∙ go (bit a v) (bit b v) (bit_cases a v) (bit_cases b v)
  where
    go : (x y : ℕ) → (x ≡ 0) ⊎ (x ≡ 1) → (y ≡ 0) ⊎ (y ≡ 1) → eqb (bit_and x y) 1 ≡ eqb x 1 && eqb y 1
    go x y (inl e) (inl d) = rw e
    go x y (inl e) (inr d) = rw e
    go x y (inr e) (inl d) = rw (e, d)
    go x y (inr e) (inr d) = rw (e, d)

pub bit_past : (x k v : ℕ) → x < 2 ^ k → k ≤ v → bit x v ≡ 0
unfolding bit
bit_past x k v h l = ap (λ y. y % 2) (div-eq_of_lt (lt_of_lt_of_le h (pow_mono l)))

-- the bits of 0
pub zero_bit : (v : ℕ) → bit 0 v ≡ 0
zero_bit v = bit_past 0 0 v (omega arith) (omega arith)

-- a power of two, as the code makes it by a shift at width w
pub shifted_one : (k w : ℕ) → k < w → 1 * 2 ^ k % 2 ^ w ≡ 2 ^ k
shifted_one k w h =
    let e : 1 * 2 ^ k ≡ 2 ^ k = omega arith in
    shl_exact 1 k w (omega arith) (omega arith) ∙ e

-- no bit from some place on
pub of_bits_short : (f : ℕ → ℕ) (k l : ℕ) → k ≤ l → ((i : ℕ) → k ≤ i → f i ≡ 0) → of_bits l f ≡ of_bits k f
unfolding of_bits
of_bits_short f k l h z = sum_short (λ i. f i * 2 ^ i) k l h (λ i b. rw (z i b) (omega arith))

-- a one in each of the first k places
pub of_bits_ones : (k : ℕ) → of_bits k (λ _. 1) ≡ 2 ^ k - 1
unfolding of_bits sum
of_bits_ones zero = refl
of_bits_ones (suc k) = omega (arith, of_bits_ones k, pow_pos k)

pub ones_bit : (k v : ℕ) → v < k → bit (2 ^ k - 1) v ≡ 1
ones_bit k v l = ap (λ x. bit x v) (sym (of_bits_ones k)) ∙ bit_of_bits (λ _. 1) k (λ _ _. omega arith) v l
