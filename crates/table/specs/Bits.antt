-- Bits of a number, and tests and sums over the numbers below a bound.
use Rattle.std.specs.Prelude.{ℕ, zero, suc, ◌+◌, ◌*◌, ◌^◌, ◌/◌, ◌%◌, Bool, true, false, ◌&&◌, ◌||◌}
unfoldable pub use Rattle.base.specs.Tabulate.{tabulate}

-- bit v of the number w
unfoldable pub bit : ℕ → ℕ → ℕ
bit w v = w / 2 ^ v % 2

-- the test passes for every number below k
unfoldable pub all : ℕ → (ℕ → Bool) → Bool
all zero f = true
all (suc k) f = all k f && f k

-- the test passes for some number below k
unfoldable pub any : ℕ → (ℕ → Bool) → Bool
any zero f = false
any (suc k) f = any k f || f k

-- f 0 + .. + f (k - 1)
unfoldable pub sum : ℕ → (ℕ → ℕ) → ℕ
sum zero f = zero
sum (suc k) f = sum k f + f k

-- the number whose bit i is f i, for i below k
unfoldable pub of_bits : ℕ → (ℕ → ℕ) → ℕ
of_bits k f = sum k (λ i. f i * 2 ^ i)

-- a test as a number
unfoldable pub is_one : Bool → ℕ
is_one true = 1
is_one false = 0
