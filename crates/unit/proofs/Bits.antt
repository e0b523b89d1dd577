-- Laws of two bits, and of words taken once or not at all.
use Prim.Native.Nat.{ℕ, zero, suc, ◌*◌, ◌-◌, ◌^◌, ◌<◌}
use mathlib.Core.Path.{◌≡◌, ap, ◌∙◌}
use native.Mathlib.Omega.{arith}
use Rattle.sheet.specs.Limits.{max_values}
use Rattle.table.specs.Bits.{bit}
use Rattle.table.proofs.Bits.{zero_bit, ones_bit}

-- what holds of 0 and 1 on either side holds of two bits
pub two_bits : (P : ℕ → ℕ → Type 0) → P 0 0 → P 0 1 → P 1 0 → P 1 1 → (a b : ℕ) → a < 2 → b < 2 → P a b
two_bits P x y z w zero zero p q = x
two_bits P x y z w zero (suc zero) p q = y
two_bits P x y z w (suc zero) zero p q = z
two_bits P x y z w (suc zero) (suc zero) p q = w
two_bits P x y z w (suc (suc a)) b p q = absurd (omega arith)
two_bits P x y z w zero (suc (suc b)) p q = absurd (omega arith)
two_bits P x y z w (suc zero) (suc (suc b)) p q = absurd (omega arith)

-- a word taken once or not at all
pub times_lt : {d x : ℕ} (k : ℕ) → d < 2 → x < 2 ^ k → d * x < 2 ^ k
times_lt {d = zero} k h l = omega arith
times_lt {d = suc zero} k h l = omega arith
times_lt {d = suc (suc d)} k h l = absurd (omega arith)

pub times_bit : (d x v : ℕ) → d < 2 → bit (d * x) v ≡ d * bit x v
times_bit zero x v h = let e : 0 * x ≡ 0 = omega arith in let f : 0 * bit x v ≡ 0 = omega arith in rw (e, f) (zero_bit v)
times_bit (suc zero) x v h = let e : 1 * x ≡ x = omega arith in let f : 1 * bit x v ≡ bit x v = omega arith in rw (e, f)
times_bit (suc (suc d)) x v h = absurd (omega arith)

-- the word that has a one for every value, taken so
pub ones_times : (d v : ℕ) → d < 2 → v < max_values → bit (d * (2 ^ max_values - 1)) v ≡ d
ones_times d v h l =
    let e : d * 1 ≡ d = omega arith in
    times_bit d (2 ^ max_values - 1) v h ∙ ap (λ x. d * x) (ones_bit max_values v l) ∙ e
