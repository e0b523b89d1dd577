-- Laws of tests against powers of two.
use mathlib.Core.Path.{◌≡◌, refl, sym, ap, ◌∙◌}
use mathlib.Core.Logic.{⊎_elim}
use mathlib.Core.Bool.{Bool, true, false}
use Prim.Native.Nat.{ℕ, min, ◌*◌, ◌/◌, ◌%◌, ◌^◌, ◌≤◌, ◌<◌}
use native.Mathlib.Nat.{le-div_iff_mul-le, div-eq_of_lt, lt_of_lt_of_le, one-mul, le_of_lt}
use native.Mathlib.Omega.{arith}
use lib.Dec.{leb, leb→le, nleb→lt}
use lib.Pow.{pow_pos, pow_mono, shl_exact}
use Rattle.base.proofs.Tests.{decide}
use borrow.Author.Tests.{le-leb, lt-leb, leb-true, leb-false}

-- a test on the quotient by a power is a test on the number
pub shifted : (x k : ℕ) → leb 1 (x / 2 ^ k) ≡ leb (2 ^ k) x
shifted x k = go (leb (2 ^ k) x) refl
  where
    go : (t : Bool) → leb (2 ^ k) x ≡ t → leb 1 (x / 2 ^ k) ≡ leb (2 ^ k) x
    go true e =
        let h : 2 ^ k ≤ x = leb-true _ _ e in
        le-leb 1 (x / 2 ^ k) ((le-div_iff_mul-le {x = 1} (pow_pos k)).1 (omega arith)) ∙ sym e
    go false e = rw (div-eq_of_lt (leb-false _ _ e)) (sym e)

-- a number of j bits is below a higher power
pub below_power : (x j k : ℕ) → x < 2 ^ j → j ≤ k → leb (2 ^ k) x ≡ false
below_power x j k h l = lt-leb _ _ (lt_of_lt_of_le h (pow_mono l))

-- 1 shifted within so many bits
pub one_shifted : (k w : ℕ) → k < w → 1 * 2 ^ k % 2 ^ w ≡ 2 ^ k
one_shifted k w h = shl_exact {a = 1} 1 k w (omega arith) (omega arith) ∙ one-mul (2 ^ k)

-- the lower of two powers is that of the lower exponent
pub capped : (j k : ℕ) → j ≤ k → min (2 ^ j) (2 ^ k) ≡ 2 ^ j
capped j k h = let p : 2 ^ j ≤ 2 ^ k = pow_mono h in omega arith

pub uncapped : (j k : ℕ) → k ≤ j → min (2 ^ j) (2 ^ k) ≡ 2 ^ k
uncapped j k h = let p : 2 ^ k ≤ 2 ^ j = pow_mono h in omega arith

-- a test against a power that goes up to j, of a number of 2 ^ j bits, is the test against the power itself
pub beyond_capped : (x j k : ℕ) → x < 2 ^ (2 ^ j) → leb (2 ^ min (2 ^ j) (2 ^ k)) x ≡ leb (2 ^ (2 ^ k)) x
beyond_capped x j k h =
    ⊎_elim (λ t. ap (λ e. leb (2 ^ e) x) (uncapped j k (leb→le k j t)))
    (λ t.
    let l : j ≤ k = le_of_lt (nleb→lt k j t) in
    ap (λ e. leb (2 ^ e) x) (capped j k l) ∙ below_power x (2 ^ j) (2 ^ j) h (omega arith) ∙ sym (below_power x (2 ^ j) (2 ^ k) h (pow_mono l)))
    (decide (leb k j))
