-- Counts and sizes in their ranges, and what then has its place among all patterns and all values.
use Prim.Native.Nat.{ℕ, ◌^◌, ◌<◌, ◌≤◌}
use mathlib.Core.Path.{◌≡◌}
use mathlib.Core.Bool.{false}
use native.Mathlib.Nat.{lt_of_lt_of_le}
use native.Mathlib.Omega.{arith}
use lib.Dec.{eqb, ltb}
use lib.Pow.{pow_mono}
use borrow.Author.Tests.{ne_eqb, le-ltb, eqb-false, ltb-false}
use Rattle.base.proofs.Tests.{neither}
use Rattle.sheet.specs.Limits.{max_inputs, max_wires, max_patterns, max_values, count_out, sizes_out}
use Rattle.sheet.specs.Inner.Sized.{Sized}

-- a count that is not out of range, and the other way round
pub count_in : (x k : ℕ) → count_out x k ≡ false → (1 ≤ x) × (x ≤ k)
count_in x k e =
    let h = neither (eqb x 0) (ltb k x) e in
    (positive x (eqb-false x 0 h.0), ltb-false k x h.1)
  where
    positive : (x : ℕ) → (x ≡ 0 → ⊥) → 1 ≤ x
    positive x h = omega arith

pub count_fits : (x k : ℕ) → 1 ≤ x → x ≤ k → count_out x k ≡ false
count_fits x k a b = rw (ne_eqb x 0 (λ e. omega arith), le-ltb k x b)

-- the same of n and m
pub sizes_in : (most n m : ℕ) → sizes_out most n m ≡ false → Sized most n m
sizes_in most n m e =
    let h = neither (count_out n most) (count_out m max_wires) e in
    let a = count_in n most h.0 in
    let b = count_in m max_wires h.1 in
    record { n_least = a.0; n_most = a.1; m_least = b.0; m_most = b.1 }

pub sizes_fit : (most n m : ℕ) → Sized most n m → sizes_out most n m ≡ false
sizes_fit most n m z = rw (count_fits n most z.n_least z.n_most, count_fits m max_wires z.m_least z.m_most)

-- a pattern of so many inputs, and a value of so many wires, where these are in range
pub pattern_place : (n p : ℕ) → n ≤ max_inputs → p < 2 ^ n → p < max_patterns
pattern_place n p h l = lt_of_lt_of_le l (pow_mono {i = n} {j = max_inputs} h)

pub value_place : (m v : ℕ) → m ≤ max_wires → v < 2 ^ m → v < max_values
value_place m v h l = lt_of_lt_of_le l (pow_mono {i = m} {j = max_wires} h)
