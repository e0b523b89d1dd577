-- Laws of a match on a number by the keys 0, 1, 2 and so on.
use Prim.Native.Nat.{ℕ, zero, suc, ◌≤◌, ◌<◌}
use mathlib.Core.Path.{◌≡◌}
use mathlib.Core.Bool.{true, false}
use native.Mathlib.Omega.{arith}
use lib.Dec.{ltb, eqb}
use borrow.Author.Tests.{ltb-true, ne_eqb}

-- what its last arm tells: the number is none of the first k
abbrev pub NoneOf : ℕ → ℕ → Type 0
NoneOf zero b = Unit
NoneOf (suc k) b = NoneOf k b × (b ≡ k → ⊥)

pub none_below : (k b : ℕ) → NoneOf k b → k ≤ b
none_below zero b h = omega arith
none_below (suc k) b h = let l : k ≤ b = none_below k b h.0 in omega (arith, h.1)

-- so each of its tests fails
pub none_tests : (k b : ℕ) → NoneOf k b → (j : ℕ) → ltb j k ≡ true → eqb b j ≡ false
none_tests k b h j e =
    let l : k ≤ b = none_below k b h in
    let i : j < k = ltb-true j k e in
    ne_eqb b j (omega arith)
