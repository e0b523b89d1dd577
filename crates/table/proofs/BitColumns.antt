-- Laws of tests as numbers, and of the numbers that have a bit.
use Prim.Native.Nat.{ℕ, ◌+◌, ◌*◌, ◌/◌, ◌%◌, ◌<◌, ◌≤◌}
use mathlib.Core.Path.{◌≡◌, refl, ap, ap₂, ◌∙◌}
use mathlib.Core.Bool.{Bool, true, false}
use native.Mathlib.Omega.{arith}
use lib.Dec.{eqb}
use Rattle.sheet.specs.Limits.{max_values}
use Rattle.table.specs.Bits.{bit, is_one}
use Rattle.table.specs.Inner.Columns.{column_of}
use Rattle.table.proofs.Bits.{bit_of_bits}

pub one_test : (c : Bool) → eqb (is_one c) 1 ≡ c
unfolding is_one
one_test true = refl
one_test false = refl

pub is_one_small : (c : Bool) → is_one c ≤ 1
unfolding is_one
is_one_small true = omega arith
is_one_small false = omega arith

pub is_one_lt_two : (c : Bool) → is_one c < 2
is_one_lt_two c = omega (arith, is_one_small c)

-- a column has the numbers of its bit
pub column_test : (j b v : ℕ) → v < max_values → eqb (bit (column_of j b) v) 1 ≡ eqb (bit v j) b
unfolding column_of
column_test j b v l =
    ap (λ x. eqb x 1) (bit_of_bits (λ v. is_one (eqb (bit v j) b)) max_values (λ i _. is_one_lt_two (eqb (bit i j) b)) v l) ∙ one_test (eqb (bit v j) b)

-- a column by its place among the eight
pub column_placed : (k j b : ℕ) → 2 * j + b ≡ k → b < 2 → column_of j b ≡ column_of (k / 2) (k % 2)
column_placed k j b e l =
    let ej : j ≡ k / 2 = omega arith in
    let eb : b ≡ k % 2 = omega arith in
    ap₂ column_of ej eb
