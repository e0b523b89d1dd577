-- The values of a word, spread to their lanes.
use Prim.Native.Nat.{ℕ, ◌+◌, ◌*◌, ◌-◌, ◌%◌, ◌^◌, ◌<◌, ◌≤◌}
use mathlib.Core.Path.{◌≡◌}
use mathlib.Core.Bool.{Bool}
use native.Mathlib.Omega.{arith}
use native.Mathlib.Nat.{mod-eq_of_lt, mul-le-mul_right}
use lib.Bits.{bit_and}
use lib.Dec.{T, eqb, eqb→eq}
use Rattle.table.specs.Bits.{bit, sum, all}
use Rattle.table.specs.Inner.Pairs.{narrow_patterns}
use Rattle.table.proofs.Bits.{all_at}
use Rattle.lanes.specs.Inner.Lanes.{each_lane, lanes_of}
use Rattle.by_value.specs.Inner.ByValue.{word_values, word_width}

-- each copy of a number stands one place less than a lane above the one before
abbrev pub copies : ℕ
copies = 1 + 2 ^ (narrow_patterns - 1) + 2 ^ (2 * (narrow_patterns - 1)) + 2 ^ (3 * (narrow_patterns - 1))

spread_test : ℕ → Bool
spread_test x = eqb (bit_and (x * copies) each_lane) (lanes_of (bit x))

-- tried for each number
spread_tests : T (all (2 ^ word_values) spread_test)
unfolding all spread_test lanes_of sum bit
spread_tests = tt

pub spread_taken : (x : ℕ) → x < 2 ^ word_values → bit_and (x * copies) each_lane ≡ lanes_of (bit x)
unfolding spread_test
spread_taken x l = eqb→eq (bit_and (x * copies) each_lane) (lanes_of (bit x)) (all_at (2 ^ word_values) spread_test spread_tests x l)

-- what is moved to a place of the lanes stays within a word that has room there
module _ (word s p : ℕ) (l : s ≤ each_lane) (room : word + each_lane * 2 ^ p < 2 ^ word_width) where
  pub moved : s * 2 ^ p % 2 ^ word_width ≡ s * 2 ^ p
  moved = mod-eq_of_lt (omega (arith, mul-le-mul_right (2 ^ p) l))
