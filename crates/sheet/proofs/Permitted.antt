-- The permitted values of a pattern: those of every 06 for it, out of all.
use Prim.Native.Nat.{ℕ, min, ◌-◌, ◌/◌, ◌%◌, ◌^◌, ◌<◌, ◌≤◌}
use mathlib.Core.Path.{◌≡◌, ap, ◌∙◌}
use mathlib.Core.List.{List, [], ◌∷◌}
use native.Mathlib.Nat.{le_trans, lt_of_le_of_lt, mod-eq_of_lt}
use native.Mathlib.Omega.{arith}
use lib.Bits.{bit_and, and_step, and_shr, and_le_l, and_comm, and_mask}
use lib.Pow.{ones_lt}
use Rattle.sheet.specs.Limits.{max_wires, all_ones}
use Rattle.sheet.specs.declared.Command.{Command}
use Rattle.sheet.specs.Commands.{wires_of, limits_on}
use Rattle.sheet.specs.Gathered.{meet, limit_on}
use Rattle.sheet.proofs.Powers.{uncapped}
use Rattle.base.specs.Each.{Each}

-- bit v of an intersection is the lower of the two bits
and_bit_lem : (a b v : ℕ) → bit_and a b / 2 ^ v % 2 ≡ min (a / 2 ^ v % 2) (b / 2 ^ v % 2)
and_bit_lem a b v = rw (and_shr a b v) (odd (a / 2 ^ v) (b / 2 ^ v))
  where
    odd : (x y : ℕ) → bit_and x y % 2 ≡ min (x % 2) (y % 2)
    odd x y = omega (arith, and_step x y)

module _ (v : ℕ) where
  abbrev Has : ℕ → Type 0
  Has w = w / 2 ^ v % 2 ≡ 1

  -- a value is in an intersection exactly where it is in each set
  pub meet_has : (w : ℕ) (xs : List ℕ) → Has w → Each Has xs → Has (meet w xs)
  unfolding meet
  meet_has w [] h p = h
  meet_has w (x ∷ xs) h p = meet_has (bit_and w x) xs (omega (arith, and_bit_lem w x v, h, p.0)) p.1

  pub has_meet : (w : ℕ) (xs : List ℕ) → Has (meet w xs) → Has w × Each Has xs
  unfolding meet
  has_meet w [] h = (h, tt)
  has_meet w (x ∷ xs) h =
      let r = has_meet (bit_and w x) xs h in
      let b = and_bit_lem w x v in
      (omega (arith, r.0), (omega (arith, r.0), r.1))

pub meet_le : (w : ℕ) (xs : List ℕ) → meet w xs ≤ w
unfolding meet
meet_le w [] = omega arith
meet_le w (x ∷ xs) = le_trans (meet_le (bit_and w x) xs) (and_le_l w x)

-- the set of all values of m wires
pub all_values : (m : ℕ) → m ≤ max_wires → all_ones m ≡ 2 ^ (2 ^ m) - 1
all_values m h = ap (λ k. 2 ^ k - 1) (uncapped max_wires m h)

-- a set of values out of all
pub out_of_all : (m w : ℕ) → m ≤ max_wires → w < 2 ^ (2 ^ m) → bit_and (all_ones m) w ≡ w
out_of_all m w h l = rw (all_values m h) (and_comm (2 ^ (2 ^ m) - 1) w ∙ and_mask w (2 ^ m) ∙ mod-eq_of_lt l)

pub limit_below : (p : ℕ) (cs : List Command) → wires_of cs ≤ max_wires → limit_on p cs < 2 ^ (2 ^ wires_of cs)
limit_below p cs h = lt_of_le_of_lt (meet_le (all_ones (wires_of cs)) (limits_on p cs)) (rw (all_values (wires_of cs) h) (ones_lt (2 ^ wires_of cs)))
