-- `lost_wires` meets its contract: of each wire what is told of the bit that it drives.
use Prim.Native.Nat.{ℕ, zero, suc, ◌<◌}
use mathlib.Core.Path.{◌≡◌, refl, ap, ap₂, ◌∙◌}
use mathlib.Core.Bool.{Bool, not, cond}
use native.Mathlib.Omega.{arith}
use lib.Dec.{eqb}
use Rattle.sheet.specs.Limits.{max_wires}
use Rattle.table.specs.Bits.{is_one}
use Rattle.table.proofs.BitColumns.{is_one_lt_two}
use Rattle.relation.specs.Tests.{occurs}
use Rattle.relation.specs.Inner.Members.{member}
use Rattle.lanes.specs.Inner.Lanes.{lane_of, lanes_of, LanesBelow}
use Rattle.lanes.proofs.Lanes.{lane_lanes}
use Rattle.halves.proofs.remaking.lost_wires.Goals as goal

-- `lost_wires` meets its contract: of each wire what is told of the bit that it drives.
-- lanes of tests
module _ (f : ℕ → Bool) {x : ℕ} (e : x ≡ lanes_of (λ j. is_one (f j))) where
  lane_is : (j : ℕ) → j < max_wires → lane_of x j ≡ is_one (f j)
  lane_is j l = ap (λ y. lane_of y j) e ∙ lane_lanes (λ i. is_one (f i)) (λ i _. omega (arith, is_one_lt_two (f i))) j l

  lanes_bits : LanesBelow 2 x
  lanes_bits j l = rw (lane_is j l) (is_one_lt_two (f j))

-- the test of the bit that is driven
by_bit : (f : ℕ → ℕ) (b : ℕ) → b < 2 → cond (eqb b 1) (f 1) (f 0) ≡ f b
by_bit f zero l = refl
by_bit f (suc zero) l = refl
by_bit f (suc (suc b)) l = absurd (omega arith)

pub broken-requires : goal.broken-requires
broken-requires c =
    let w = c.args.set in (
      c.requires,
      lanes_bits (λ j. not (occurs max_wires (member w) j 0)) c.no_zeros.ensures,
      lanes_bits (λ j. not (occurs max_wires (member w) j 1)) c.no_ones.ensures,
    )

pub returns : goal.returns
returns c =
    let i = c in
    let w = i.args.set in (
      λ j l.
          c.broken.ensures.0 j l
          ∙ ap₂ (cond (eqb (lane_of i.args.driven j) 1)) (lane_is (λ j. not (occurs max_wires (member w) j 1)) c.no_ones.ensures j l)
          (lane_is (λ j. not (occurs max_wires (member w) j 0)) c.no_zeros.ensures j l)
          ∙ by_bit (λ b. is_one (not (occurs max_wires (member w) j b))) (lane_of i.args.driven j) (i.requires j l),
      c.broken.ensures.1,
      c.broken.ensures.2,
    )
