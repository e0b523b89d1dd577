-- `driven_on` meets its contract: the tables' section is moved down to the pattern, and the lowest bit of each lane is kept.
use Prim.Native.Nat.{◌%◌}
use mathlib.Core.Path.{ap, ◌∙◌}
use native.Mathlib.Omega.{arith}
use Rattle.table.specs.Bits.{bit}
use Rattle.table.specs.Inner.Pairs.{narrow_patterns}
use Rattle.lanes.specs.Inner.Lanes.{lane_of}
use Rattle.halves.proofs.Driven.{driven_lane, driven_bits}
use Rattle.halves.proofs.tables.driven_on.Goals as goal

pub returns : goal.returns
returns c =
    let r = c.args.p % narrow_patterns in (
      λ j l. driven_lane c.word_of.result r j (omega arith) l ∙ ap (λ x. bit (lane_of x j) r) c.word_of.ensures,
      driven_bits c.word_of.result r (omega arith),
    )
