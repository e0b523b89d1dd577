-- `refused_on` meets its contract: the lowest pattern that the section's words refuse.
use Prim.Native.Nat.{◌*◌}
use native.Mathlib.Omega.{arith}
use Rattle.by_value.specs.Inner.ByValue.{section_words}
use Rattle.visits.proofs.Clearing.{clear, inside_section}
use Rattle.visits.proofs.conflicts.refused_on.Goals as goal

pub returns : goal.returns
returns c =
    let a = c.args in
    let r = c.allowing.result in
    record {
      inside = inside_section r c.first_refused.result c.first_refused.ensures;
      cleared = clear a.whole.now a.q (section_words * a.q) a.tables r c.requires (omega arith) c.allowing.ensures.1 c.first_refused.result c.first_refused.ensures;
    }
