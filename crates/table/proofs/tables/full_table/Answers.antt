use Prim.Native.Nat.{◌-◌, ◌^◌}
use mathlib.Core.Path.{ap, ◌∙◌}
use Rattle.sheet.specs.Limits.{max_patterns}
use Rattle.table.specs.Cells.{full}
use Rattle.table.proofs.Wired.{ones_shifted}
use Rattle.table.proofs.tables.full_table.Goals as goal

-- n inputs have a pattern at least, so that not every bit is shifted out
pub returns : goal.returns
unfolding full
returns c =
    let k = c.patterns_of.result in
    ones_shifted max_patterns k c.patterns_of.ensures.1 ∙ ap (λ e. 2 ^ e - 1) (c.patterns_of.ensures.2 c.requires)
