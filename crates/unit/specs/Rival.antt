-- Document 01, "Quote, audit, program": a rival, told by the commands of the sheet and by nothing that the code gathers from them, over what a drawing is.
use Rattle.std.specs.Prelude.{ℕ, ◌^◌, ◌<◌, ◌≡◌, List}
use Rattle.base.specs.Each.{Each}
use Rattle.table.specs.Bits.{bit}
use Rattle.table.specs.Drawing.{Drawing, Drawn, drawn_value}
use Rattle.sheet.specs.declared.Command.{Command}
use Rattle.sheet.specs.Commands.{inputs_of, wires_of, rows_on, limits_on}
use Rattle.sheet.specs.Judged.{holds}
use Rattle.reader.specs.Reading.{reading_of}
use Rattle.unit.specs.Gates.{outputs_for}

-- a value keeps to what the commands say of pattern p
pub record Obeys (cs : List Command) (p v : ℕ) : Type 0 where
  -- it is in the set of each limit on p
  pub permitted : Each (λ w. bit w v ≡ 1) (limits_on p cs)
  -- where p has a present value, the outputs are those of that value
  pub answers : Each (λ u. outputs_for cs v ≡ outputs_for cs u) (rows_on p cs)

-- a rival of the sheet in these bytes: a stage drawn in the sheet's sizes, whose value keeps to the commands on every pattern
pub record Rival (D : Drawing) (bytes : List ℕ) (stage : List D.Shape) : Type 0 where
  pub commands : List Command
  pub held : reading_of bytes ≡ holds commands
  pub drawn : Drawn D (inputs_of commands) (wires_of commands) stage
  pub obeys : (p : ℕ) → p < 2 ^ inputs_of commands → Obeys commands p (drawn_value D (inputs_of commands) stage p)
