-- Document 02, E1: two sheets that say the same, told by their commands alone.
use Rattle.std.specs.Prelude.{ℕ, ◌≡◌, List}
use Rattle.sheet.specs.declared.Command.{Command}
use Rattle.sheet.specs.Commands.{inputs_of, wires_of, rows_on, dont_cares_on, gates_of, outputs_of}
use Rattle.sheet.specs.Gathered.{limit_on}

pub record SaySame (cs ds : List Command) : Type 0 where
  -- n and m
  pub inputs : inputs_of cs ≡ inputs_of ds
  pub wires : wires_of cs ≡ wires_of ds
  -- of each pattern its 02, its 03, and the values that all its 06 permit together
  pub rows : (p : ℕ) → rows_on p cs ≡ rows_on p ds
  pub dont_cares : (p : ℕ) → dont_cares_on p cs ≡ dont_cares_on p ds
  pub permitted : (p : ℕ) → limit_on p cs ≡ limit_on p ds
  -- the gates and the outputs, each in their order
  pub gates : gates_of cs ≡ gates_of ds
  pub outputs : outputs_of cs ≡ outputs_of ds
