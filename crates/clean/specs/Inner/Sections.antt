-- What a section of a copy says of a pattern, a gate or an output, as the code has it: a command or none.
use Rattle.std.specs.Prelude.{List, [], ◌∷◌, Option, Some, None}
use Rattle.sheet.specs.declared.Command.{Command}

abbrev pub commands_in : Option Command → List Command
commands_in None = []
commands_in (Some c) = c ∷ []
