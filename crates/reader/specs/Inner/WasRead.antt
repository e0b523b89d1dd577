-- What was gathered, where it comes from a sheet that was read.
use Rattle.std.specs.Prelude.{ℕ, ◌≡◌, List}
use Rattle.sheet.specs.declared.Command.{Command}
use Rattle.sheet.specs.declared.Sheet.{Sheet}
use Rattle.sheet.specs.Gathered.{gathered}
use Rattle.sheet.specs.Judged.{holds}
use Rattle.reader.specs.Reading.{reading_of}

-- a sheet that was gathered from the commands of an accepted reading
pub record WasRead (sheet : Sheet) : Type 0 where
  pub bytes : List ℕ
  pub commands : List Command
  pub held : reading_of bytes ≡ holds commands
  pub gathers : sheet ≡ gathered commands
