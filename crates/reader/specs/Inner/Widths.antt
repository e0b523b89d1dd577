-- How many bytes a command has, as the reader looks it up.
use Rattle.std.specs.Prelude.{ℕ, cond, eqb, Option, Some, None}
use Rattle.reader.specs.Reader.{width_of}

-- none where no command begins with the byte
abbrev pub width_known : ℕ → Option ℕ
width_known b = cond (eqb (width_of b) 0) None (Some (width_of b))
