-- Lengths that the program's functions are told by.
use Rattle.std.specs.Prelude.{ℕ}

-- room for a line on standard error: as many bytes as `LONGEST_LINE` of src/messages.rt says
abbrev pub longest_line : ℕ
longest_line = 4200
