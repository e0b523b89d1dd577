-- Bounds on the bytes of a command and on places.
use Rattle.std.specs.Prelude.{ℕ, ◌^◌}

-- no command has more bytes
abbrev pub longest_command : ℕ
longest_command = 4

-- a place that a usize holds is below this
abbrev pub place_range : ℕ
place_range = 2 ^ 64
