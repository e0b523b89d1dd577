-- Document 01, "Unit sheet": the bytes of a command, its first byte and its operands.
use Rattle.std.specs.Prelude.{ℕ, ◌/◌, ◌%◌, List, [], ◌∷◌}
use Rattle.sheet.specs.declared.Command.{Command}
use Rattle.sheet.specs.declared.Command.TheVariants.{End, Sizes, Row, DontCare, Gate, Output, Limit}
use Rattle.sheet.specs.Commands.{collect}

-- the set of 06 takes two bytes, the lower first
abbrev pub command_bytes : Command → List ℕ
command_bytes End = 0 ∷ []
command_bytes (Sizes n m) = 1 ∷ n ∷ m ∷ []
command_bytes (Row p v) = 2 ∷ p ∷ v ∷ []
command_bytes (DontCare p) = 3 ∷ p ∷ []
command_bytes (Gate k a b) = 4 ∷ k ∷ a ∷ b ∷ []
command_bytes (Output s) = 5 ∷ s ∷ []
command_bytes (Limit p w) = 6 ∷ p ∷ w % 256 ∷ w / 256 ∷ []

-- commands one after the other, with nothing between
abbrev pub bytes_of : List Command → List ℕ
bytes_of = collect command_bytes
