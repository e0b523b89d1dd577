-- Document 01, "Refusals": a refusal is a number with a place. Each number has its name here and nowhere else.
use Rattle.std.specs.Prelude.{ℕ}
use Rattle.base.specs.declared.Refusal.{Refusal}

abbrev pub refusal_at : ℕ → ℕ → Refusal
refusal_at number place = record { number = number; place = place }

-- the input stops before a command is whole
abbrev pub cut_short : ℕ
cut_short = 1

-- no command of the format starts so
abbrev pub unknown : ℕ
unknown = 2

-- an operand too small or too large
abbrev pub out_of_range : ℕ
out_of_range = 3

-- more input behind the last command
abbrev pub trailing : ℕ
trailing = 4

-- a command that is not due now; in a stage sheet also a wire in the wrong order
abbrev pub out_of_turn : ℕ
out_of_turn = 5

-- a signal that no earlier command made; in a list of entries, a number that no earlier entry has
abbrev pub no_signal : ℕ
no_signal = 6

-- a second 02 or 03 for one pattern
abbrev pub repeated : ℕ
repeated = 7

-- a gate or an output beyond the limits
abbrev pub too_many : ℕ
too_many = 8

-- a pattern with no 02 and no 03
abbrev pub missing_row : ℕ
missing_row = 9

-- a pattern on which no value is left
abbrev pub empty : ℕ
empty = 10

-- a selector that tests an input too early for its branch
abbrev pub not_ascending : ℕ
not_ascending = 11

-- too little room for what is to be written
abbrev pub short_buffer : ℕ
short_buffer = 12

-- a stage of other sizes than the sheet's
abbrev pub sizes_differ : ℕ
sizes_differ = 13

-- too much input for the program
abbrev pub too_long : ℕ
too_long = 14

-- more inputs than a board that shares selectors has lines (document 02, E5)
abbrev pub too_wide : ℕ
too_wide = 15
