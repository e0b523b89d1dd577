-- Document 01, "Unit sheet", and document 02, E5: the limits of a sheet, and tests against them.
use Rattle.std.specs.Prelude.{ℕ, ◌-◌, ◌^◌, min, Bool, ◌||◌, ltb, leb, eqb}

abbrev pub max_inputs : ℕ
max_inputs = 6

-- fewer inputs where the board shares selectors
abbrev pub max_shared_inputs : ℕ
max_shared_inputs = 4

abbrev pub max_wires : ℕ
max_wires = 4

abbrev pub max_gates : ℕ
max_gates = 32

abbrev pub max_outputs : ℕ
max_outputs = 8

-- the patterns of so many inputs, and the values of so many wires
abbrev pub max_patterns : ℕ
max_patterns = 2 ^ max_inputs

abbrev pub max_values : ℕ
max_values = 2 ^ max_wires

-- x is outside 1 to k
abbrev pub count_out : ℕ → ℕ → Bool
count_out x k = eqb x 0 || ltb k x

-- n or m is outside its range, with at most so many inputs
abbrev pub sizes_out : (most n m : ℕ) → Bool
sizes_out most n m = count_out n most || count_out m max_wires

-- x needs more than k bits
abbrev pub is_beyond : ℕ → ℕ → Bool
is_beyond k x = leb (2 ^ k) x

-- a set of values is a number of 2 ^ word_power bits
abbrev pub word_power : ℕ
word_power = 4

abbrev pub word_bits : ℕ
word_bits = 2 ^ word_power

-- 2 ^ k ones, as far as such a number has room for them: all values of k wires, each by its bit
abbrev pub all_ones : ℕ → ℕ
all_ones k = 2 ^ min word_bits (2 ^ k) - 1
