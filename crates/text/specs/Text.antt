-- Numbers as printed text: bytes of ASCII. Document 01, "Quote, audit, program", for the pairs; its opening, for what is decimal and what is not.
use Rattle.std.specs.Prelude.{ℕ, zero, suc, ◌+◌, ◌-◌, ◌/◌, ◌%◌, cond, List, [], ◌∷◌, ◌++◌, ltb}

-- " "
abbrev pub space : ℕ
space = 0x20

-- the digits 0 to 9
abbrev pub digit : ℕ → ℕ
digit d = 0x30 + d

-- the decimal digits of x, the highest first: those of x / 10, and the last one; k bounds the turns
unfoldable pub digits : ℕ → ℕ → List ℕ
digits zero x = []
digits (suc k) x = let more = digits k (x / 10) ++ digit (x % 10) ∷ [] in cond (ltb x 10) (digit x ∷ []) more

-- all that is not a byte of a sheet or a stage is printed so. A number is above its tenth, so more turns than it counts are enough
unfoldable pub decimal : ℕ → List ℕ
decimal x = digits (suc x) x

-- no number below 2 to the power 64 has more digits
abbrev pub longest_decimal : ℕ
longest_decimal = 20

-- a number after its name
unfoldable pub named : List ℕ → ℕ → List ℕ
named name x = name ++ decimal x

-- the hexadecimal digits: above 9 the capital letters from A on
unfoldable pub hex_digit : ℕ → ℕ
hex_digit d = cond (ltb d 10) (digit d) (0x41 + (d - 10))

-- a byte: its high digit and its low digit, always both
unfoldable pub hex_pair : ℕ → List ℕ
hex_pair b = hex_digit (b / 16) ∷ hex_digit (b % 16) ∷ []

-- the pairs of several bytes have one space between them, and none at either end: the pairs after the first, each after its space
unfoldable pub further_pairs : List ℕ → List ℕ
further_pairs [] = []
further_pairs (b ∷ bs) = space ∷ hex_pair b ++ further_pairs bs

unfoldable pub hex_pairs : List ℕ → List ℕ
hex_pairs [] = []
hex_pairs (b ∷ bs) = hex_pair b ++ further_pairs bs
