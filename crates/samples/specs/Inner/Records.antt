-- The records of the input. Numbers of more than one byte come low byte first; bytes past the end count as 0.
use Rattle.std.specs.Prelude.{ℕ, ◌+◌, ◌*◌, cond, List, [], eqb, leb, length, get_or, take, drop}
use Rattle.sheet.specs.Limits.{max_patterns, max_wires}
use Rattle.base.specs.Tabulate.{tabulate}

-- the byte at a place
abbrev pub byte_at : List ℕ → ℕ → ℕ
byte_at s at = get_or s at 0

-- the number of two bytes at a place
abbrev pub two_at : List ℕ → ℕ → ℕ
two_at s at = byte_at s at + 256 * byte_at s (at + 1)

-- the number of four bytes at a place
abbrev pub four_at : List ℕ → ℕ → ℕ
four_at s at = two_at s at + 65536 * two_at s (at + 2)

-- the number of eight bytes at a place
abbrev pub eight_at : List ℕ → ℕ → ℕ
eight_at s at = four_at s at + 4294967296 * four_at s (at + 4)

-- the sets of a relation, two bytes each, and the tables of a stage, eight bytes each, one after the other from a place on
abbrev pub sets_at : List ℕ → ℕ → List ℕ
sets_at s from = tabulate max_patterns (λ i. two_at s (from + 2 * i))

abbrev pub tables_at : List ℕ → ℕ → List ℕ
tables_at s from = tabulate max_wires (λ i. eight_at s (from + 8 * i))

-- `count` bytes from a place on, or none where the bytes end before
unfoldable pub part_of : List ℕ → ℕ → ℕ → List ℕ
part_of s from count = cond (leb (from + count) (length s)) (take count (drop from s)) []

-- the call that a record is for, whichever the board: the small letters q, a, s, w, r are for the board that shares selectors
unfoldable pub call_of : ℕ → ℕ
call_of letter =
    cond (eqb letter 0x71) 0x51 (cond (eqb letter 0x61) 0x41 (cond (eqb letter 0x73) 0x53 (cond (eqb letter 0x77) 0x57 (cond (eqb letter 0x72) 0x52 letter))))

-- the bytes of the record at a place, by its call: Q, A, S, W, R, C; another byte is a record by itself
unfoldable pub record_length : List ℕ → ℕ → ℕ
record_length s at =
    let call = call_of (byte_at s at) in
    cond (eqb call 0x51) (9 + two_at s (at + 7))
    (cond (eqb call 0x41) (5 + two_at s (at + 1) + two_at s (at + 3))
    (cond (eqb call 0x53) (7 + 2 * max_patterns)
    (cond (eqb call 0x57) (5 + 8 * max_wires)
    (cond (eqb call 0x52) (3 + two_at s (at + 1))
    (cond (eqb call 0x43) (5 + two_at s (at + 3)) 1)))))

-- the same with the record of a joint quote, J
unfoldable pub any_record_length : List ℕ → ℕ → ℕ
any_record_length s at = cond (eqb (byte_at s at) 0x4A) (11 + two_at s (at + 7) + two_at s (at + 9)) (record_length s at)
