-- The tables of all wires in one number, a section at a time: so many patterns that four sections fill it.
use Rattle.std.specs.Prelude.{ℕ, ◌+◌, ◌*◌, ◌/◌, ◌%◌, ◌^◌, List, get_or}
use Rattle.sheet.specs.Limits.{max_wires}
use Rattle.table.specs.Bits.{bit, of_bits}
use Rattle.table.specs.Inner.Pairs.{narrow_patterns}
use Rattle.table.specs.Inner.Ranks.{narrow_space}

-- section q of a table: its bits on narrow_patterns patterns, from narrow_patterns * q on
unfoldable pub section : (t q : ℕ) → ℕ
section t q = t / 2 ^ (narrow_patterns * q) % narrow_space

-- section q of all wires' tables side by side in one number
unfoldable pub side_by_side : List ℕ → ℕ → ℕ
side_by_side tables q =
    section (get_or tables 0 0) q
    + section (get_or tables 1 0) q * 2 ^ narrow_patterns
    + section (get_or tables 2 0) q * 2 ^ (2 * narrow_patterns)
    + section (get_or tables 3 0) q * 2 ^ (3 * narrow_patterns)

-- the value on the p-th pattern of the section: wire j is bit p of its own section
unfoldable pub value_in : ℕ → ℕ → ℕ
value_in x p = of_bits max_wires (λ j. bit x (narrow_patterns * j + p))
