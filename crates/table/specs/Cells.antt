-- Document 01, "Cells", and document 02, E4: how many cells the reduced ordered decision tree of a table has.
-- Bit p of a table is the wire on pattern p, so a table of n inputs is a number below 2 ^ (2 ^ n).
use Rattle.std.specs.Prelude.{ℕ, zero, suc, ◌+◌, ◌-◌, ◌^◌, ◌/◌, ◌%◌, Bool, cond, ◌&&◌, List, eqb, get_or}
use Rattle.table.specs.Bits.{sum}

-- the halves of a table of n + 1 inputs by its first input: `low` where that is 0, `high` where it is 1
unfoldable pub low : ℕ → ℕ → ℕ
low n t = t % 2 ^ (2 ^ n)

unfoldable pub high : ℕ → ℕ → ℕ
high n t = t / 2 ^ (2 ^ n)

-- the table of n inputs that is 1 on every pattern, for any n: no word cuts it off
unfoldable pub full : ℕ → ℕ
full n = 2 ^ (2 ^ n) - 1

-- a table of n + 1 inputs that is the first of them (the projection function of that input): 0 throughout its lower half and 1 throughout its upper half
unfoldable pub wired_table : ℕ → ℕ → Bool
wired_table n t = eqb (low n t) 0 && eqb (high n t) (full n)

-- the cells of one selector, by whether it is soldered through (E4): then it is none
unfoldable pub selector_cells : Bool → ℕ
selector_cells wired = cond wired 0 1

-- a selector where the halves differ, and the cells below it; none of its own where they are the same
unfoldable pub cells : ℕ → ℕ → ℕ
cells zero t = zero
cells (suc n) t =
    let a = cells n (low n t) in
    let b = selector_cells (wired_table n t) + (a + cells n (high n t)) in
    cond (eqb (low n t) (high n t)) a b

-- the tables of a list, in the order of the wires; 0 past its end
abbrev pub wires : List ℕ → ℕ → ℕ
wires ts j = get_or ts j 0

-- the count of each of m wires' tables, summed: with `cells`, the cells of a stage
unfoldable pub total : (ℕ → ℕ) → ℕ → (ℕ → ℕ) → ℕ
total count m X = sum m (λ j. count (X j))
