-- The pick between two masks, and a pick as one number.
use Rattle.std.specs.Prelude.{ℕ, ◌+◌, ◌*◌, ◌^◌, cond, eqb}
use Rattle.table.specs.Bits.{bit}
use Rattle.table.specs.Cells.{cells}
use Rattle.table.specs.Pick.{Proj, least_of, or_zero}
use Rattle.table.specs.Inner.Pairs.{narrow_patterns}

-- the projection that two masks tell: 0 may stand on the patterns of zeros, 1 on those of ones
unfoldable pub masked : ℕ → ℕ → Proj
masked zeros ones p b = eqb (bit (cond (eqb b 0) zeros ones) p) 1

-- the pick between two masks, by a key
unfoldable pub pick_of : (ℕ → ℕ) → ℕ → ℕ → ℕ → ℕ
pick_of key n zeros ones = or_zero (least_of key n (masked zeros ones))

-- tables of so few inputs that their masks are one number: this is above them all
abbrev pub narrow_space : ℕ
narrow_space = 2 ^ narrow_patterns

-- such a table and its cells, by a count of cells, as one number: the lesser number is the better pick
unfoldable pub rank : (ℕ → ℕ) → ℕ → ℕ
rank count t = count t * narrow_space + t

-- The key by which picks of trees are found: one more than the cells. So the keys of two halves add up to that of both under a selector which is a cell.
abbrev pub pick_key : ℕ → ℕ → ℕ
pick_key n t = 1 + cells n t
