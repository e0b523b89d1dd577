-- The picks of all wires: their tables, and their cells in one number.
use Rattle.std.specs.Prelude.{ℕ, ◌+◌, ◌*◌, List}
use Rattle.sheet.specs.Limits.{max_wires}
use Rattle.nodes.specs.declared.BoardKind.{BoardKind}
use Rattle.nodes.specs.Counts.{count_of}
use Rattle.table.specs.Bits.{tabulate}
use Rattle.table.specs.Inner.Ranks.{narrow_space, pick_of}
use Rattle.relation.specs.Inner.Side.{section}
use Rattle.relation.specs.Inner.Masks.{mask_of}
use Rattle.parts.specs.Inner.Words.{zeros_of, ones_of}
use Rattle.parts.specs.Inner.Cells.{packed}
use Rattle.parts.specs.Inner.Boards.{lent_kind, lent_inputs}

-- the pick between the masks that words tell of wire j
unfoldable pub pick_between : BoardKind → ℕ → List ℕ → ℕ → ℕ
pick_between kind n words j = pick_of (count_of kind n) n (zeros_of words j) (ones_of words j)

-- a wire's pick, and all wires' picks with their cells
unfoldable pub table_of : BoardKind → ℕ → List ℕ → ℕ → ℕ
table_of kind n sets j = pick_of (count_of kind n) n (mask_of sets j 0) (mask_of sets j 1)

unfoldable pub tables_of : BoardKind → ℕ → List ℕ → List ℕ
tables_of kind n sets = tabulate max_wires (table_of kind n sets)

unfoldable pub cells_of : BoardKind → ℕ → List ℕ → ℕ
cells_of kind n sets = packed (λ j. count_of kind n (table_of kind n sets j))

-- on the board whose table is lent: the pick, and its cells
abbrev pub pick_on : (e words : List ℕ) → ℕ → ℕ
pick_on e words j = pick_between (lent_kind e) (lent_inputs e) words j

abbrev pub cells_on : (e words : List ℕ) → ℕ → ℕ
cells_on e words j = count_of (lent_kind e) (lent_inputs e) (pick_on e words j)

-- both in one number: the cells, and the table on the first section
abbrev pub side_rank : (e words : List ℕ) → ℕ → ℕ
side_rank e words j = cells_on e words j * narrow_space + section (pick_on e words j) 0
