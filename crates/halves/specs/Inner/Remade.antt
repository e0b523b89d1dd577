-- The picks of a part, some of which are made again: those of the wires that are marked, in lanes of 0 or 1.
use Rattle.std.specs.Prelude.{ℕ, ◌+◌, ◌^◌, ◌<◌, ◌≤◌, ◌≡◌, Bool, not, cond, Option, None, Some, List, T, eqb, get_or}
use Rattle.sheet.specs.Limits.{max_inputs, max_wires}
use Rattle.table.specs.Bits.{sum}
use Rattle.relation.specs.Inner.Side.{section}
use Rattle.lanes.specs.Inner.Lanes.{lane_of, lanes_of}
use Rattle.parts.specs.Inner.Boards.{lent_wide}
use Rattle.parts.specs.Inner.Cells.{cell_space, byte_in, packed, cells_sum}
use Rattle.parts.specs.Inner.Picks.{pick_on, cells_on}
use Rattle.parts.specs.declared.states.Running.{Running}
use Rattle.parts.specs.Inner.States.{rest_count, SameBut}
use Rattle.halves.specs.declared.Picks.{Picks}

-- wire j is marked
abbrev pub marked : (wires j : ℕ) → Bool
marked wires j = eqb (lane_of wires j) 1

-- the cells of all wires, of which no wire has more than a table can have
abbrev pub FewCells : ℕ → Type 0
FewCells cells = (cells < cell_space ^ max_wires) × ((j : ℕ) → j < max_wires → byte_in cells j < 2 ^ max_inputs)

-- wire j's cells once the marked wires are made again
abbrev pub cells_again : (e words : List ℕ) → (wires cells j : ℕ) → ℕ
cells_again e words wires cells j = cond (marked wires j) (cells_on e words j) (byte_in cells j)

-- wire j's table on section q once they are, from the tables side by side before
abbrev pub side_again : (e words : List ℕ) → (wires side q j : ℕ) → ℕ
side_again e words wires side q j = cond (marked wires j) (section (pick_on e words j) q) (lane_of side j)

-- picks that are kept: all are made, and their cells are below the best
pub record Kept (e words : List ℕ) (wires tables cells : ℕ) (before after : Running) (r : Picks) : Type 0 where
  pub low : r.low ≡ lanes_of (side_again e words wires tables 0)
  pub rest : (i : ℕ) → i < rest_count
      → get_or after.rest i 0 ≡ cond (lent_wide e) (lanes_of (side_again e words wires (get_or before.rest i 0) (i + 1))) (get_or before.rest i 0)
  pub counts : r.cells ≡ packed (cells_again e words wires cells)
  pub under : cells_sum r.cells < before.cells

-- where none are kept, the cells of all wires would be as many as the best at least, if no wire has fewer by being made again
abbrev pub Over : (e words : List ℕ) (wires cells : ℕ) (before : Running) → Type 0
Over e words wires cells before =
    ((j : ℕ) → j < max_wires → byte_in cells j ≤ cells_on e words j) → before.cells ≤ sum max_wires (cells_again e words wires cells)

abbrev pub KeptOrOver : (e words : List ℕ) (wires tables cells : ℕ) (before after : Running) → Option Picks → Type 0
KeptOrOver e words wires tables cells before after (Some r) = Kept e words wires tables cells before after r
KeptOrOver e words wires tables cells before after None = Over e words wires cells before

-- what is told of picks made again
pub record Remade (e words : List ℕ) (wires tables cells : ℕ) (before after : Running) (r : Option Picks) : Type 0 where
  pub same : SameBut before after
  pub narrow : T (not (lent_wide e)) → (i : ℕ) → i < rest_count → get_or after.rest i 0 ≡ get_or before.rest i 0
  pub told : KeptOrOver e words wires tables cells before after r
