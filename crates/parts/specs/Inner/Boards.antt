-- A board and its inputs as one number, and the table that picks on it are made from.
-- The number stands behind the entries of that table and goes with it down the whole search, so that no call has one number more.
use Rattle.std.specs.Prelude.{ℕ, ◌+◌, ◌%◌, ◌^◌, ◌≤◌, ◌≡◌, Bool, cond, List, ltb, leb, get_or}
use Rattle.nodes.specs.declared.BoardKind.{BoardKind}
use Rattle.nodes.specs.declared.BoardKind.TheVariants.{Tree, Sharing}
use Rattle.nodes.specs.Counts.{most_inputs}
use Rattle.table.specs.Inner.Pairs.{narrow_inputs}
use Rattle.table.specs.Inner.Blocks.{entries, Blocks}
use Rattle.nodes.specs.Inner.Tops.{Tops}

-- what marks the board that shares: above the inputs of every board
abbrev pub sharing_mark : ℕ
sharing_mark = 8

-- what marks a board of trees with more inputs than the masks of one number have: above every number of the other boards
abbrev pub wide_mark : ℕ
wide_mark = 16

unfoldable pub board_number : BoardKind → ℕ → ℕ
board_number Tree n = cond (leb n narrow_inputs) n (wide_mark + n)
board_number Sharing n = sharing_mark + n

unfoldable pub kind_in : ℕ → BoardKind
kind_in board = cond (ltb board sharing_mark) Tree (cond (ltb board wide_mark) Sharing Tree)

unfoldable pub board_inputs : ℕ → ℕ
board_inputs board = board % sharing_mark

-- the board of a table that is lent for picks: its number stands behind the entries, and behind that the number of wires
unfoldable pub board_in : List ℕ → ℕ
board_in e = get_or e entries 0

unfoldable pub lent_wires : List ℕ → ℕ
lent_wires e = get_or e (entries + 1) 0

-- and behind that the number of patterns
unfoldable pub lent_count : List ℕ → ℕ
lent_count e = get_or e (entries + 2) 0

-- the board of the table is wide
abbrev pub lent_wide : List ℕ → Bool
lent_wide e = leb wide_mark (board_in e)

abbrev pub lent_kind : List ℕ → BoardKind
lent_kind e = kind_in (board_in e)

abbrev pub lent_inputs : List ℕ → ℕ
lent_inputs e = board_inputs (board_in e)

-- the entries that a board's picks are made from
abbrev pub LentFor : BoardKind → List ℕ → Type 0
LentFor Tree e = Blocks e
LentFor Sharing e = Tops e

-- a table that is lent with its board's number
pub record Lent (e : List ℕ) : Type 0 where
  pub number : board_in e ≡ board_number (lent_kind e) (lent_inputs e)
  pub least : 1 ≤ lent_inputs e
  pub most : lent_inputs e ≤ most_inputs (lent_kind e)
  pub table : LentFor (lent_kind e) e
  pub count : lent_count e ≡ 2 ^ lent_inputs e
