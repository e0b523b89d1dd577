-- `count8` meets its contract: the table's halving rule is one test over all of its entries.
use borrow.Author.Rules.{rules}
use mathlib.Core.List.{List, [], ◌∷◌}
use mathlib.Core.Bool.{Bool}
use Prim.Native.Nat.{ℕ}
use lib.Dec.{eqb, eqb→eq}
use lib.ListN.{get_or}
use Rattle.table.specs.Cells.{low, high, full, wired_table, selector_cells, cells}
use Rattle.base.proofs.Table.{at}
use Rattle.table.proofs.cell_counts.count8.Goals as goal

-- `count8` meets its contract: the table's halving rule is one test over all of its entries.
-- the entries as the code has them
table : List ℕ
table =
    0 ∷ 3 ∷ 2 ∷ 2 ∷ 3 ∷ 2 ∷ 3 ∷ 3 ∷ 2 ∷ 3 ∷ 1 ∷ 2 ∷ 1 ∷ 3 ∷ 2 ∷ 1 ∷ 3 ∷ 2 ∷ 4 ∷ 4 ∷ 5 ∷ 4 ∷ 5 ∷ 5 ∷ 4 ∷ 5 ∷ 3 ∷ 4 ∷ 3 ∷ 5 ∷ 4 ∷ 3 ∷
    2 ∷ 4 ∷ 1 ∷ 3 ∷ 4 ∷ 3 ∷ 4 ∷ 4 ∷ 3 ∷ 4 ∷ 2 ∷ 3 ∷ 2 ∷ 4 ∷ 3 ∷ 2 ∷ 2 ∷ 4 ∷ 3 ∷ 1 ∷ 4 ∷ 3 ∷ 4 ∷ 4 ∷ 3 ∷ 4 ∷ 2 ∷ 3 ∷ 2 ∷ 4 ∷ 3 ∷ 2 ∷
    3 ∷ 5 ∷ 4 ∷ 4 ∷ 2 ∷ 4 ∷ 5 ∷ 5 ∷ 4 ∷ 5 ∷ 3 ∷ 4 ∷ 3 ∷ 5 ∷ 4 ∷ 3 ∷ 2 ∷ 4 ∷ 3 ∷ 3 ∷ 4 ∷ 1 ∷ 4 ∷ 4 ∷ 3 ∷ 4 ∷ 2 ∷ 3 ∷ 2 ∷ 4 ∷ 3 ∷ 2 ∷
    3 ∷ 5 ∷ 4 ∷ 4 ∷ 5 ∷ 4 ∷ 2 ∷ 5 ∷ 4 ∷ 5 ∷ 3 ∷ 4 ∷ 3 ∷ 5 ∷ 4 ∷ 3 ∷ 3 ∷ 5 ∷ 4 ∷ 4 ∷ 5 ∷ 4 ∷ 5 ∷ 2 ∷ 4 ∷ 5 ∷ 3 ∷ 4 ∷ 3 ∷ 5 ∷ 4 ∷ 3 ∷
    2 ∷ 4 ∷ 3 ∷ 3 ∷ 4 ∷ 3 ∷ 4 ∷ 4 ∷ 1 ∷ 4 ∷ 2 ∷ 3 ∷ 2 ∷ 4 ∷ 3 ∷ 2 ∷ 3 ∷ 5 ∷ 4 ∷ 4 ∷ 5 ∷ 4 ∷ 5 ∷ 5 ∷ 4 ∷ 2 ∷ 3 ∷ 4 ∷ 3 ∷ 5 ∷ 4 ∷ 3 ∷
    1 ∷ 3 ∷ 2 ∷ 2 ∷ 3 ∷ 2 ∷ 3 ∷ 3 ∷ 2 ∷ 3 ∷ 0 ∷ 2 ∷ 1 ∷ 3 ∷ 2 ∷ 1 ∷ 2 ∷ 4 ∷ 3 ∷ 3 ∷ 4 ∷ 3 ∷ 4 ∷ 4 ∷ 3 ∷ 4 ∷ 2 ∷ 1 ∷ 2 ∷ 4 ∷ 3 ∷ 2 ∷
    1 ∷ 3 ∷ 2 ∷ 2 ∷ 3 ∷ 2 ∷ 3 ∷ 3 ∷ 2 ∷ 3 ∷ 1 ∷ 2 ∷ 0 ∷ 3 ∷ 2 ∷ 1 ∷ 3 ∷ 5 ∷ 4 ∷ 4 ∷ 5 ∷ 4 ∷ 5 ∷ 5 ∷ 4 ∷ 5 ∷ 3 ∷ 4 ∷ 3 ∷ 2 ∷ 4 ∷ 3 ∷
    2 ∷ 4 ∷ 3 ∷ 3 ∷ 4 ∷ 3 ∷ 4 ∷ 4 ∷ 3 ∷ 4 ∷ 2 ∷ 3 ∷ 2 ∷ 4 ∷ 1 ∷ 2 ∷ 0 ∷ 3 ∷ 2 ∷ 2 ∷ 3 ∷ 2 ∷ 3 ∷ 3 ∷ 2 ∷ 3 ∷ 1 ∷ 2 ∷ 1 ∷ 3 ∷ 2 ∷ 0 ∷
    []

right : ℕ → ℕ → Bool
right k x = eqb x (cells 3 k)

pub returns : goal.returns
unfolding table right cells low high full wired_table selector_cells
returns c = eqb→eq (get_or table c.args.t 0) (cells 3 c.args.t) (at right table tt c.args.t (search rules))
