-- Document 02, E2: the cells of a wire on the board that shares selectors, which are the nodes of the reduced ordered binary decision diagram of its table
-- (no complement edges) but for the plain inputs among them (E4). A node stands for a subfunction: what is left of the table once its first inputs have
-- their values.
use Rattle.std.specs.Prelude.{ℕ, zero, suc, ◌+◌, Bool, false, cond, ◌&&◌, ◌||◌, List, [], ◌∷◌, eqb}
use Rattle.table.specs.Cells.{low, high, wired_table, selector_cells}

-- a subfunction whose halves differ, so that it needs a selector: how many inputs stand after the one that it tests, and its table, of one input more
pub record Node : Type 0 where
  pub after : ℕ
  pub table : ℕ

abbrev pub node : ℕ → ℕ → Node
node r t = record { after = r; table = t }

-- the same subfunction
unfoldable pub same : Node → Node → Bool
same a b = eqb a.after b.after && eqb a.table b.table

unfoldable pub has : List Node → Node → Bool
has [] k = false
has (x ∷ xs) k = same k x || has xs k

-- What is listed once a table of so many inputs was visited, where `seen` was listed before; the latest stands first. A table whose halves are the same needs
-- no selector, and its half is visited in its place. Any other is listed where it is not listed yet: behind all that its half for 0 lists, and then its half for 1.
unfoldable pub listing : ℕ → ℕ → List Node → List Node
listing zero t seen = seen
listing (suc r) t seen =
    let low_listed = listing r (low r t) seen in
    let both_listed = node r t ∷ listing r (high r t) low_listed in
    let listed = cond (has seen (node r t)) seen both_listed in
    cond (eqb (low r t) (high r t)) low_listed listed

-- what a node counts for: none where its table is the input that it tests, whose line is soldered through (document 02, E4)
unfoldable pub price : Node → ℕ
price k = selector_cells (wired_table k.after k.table)

unfoldable pub weight : (Node → ℕ) → List Node → ℕ
weight cost [] = zero
weight cost (k ∷ ks) = cost k + weight cost ks

-- the nodes of a table of n inputs, each at its price
unfoldable pub nodes : ℕ → ℕ → ℕ
nodes n t = weight price (listing n t [])
