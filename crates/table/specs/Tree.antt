-- Decision trees (document 01, "Stage sheet"): ordered, with their selectors, and which of these are cells (document 02, E4).
use Rattle.std.specs.Prelude.{ℕ, zero, suc, ◌+◌, ◌-◌, ◌<◌, ◌≤◌, Bool, false, cond, ◌&&◌, eqb}
use Rattle.table.specs.Bits.{bit}
use Rattle.table.specs.Cells.{low, high, selector_cells}

-- a constant (bytes 23 and 24), or a selector (22) with its input and two subtrees, first the one for 0
pub data Tree : Type 0 where
  con : ℕ → Tree
  sel : ℕ → Tree → Tree → Tree

-- each selector's input is above k and above its parent's, and at most n; a constant is 0 or 1
unfoldable pub Ordered : ℕ → ℕ → Tree → Type 0
Ordered n k (con b) = b < 2
Ordered n k (sel i z o) = (k < i) × (i ≤ n) × Ordered n i z × Ordered n i o

-- the constant to which pattern p leads; input i is bit n - i of the pattern (document 01, "Quote, audit, program" and "Unit sheet")
unfoldable pub follow : ℕ → ℕ → Tree → ℕ
follow n p (con b) = b
follow n p (sel i z o) = cond (eqb (bit p (n - i)) 0) (follow n p z) (follow n p o)

-- the selectors of a tree, by which its bytes are counted
unfoldable pub selectors : Tree → ℕ
selectors (con b) = zero
selectors (sel i z o) = suc (selectors z + selectors o)

-- a tree is the constant b itself, and no larger one that is worth as much
unfoldable pub is_con : ℕ → Tree → Bool
is_con b (con a) = eqb a b
is_con b (sel i z o) = false

-- a selector with these two trees is soldered through (E4)
unfoldable pub wired_trees : (z o : Tree) → Bool
wired_trees z o = is_con 0 z && is_con 1 o

-- the cells of a tree: its selectors but for those that are soldered through
unfoldable pub tree_cells : Tree → ℕ
tree_cells (con b) = zero
tree_cells (sel i z o) = selector_cells (wired_trees z o) + (tree_cells z + tree_cells o)

-- the tree that the writer emits: of a table of r inputs, which stand after k others; no selector where both halves are the same
unfoldable pub reduced : ℕ → ℕ → ℕ → Tree
reduced zero k t = con t
reduced (suc r) k t =
    let z = reduced r (suc k) (low r t) in
    let s = sel (suc k) z (reduced r (suc k) (high r t)) in
    cond (eqb (low r t) (high r t)) z s
