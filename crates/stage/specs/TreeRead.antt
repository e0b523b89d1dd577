-- Document 01, "Stage sheet" and "Refusals": reading a wire that is a decision tree. For one command the refusals come in the order 2, 5, 1, 3, 11.
use Rattle.std.specs.Prelude.{ℕ, zero, suc, ◌+◌, ◌-◌, Bool, false, cond, ◌||◌, List, [], ◌∷◌, leb, eqb}
use Rattle.base.specs.Refusals.{refusal_at, cut_short, out_of_range, not_ascending}
use Rattle.sheet.specs.Limits.{count_out}
use Rattle.table.specs.Tree.{Tree, con, sel}
use Rattle.stage.specs.Steps.{Read, taken, fault, and_then, unless_refused, misplaced, due, operand, turn_number}

-- the first bytes of the sheet's commands
abbrev pub tree_known : ℕ → Bool
tree_known b = eqb b 0x20 || eqb b 0x21 || eqb b 0x22 || eqb b 0x23 || eqb b 0x24 || eqb b 0x2F

-- the two trees of a selector on input i, one after the other
unfoldable pub branches_at : (ℕ → List ℕ → Read Tree) → ℕ → ℕ → List ℕ → Read Tree
branches_at branch i at rest =
    and_then (branch at rest) (λ z at' rest'. and_then (branch at' rest') (λ o at'' rest''. taken (sel i z o) at'' rest''))

-- 22 i below a selector on input k: 3 where there is no input i, 11 where i does not come after k
unfoldable pub selector_at : (ℕ → ℕ → List ℕ → Read Tree) → ℕ → ℕ → ℕ → List ℕ → Read Tree
selector_at branch n k at =
    operand fault at
    (λ i rest.
    cond (count_out i n) (fault (refusal_at out_of_range at))
    (cond (leb i k) (fault (refusal_at not_ascending at)) (branches_at (branch i) i (at + 2) rest)))

-- a tree below a selector on input k, where `branch i` reads a tree below a selector on input i
unfoldable pub tree_from : (ℕ → ℕ → List ℕ → Read Tree) → ℕ → ℕ → ℕ → List ℕ → Read Tree
tree_from branch n k at [] = fault (refusal_at cut_short at)
tree_from branch n k at (b ∷ rest) =
    cond (eqb b 0x23) (taken (con 0) (at + 1) rest)
    (cond (eqb b 0x24) (taken (con 1) (at + 1) rest)
    (cond (eqb b 0x22) (selector_at branch n k at rest) (fault (refusal_at (misplaced tree_known b) at))))

unfoldable pub tree_within : ℕ → ℕ → ℕ → ℕ → List ℕ → Read Tree
tree_within zero n k at bytes = fault (refusal_at not_ascending at)
tree_within (suc depth) n k at bytes = tree_from (tree_within depth n) n k at bytes

-- a tree below a selector on input k; k is 0 below none. Inputs ascend and are at most n, so below input k stand at most n - k selectors
-- one below the other, and then a constant: that depth is enough (proofs/TreeReading, `tree_is`, unfolds a tree with no regard to it).
unfoldable pub tree_at : ℕ → ℕ → ℕ → List ℕ → Read Tree
tree_at n k at bytes = tree_within (suc (n - k)) n k at bytes

-- 21 i and the tree of wire j, which is due: 3 where there is no wire i, 5 where i is another wire than j
unfoldable pub tree_wire_at : ℕ → ℕ → ℕ → ℕ → List ℕ → Read Tree
tree_wire_at n m j at =
    due tree_known fault 0x21 at
    (operand fault at (λ i rest. unless_refused fault at (turn_number m j i false) (tree_at n 0 (at + 2) rest)))
