-- Document 01, "Stage sheet": a wire that is a decision tree, as bytes.
use Rattle.std.specs.Prelude.{ℕ, ◌+◌, ◌*◌, ◌-◌, cond, List, [], ◌∷◌, ◌++◌, eqb}
use Rattle.sheet.specs.Limits.{max_wires, max_patterns}
use Rattle.table.specs.Tree.{Tree, con, sel}
use Rattle.stage.specs.Bytes.{sheet_frame, selector_bytes}

-- a constant is one byte
abbrev pub constant_byte : ℕ → ℕ
constant_byte b = cond (eqb b 0) 0x23 0x24

-- a tree from its top down: a selector is 22 and its input, then the tree where the input is 0, then the tree where it is 1
unfoldable pub tree_bytes : Tree → List ℕ
tree_bytes (con b) = constant_byte b ∷ []
tree_bytes (sel k z o) = 0x22 ∷ k ∷ tree_bytes z ++ tree_bytes o

-- wire j: 21 and its number, then its tree
abbrev pub tree_wire_bytes : ℕ → Tree → List ℕ
tree_wire_bytes j x = 0x21 ∷ j ∷ tree_bytes x

-- what a tree takes besides its selectors: it has one constant more than selectors
abbrev pub tree_frame : ℕ
tree_frame = 3

-- no stage of trees has more selectors, whoever wrote it: an ordered tree has fewer than there are patterns, 64 since E5 of document 02
abbrev pub most_selectors : ℕ
most_selectors = max_wires * (max_patterns - 1)

-- and none is longer
abbrev pub longest_stage : ℕ
longest_stage = sheet_frame + tree_frame * max_wires + selector_bytes * most_selectors
