-- Document 02, E2: the diagram that the writer makes of a table, with one entry for each node in the order of the listing.
use Rattle.std.specs.Prelude.{ℕ, zero, suc, ◌+◌, ◌-◌, cond, List, [], ◌∷◌, eqb, length}
use Rattle.table.specs.Cells.{low, high}
use Rattle.nodes.specs.Nodes.{Node, node, same, listing}
use Rattle.diagram.specs.Diagram.{Entry, entry, Diagram, diagram, first_number}

-- the number of a node that is listed
unfoldable pub node_number : List Node → Node → ℕ
node_number [] k = zero
node_number (x ∷ before) k = cond (same k x) (length before + first_number) (node_number before k)

-- the number of a table of so many inputs: a constant's; or the node's that is left once the inputs are passed over that it does not need
unfoldable pub number_of : List Node → ℕ → ℕ → ℕ
number_of ks zero t = t
number_of ks (suc r) t =
    let passed = number_of ks r (low r t) in
    cond (eqb (low r t) (high r t)) passed (node_number ks (node r t))

-- a node as an entry: the first of its inputs, of n in all, and the numbers of its halves among those listed before
abbrev pub entry_of : ℕ → List Node → Node → Entry
entry_of n before k =
    entry (n - k.after) (number_of before k.after (low k.after k.table)) (number_of before k.after (high k.after k.table))

unfoldable pub entries_of : ℕ → List Node → List Entry
entries_of n [] = []
entries_of n (k ∷ before) = entry_of n before k ∷ entries_of n before

unfoldable pub reduced_diagram : ℕ → ℕ → Diagram
reduced_diagram n t = let ks = listing n t [] in diagram (entries_of n ks) (number_of ks n t)
