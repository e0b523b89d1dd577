-- A wire that was read has no more cells than a diagram has entries, on either board.
use Prim.Native.Nat.{ℕ, ◌≤◌}
use mathlib.Core.Path.{◌≡◌}
use mathlib.Core.List.{List, [], ◌∷◌}
use native.Mathlib.Omega.{arith}
use lib.ListN.{length}
use Rattle.sheet.specs.Limits.{max_inputs}
use Rattle.nodes.specs.declared.BoardKind.{BoardKind}
use Rattle.nodes.specs.declared.BoardKind.TheVariants.{Tree, Sharing}
use Rattle.table.proofs.Trees.{tree_cells_most}
use Rattle.table.proofs.Wired.{selector_most}
use Rattle.stage.proofs.TreeTables.{selectors_few}
use Rattle.diagram.specs.Diagram.{Entry, most_entries, wired_entry, entry_price, entries_cells}
use Rattle.diagram.specs.Forms.{form_of, drawing_of}
use Rattle.diagram.proofs.Forms.{form_laws}
use Rattle.stage_reader.specs.Inner.Wires.{taken_wire, step_of}
use Rattle.stage_reader.proofs.Gather.{wire_there, wire_took}

pub entries_few : (es : List Entry) → entries_cells es ≤ length es
unfolding entries_cells entry_price
entries_few [] = omega arith
entries_few (e ∷ es) = omega (arith, selector_most (wired_entry e), entries_few es)

cells_few : (kind : BoardKind) (n : ℕ) (x : (form_of kind).Shape) → n ≤ max_inputs → (form_of kind).WellFormed n x → (form_of kind).cells x ≤ most_entries
cells_few Tree n x h w = omega (arith, tree_cells_most x, selectors_few n 0 x (omega arith) h w)
cells_few Sharing n x h w = omega (arith, entries_few x.entries, w.few)

pub wire_few : (kind : BoardKind) (s : List ℕ) (n m j at t c next : ℕ)
    → taken_wire t c next ≡ step_of (drawing_of kind) n (wire_there (form_of kind) s n m j at) → n ≤ max_inputs → c ≤ most_entries
wire_few kind s n m j at t c next e h =
    let w = wire_took (form_of kind) (form_laws kind) s n m j at t c next e in
    rw w.cells (cells_few kind n w.shape h w.formed)
