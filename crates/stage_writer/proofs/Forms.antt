-- Laws of the length of a stage on either board.
use Prim.Native.Nat.{ℕ, ◌+◌, ◌*◌, ◌≤◌}
use mathlib.Core.Path.{◌≡◌}
use mathlib.Core.List.{List}
use lib.ListN.{length}
use Rattle.nodes.specs.declared.BoardKind.{BoardKind}
use Rattle.nodes.specs.declared.BoardKind.TheVariants.{Tree, Sharing}
use Rattle.table.specs.Cells.{wires, total}
use Rattle.stage.specs.Bytes.{sheet_frame, selector_bytes}
use Rattle.stage.specs.Written.{stage_of}
use Rattle.stage.proofs.TreeForm.{stage_length as trees_length}
use Rattle.diagram.specs.Forms.{form_of}
use Rattle.diagram.proofs.DiagramForm.{stage_length as diagrams_length}
use Rattle.stage_writer.specs.Inner.Wires.{frame_of, selectors_of}

-- the length by wires and selectors
pub form_length : (kind : BoardKind) (n m : ℕ) (tables : List ℕ) → m ≤ length tables
    → length (stage_of (form_of kind) n m tables) ≡ sheet_frame + frame_of kind * m + selector_bytes * total (selectors_of kind n) m (wires tables)
form_length Tree n m tables h = trees_length n m tables h
form_length Sharing n m tables h = diagrams_length n m tables h
