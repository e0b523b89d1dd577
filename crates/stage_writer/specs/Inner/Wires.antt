-- A wire's bytes by the board, as the length of a stage is told (document 01, "Stage sheet"; document 02, E2): the frame of a wire, and its selectors.
use Rattle.std.specs.Prelude.{ℕ, [], length}
use Rattle.nodes.specs.declared.BoardKind.{BoardKind}
use Rattle.nodes.specs.declared.BoardKind.TheVariants.{Tree, Sharing}
use Rattle.table.specs.Tree.{selectors, reduced}
use Rattle.nodes.specs.Nodes.{listing}
use Rattle.stage.specs.TreeBytes.{tree_frame}
use Rattle.diagram.specs.Bytes.{diagram_frame}

abbrev pub frame_of : BoardKind → ℕ
frame_of Tree = tree_frame
frame_of Sharing = diagram_frame

-- the selectors of what is written of a table of n inputs
abbrev pub selectors_of : BoardKind → ℕ → ℕ → ℕ
selectors_of Tree n t = selectors (reduced n 0 t)
selectors_of Sharing n t = length (listing n t [])
