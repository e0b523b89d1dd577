-- The form of stage sheets and the drawings, by the board.
use Rattle.nodes.specs.declared.BoardKind.{BoardKind}
use Rattle.nodes.specs.declared.BoardKind.TheVariants.{Tree, Sharing}
use Rattle.table.specs.Drawing.{Drawing}
use Rattle.stage.specs.Form.{StageForm}
use Rattle.stage.specs.Read.{drawing}
use Rattle.stage.specs.Trees.{tree_form}
use Rattle.diagram.specs.Diagrams.{diagram_form}

abbrev pub form_of : BoardKind → StageForm
form_of Tree = tree_form
form_of Sharing = diagram_form

abbrev pub drawing_of : BoardKind → Drawing
drawing_of kind = drawing (form_of kind)
