-- The stages of the board that shares selectors (document 02, E2): decision diagrams, with the cells of E4, in stage sheets of their own. It stays at four
-- lines (E5).
use Rattle.std.specs.Prelude.{List, ℕ}
use Rattle.sheet.specs.Limits.{max_shared_inputs}
use Rattle.table.specs.Drawing.{Drawing, StageSheet}
use Rattle.nodes.specs.Nodes.{nodes}
use Rattle.stage.specs.Form.{StageForm}
use Rattle.stage.specs.Read.{read_sheet, drawing}
use Rattle.diagram.specs.Diagram.{Diagram, WellFormed, follow_diagram, diagram_cells}
use Rattle.diagram.specs.Bytes.{diagram_wire_bytes}
use Rattle.diagram.specs.Read.{diagram_known, diagram_wire_at}
use Rattle.diagram.specs.Written.{reduced_diagram}

abbrev pub diagram_form : StageForm
diagram_form =
    record {
      most = max_shared_inputs;
      Shape = Diagram;
      WellFormed = WellFormed;
      follow = follow_diagram;
      cells = diagram_cells;
      count = nodes;
      reduced = reduced_diagram;
      wire_bytes = diagram_wire_bytes;
      known = diagram_known;
      wire_at = diagram_wire_at;
    }

abbrev pub diagram_drawing : Drawing
diagram_drawing = drawing diagram_form

abbrev pub read_diagrams : List ℕ → StageSheet Diagram
read_diagrams = read_sheet diagram_form
