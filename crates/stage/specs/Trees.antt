-- The stages of document 01's board: ordered trees, with the cells of document 02's E4, in its stage sheets.
use Rattle.std.specs.Prelude.{ℕ, List}
use Rattle.sheet.specs.Limits.{max_inputs}
use Rattle.table.specs.Cells.{cells}
use Rattle.table.specs.Drawing.{Drawing, StageSheet}
use Rattle.table.specs.Tree.{Tree, Ordered, follow, tree_cells, reduced}
use Rattle.stage.specs.Form.{StageForm}
use Rattle.stage.specs.Read.{read_sheet, drawing}
use Rattle.stage.specs.TreeBytes.{tree_wire_bytes}
use Rattle.stage.specs.TreeRead.{tree_known, tree_wire_at}

abbrev pub tree_form : StageForm
tree_form =
    record {
      most = max_inputs;
      Shape = Tree;
      WellFormed = λ n x. Ordered n 0 x;
      follow = follow;
      cells = tree_cells;
      count = cells;
      reduced = λ n t. reduced n 0 t;
      wire_bytes = tree_wire_bytes;
      known = tree_known;
      wire_at = tree_wire_at;
    }

abbrev pub tree_drawing : Drawing
tree_drawing = drawing tree_form

abbrev pub read_stage : List ℕ → StageSheet Tree
read_stage = read_sheet tree_form
