-- Document 02, E2: a wire that is a decision diagram, as bytes.
use Rattle.std.specs.Prelude.{ℕ, ◌+◌, ◌*◌, ◌-◌, ◌^◌, List, [], ◌∷◌, ◌++◌, length}
use Rattle.sheet.specs.Limits.{max_shared_inputs, max_wires}
use Rattle.stage.specs.Bytes.{sheet_frame, selector_bytes}
use Rattle.stage.specs.TreeBytes.{longest_stage}
use Rattle.diagram.specs.Diagram.{Entry, Diagram}

abbrev pub entry_bytes : Entry → List ℕ
entry_bytes e = e.input ∷ e.on_zero ∷ e.on_one ∷ []

-- from the first entry to the latest
unfoldable pub entries_bytes : List Entry → List ℕ
entries_bytes [] = []
entries_bytes (e ∷ before) = entries_bytes before ++ entry_bytes e

-- wire j: 26, its number and how many entries it has; these; the number that it takes
unfoldable pub diagram_wire_bytes : ℕ → Diagram → List ℕ
diagram_wire_bytes j d = 0x26 ∷ j ∷ length d.entries ∷ entries_bytes d.entries ++ d.top ∷ []

-- what a diagram takes besides its entries
abbrev pub diagram_frame : ℕ
diagram_frame = 4

-- a table has fewer nodes than patterns, and this board has tables of four inputs at most
abbrev pub most_nodes : ℕ
most_nodes = 2 ^ max_shared_inputs - 1

-- no stage of diagrams that is written is longer
abbrev pub longest_shared : ℕ
longest_shared = sheet_frame + diagram_frame * max_wires + selector_bytes * max_wires * most_nodes

-- no stage that is written is longer, on either board: trees are of more inputs
abbrev pub longest_written : ℕ
longest_written = longest_stage
