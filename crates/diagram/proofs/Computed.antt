-- Worked rows, computed from the meanings: the majority of three inputs written and read, which entries are counted, and one row for each refusal of a sharing
-- stage sheet.
use Prim.Native.Nat.{ℕ}
use mathlib.Core.Path.{◌≡◌, refl}
use mathlib.Core.List.{List, [], ◌∷◌}
use Rattle.base.specs.Cases.{refused_case}
use Rattle.base.specs.Refusals.{refusal_at, cut_short, unknown, out_of_range, trailing, out_of_turn, no_signal, not_ascending}
use Rattle.table.specs.Bits.{bit, sum, of_bits}
use Rattle.table.specs.Cells.{low, high, selector_cells}
use Rattle.table.specs.Drawing.{got, no_stage, drawn_table}
use Rattle.nodes.specs.Nodes.{same, has, listing}
use Rattle.stage.specs.Steps.{and_then, misplaced, due_number, due, operand}
use Rattle.stage.specs.Bytes.{wires_bytes, stage_bytes}
use Rattle.stage.specs.Read.{wires_at, nothing_after, end_at, closed, read_sheet}
use Rattle.stage.specs.Written.{stage_drawn, stage_of, written_of}
use Rattle.diagram.specs.Diagram.{entry, Diagram, diagram, input_at, follow_entry, wired_entry, entry_price, entries_cells, diagram_cells}
use Rattle.diagram.specs.Bytes.{entries_bytes, diagram_wire_bytes}
use Rattle.diagram.specs.Read.{entry_refusal, entry_at, entries_at, top_at, diagram_wire_at}
use Rattle.diagram.specs.Written.{node_number, number_of, entries_of, reduced_diagram}
use Rattle.diagram.specs.Diagrams.{diagram_form, diagram_drawing, read_diagrams}

-- all meanings of diagrams, of writing, and of reading, open
unfoldable drawing : ℕ
unfolding input_at follow_entry selector_cells wired_entry entry_price entries_cells
drawing = 0

unfoldable writing : ℕ
unfolding low high same has listing node_number number_of entries_of reduced_diagram entries_bytes diagram_wire_bytes wires_bytes stage_bytes stage_drawn stage_of
writing = 0

unfoldable reading : ℕ
unfolding and_then misplaced due_number due operand input_at entry_refusal entry_at entries_at top_at diagram_wire_at wires_at nothing_after end_at closed read_sheet
reading = 0

-- input 3; it and input 2; it or input 2; and the choice between these by input 1
abbrev majority : Diagram
majority = diagram (entry 1 3 4 ∷ entry 2 2 1 ∷ entry 2 0 2 ∷ entry 3 0 1 ∷ []) 5

abbrev majority_sheet : List ℕ
majority_sheet = 0x20 ∷ 3 ∷ 1 ∷ 0x26 ∷ 0 ∷ 4 ∷ 3 ∷ 0 ∷ 1 ∷ 2 ∷ 0 ∷ 2 ∷ 2 ∷ 2 ∷ 1 ∷ 1 ∷ 3 ∷ 4 ∷ 5 ∷ 0x2F ∷ []

pub majority_written : reduced_diagram 3 0xE8 ≡ majority
unfolding writing
majority_written = refl

pub majority_bytes : stage_of diagram_form 3 1 (0xE8 ∷ 0 ∷ 0 ∷ 0 ∷ []) ≡ majority_sheet
unfolding writing
majority_bytes = refl

pub majority_read : read_diagrams majority_sheet ≡ got 3 1 (majority ∷ [])
unfolding reading
majority_read = refl

pub majority_table : drawn_table diagram_drawing 3 majority ≡ 0xE8
unfolding drawing drawn_table of_bits sum bit
majority_table = refl

-- an entry to which nothing leads, and one that repeats another, count as any other
pub unreached_counted : diagram_cells (diagram (entry 1 1 0 ∷ entry 2 1 0 ∷ []) 2) ≡ 2
unfolding drawing
unreached_counted = refl

pub repeated_counted : diagram_cells (diagram (entry 1 2 3 ∷ entry 2 1 0 ∷ entry 2 1 0 ∷ []) 4) ≡ 3
unfolding drawing
repeated_counted = refl

-- an entry that goes on to the constants 0 and 1 is soldered through, reached or not; one that goes on to an entry worth 0 is a cell
pub straight_free : diagram_cells (diagram (entry 1 0 1 ∷ entry 2 0 1 ∷ []) 2) ≡ 0
unfolding drawing
straight_free = refl

pub larger_counted : diagram_cells (diagram (entry 1 2 1 ∷ entry 2 0 0 ∷ []) 3) ≡ 2
unfolding drawing
larger_counted = refl

-- document 02, E5: five inputs are too many for a sharing stage, read or written
pub five_refused : read_diagrams (0x20 ∷ 5 ∷ 1 ∷ 0x26 ∷ 0 ∷ 0 ∷ 0 ∷ 0x2F ∷ []) ≡ no_stage (refusal_at out_of_range 0)
unfolding reading
five_refused = refl

pub five_unwritten : written_of diagram_form 5 1 (0 ∷ 0 ∷ 0 ∷ 0 ∷ []) 8 ≡ refused_case (refusal_at out_of_range 0)
unfolding writing written_of
five_unwritten = refl

pub four_read : read_diagrams (0x20 ∷ 4 ∷ 1 ∷ 0x26 ∷ 0 ∷ 0 ∷ 0 ∷ 0x2F ∷ []) ≡ got 4 1 (diagram [] 0 ∷ [])
unfolding reading
four_read = refl

-- the refusals of a wire: its place is its first byte. Trees' commands are unknown here, and an end is known but not due
pub tree_unknown : read_diagrams (0x20 ∷ 1 ∷ 1 ∷ 0x21 ∷ 0 ∷ 0x23 ∷ 0x2F ∷ []) ≡ no_stage (refusal_at unknown 3)
unfolding reading
tree_unknown = refl

pub end_early : read_diagrams (0x20 ∷ 1 ∷ 1 ∷ 0x2F ∷ []) ≡ no_stage (refusal_at out_of_turn 3)
unfolding reading
end_early = refl

pub no_count : read_diagrams (0x20 ∷ 1 ∷ 1 ∷ 0x26 ∷ 7 ∷ []) ≡ no_stage (refusal_at cut_short 3)
unfolding reading
no_count = refl

pub wire_range : read_diagrams (0x20 ∷ 1 ∷ 1 ∷ 0x26 ∷ 1 ∷ 0 ∷ []) ≡ no_stage (refusal_at out_of_range 3)
unfolding reading
wire_range = refl

pub count_range : read_diagrams (0x20 ∷ 1 ∷ 2 ∷ 0x26 ∷ 1 ∷ 254 ∷ []) ≡ no_stage (refusal_at out_of_range 3)
unfolding reading
count_range = refl

pub wire_turn : read_diagrams (0x20 ∷ 1 ∷ 2 ∷ 0x26 ∷ 1 ∷ 253 ∷ []) ≡ no_stage (refusal_at out_of_turn 3)
unfolding reading
wire_turn = refl

-- the refusals of an entry: its place is its own first byte. An input is judged before the numbers, both numbers before the inputs that they test
pub entry_cut : read_diagrams (0x20 ∷ 1 ∷ 1 ∷ 0x26 ∷ 0 ∷ 1 ∷ 9 ∷ 9 ∷ []) ≡ no_stage (refusal_at cut_short 6)
unfolding reading
entry_cut = refl

pub input_range : read_diagrams (0x20 ∷ 1 ∷ 1 ∷ 0x26 ∷ 0 ∷ 1 ∷ 2 ∷ 9 ∷ 9 ∷ []) ≡ no_stage (refusal_at out_of_range 6)
unfolding reading
input_range = refl

pub own_number : read_diagrams (0x20 ∷ 2 ∷ 1 ∷ 0x26 ∷ 0 ∷ 2 ∷ 2 ∷ 0 ∷ 1 ∷ 2 ∷ 2 ∷ 3 ∷ []) ≡ no_stage (refusal_at no_signal 9)
unfolding reading
own_number = refl

pub same_input : read_diagrams (0x20 ∷ 2 ∷ 1 ∷ 0x26 ∷ 0 ∷ 2 ∷ 2 ∷ 0 ∷ 1 ∷ 2 ∷ 0 ∷ 2 ∷ []) ≡ no_stage (refusal_at not_ascending 9)
unfolding reading
same_input = refl

-- the refusals of the top, and a byte after the end
pub no_top : read_diagrams (0x20 ∷ 1 ∷ 1 ∷ 0x26 ∷ 0 ∷ 1 ∷ 1 ∷ 0 ∷ 1 ∷ []) ≡ no_stage (refusal_at cut_short 9)
unfolding reading
no_top = refl

pub top_past : read_diagrams (0x20 ∷ 1 ∷ 1 ∷ 0x26 ∷ 0 ∷ 1 ∷ 1 ∷ 0 ∷ 1 ∷ 3 ∷ []) ≡ no_stage (refusal_at no_signal 9)
unfolding reading
top_past = refl

pub after_end : read_diagrams (0x20 ∷ 1 ∷ 1 ∷ 0x26 ∷ 0 ∷ 0 ∷ 1 ∷ 0x2F ∷ 0 ∷ []) ≡ no_stage (refusal_at trailing 8)
unfolding reading
after_end = refl
