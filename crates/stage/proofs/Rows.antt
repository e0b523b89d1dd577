-- Worked rows, computed from the meanings: the stage of document 01's bench sheet A, written and read, and one row for each refusal of a stage sheet.
use Prim.Native.Nat.{ℕ}
use mathlib.Core.Path.{◌≡◌, refl}
use mathlib.Core.List.{List, [], ◌∷◌}
use Rattle.table.specs.Drawing.{drawn_table, drawn_cells, got, no_stage}
use Rattle.base.specs.Cases.{accepting, accepted_outcome, refused_case}
use Rattle.base.specs.Refusals.{refusal_at, cut_short, unknown, out_of_range, trailing, out_of_turn, not_ascending, short_buffer}
use Rattle.base.specs.Lowest.{lowest}
use Rattle.table.specs.Bits.{bit, sum, of_bits, tabulate}
use Rattle.table.specs.Cells.{low, high, selector_cells}
use Rattle.table.specs.Tree.{con, sel, follow, is_con, wired_trees, tree_cells, reduced}
use Rattle.stage.specs.Steps.{and_then, misplaced, due_number, due, operand}
use Rattle.stage.specs.Bytes.{wires_bytes, stage_bytes}
use Rattle.stage.specs.Read.{wires_at, nothing_after, end_at, closed, read_sheet}
use Rattle.stage.specs.Written.{stage_drawn, stage_of, first_out, written_of}
use Rattle.stage.specs.Reply.{stage_tables}
use Rattle.stage.specs.TreeBytes.{tree_bytes}
use Rattle.stage.specs.TreeRead.{branches_at, selector_at, tree_from, tree_within, tree_at, tree_wire_at}
use Rattle.stage.specs.Trees.{tree_form, tree_drawing, read_stage}

-- all meanings of reading, and of writing, open
unfoldable reading : ℕ
unfolding and_then misplaced due_number due operand branches_at selector_at tree_from tree_within tree_at tree_wire_at wires_at nothing_after end_at closed read_sheet
reading = 0

unfoldable writing : ℕ
unfolding lowest low high reduced tree_bytes wires_bytes stage_bytes stage_drawn stage_of first_out written_of
writing = 0

-- document 01, "Bench sheets": the stage that the program prints for sheet A
abbrev stage_a : List ℕ
stage_a =
    0x20 ∷ 0x02 ∷ 0x02 ∷ 0x21 ∷ 0x00 ∷ 0x22 ∷ 0x01 ∷ 0x24 ∷ 0x23 ∷ 0x21 ∷ 0x01 ∷ 0x22 ∷ 0x02 ∷ 0x23 ∷ 0x24 ∷ 0x2F ∷ []

pub a_read : read_stage stage_a ≡ got 2 2 (sel 1 (con 1) (con 0) ∷ sel 2 (con 0) (con 1) ∷ [])
unfolding reading
a_read = refl

pub a_tables : stage_tables tree_drawing 2 (sel 1 (con 1) (con 0) ∷ sel 2 (con 0) (con 1) ∷ []) ≡ 3 ∷ 10 ∷ 0 ∷ 0 ∷ []
unfolding stage_tables drawn_table of_bits sum tabulate follow bit
a_tables = refl

-- the inverted line is a cell, and the straight one is none
pub a_cells : drawn_cells tree_drawing (sel 1 (con 1) (con 0) ∷ sel 2 (con 0) (con 1) ∷ []) ≡ 1
unfolding drawn_cells tree_cells is_con wired_trees selector_cells
a_cells = refl

pub a_bytes : stage_of tree_form 2 2 (3 ∷ 10 ∷ 0 ∷ 0 ∷ []) ≡ stage_a
unfolding writing
a_bytes = refl

-- its writing: in a buffer that lacks one byte, in one that has just enough, and with a table that has a bit too many
pub a_written : (written_of tree_form 2 2 (3 ∷ 10 ∷ 0 ∷ 0 ∷ []) 15 ≡ refused_case (refusal_at short_buffer 16))
    × (written_of tree_form 2 2 (3 ∷ 10 ∷ 0 ∷ 0 ∷ []) 16 ≡ accepting accepted_outcome 16)
    × (written_of tree_form 2 2 (3 ∷ 16 ∷ 0 ∷ 0 ∷ []) 16 ≡ refused_case (refusal_at out_of_range 1))
unfolding writing
a_written = (refl, refl, refl)

-- document 02, E5: a stage of six inputs, whose wire is the last of them, written and read; its table has the patterns up to 63
abbrev stage_six : List ℕ
stage_six = 0x20 ∷ 0x06 ∷ 0x01 ∷ 0x21 ∷ 0x00 ∷ 0x22 ∷ 0x06 ∷ 0x23 ∷ 0x24 ∷ 0x2F ∷ []

pub six_written : written_of tree_form 6 1 (0xAAAAAAAAAAAAAAAA ∷ 0 ∷ 0 ∷ 0 ∷ []) 10 ≡ accepting accepted_outcome 10
unfolding writing
six_written = refl

pub six_bytes : stage_of tree_form 6 1 (0xAAAAAAAAAAAAAAAA ∷ 0 ∷ 0 ∷ 0 ∷ []) ≡ stage_six
unfolding writing
six_bytes = refl

pub six_read : read_stage stage_six ≡ got 6 1 (sel 6 (con 0) (con 1) ∷ [])
unfolding reading
six_read = refl

pub six_table : drawn_table tree_drawing 6 (sel 6 (con 0) (con 1)) ≡ 0xAAAAAAAAAAAAAAAA
unfolding drawn_table of_bits sum follow bit
six_table = refl

-- the refusals of a stage sheet
pub empty_sheet : read_stage [] ≡ no_stage (refusal_at cut_short 0)
unfolding reading
empty_sheet = refl

pub unknown_byte : read_stage (0x25 ∷ []) ≡ no_stage (refusal_at unknown 0)
unfolding reading
unknown_byte = refl

pub lone_end : read_stage (0x2F ∷ []) ≡ no_stage (refusal_at out_of_turn 0)
unfolding reading
lone_end = refl

pub sizes_range : read_stage (0x20 ∷ 7 ∷ 1 ∷ []) ≡ no_stage (refusal_at out_of_range 0)
unfolding reading
sizes_range = refl

pub wire_range : read_stage (0x20 ∷ 1 ∷ 1 ∷ 0x21 ∷ 1 ∷ []) ≡ no_stage (refusal_at out_of_range 3)
unfolding reading
wire_range = refl

pub wire_turn : read_stage (0x20 ∷ 1 ∷ 2 ∷ 0x21 ∷ 1 ∷ []) ≡ no_stage (refusal_at out_of_turn 3)
unfolding reading
wire_turn = refl

pub descending : read_stage (0x20 ∷ 2 ∷ 1 ∷ 0x21 ∷ 0 ∷ 0x22 ∷ 2 ∷ 0x22 ∷ 1 ∷ []) ≡ no_stage (refusal_at not_ascending 7)
unfolding reading
descending = refl

pub no_second_tree : read_stage (0x20 ∷ 1 ∷ 1 ∷ 0x21 ∷ 0 ∷ 0x22 ∷ 1 ∷ 0x23 ∷ []) ≡ no_stage (refusal_at cut_short 8)
unfolding reading
no_second_tree = refl

pub after_end : read_stage (0x20 ∷ 1 ∷ 1 ∷ 0x21 ∷ 0 ∷ 0x23 ∷ 0x2F ∷ 0 ∷ []) ≡ no_stage (refusal_at trailing 7)
unfolding reading
after_end = refl
