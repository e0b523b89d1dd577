-- Document 01, "Bench sheets": the starred rows, proved together over the written meanings, with the figures that follow from document 02's E4.
use Prim.Native.Nat.{ℕ, ◌-◌}
use mathlib.Core.Path.{◌≡◌, refl}
use mathlib.Core.List.{List, [], ◌∷◌}
use Rattle.base.specs.Cases.{accepting, accepted_case}
use Rattle.base.specs.Lowest.{lowest}
use Rattle.base.specs.Refusals.{refusal_at, cut_short, out_of_turn, empty}
use Rattle.table.specs.Bits.{bit, all, any, sum, of_bits, tabulate, is_one}
use Rattle.table.specs.Cells.{low, high, full, wired_table, selector_cells, cells, total}
use Rattle.table.specs.Tree.{reduced}
use Rattle.table.specs.Pick.{suits, nearer, least, or_zero, least_of}
use Rattle.sheet.specs.Limits.{max_patterns}
use Rattle.relation.specs.declared.Relation.{Relation}
use Rattle.relation.specs.Source.{value}
use Rattle.relation.specs.Tests.{of_sets, keep, agree, occurs, is_open, open_wire, compatible, conflict, empty_pattern, open_pairs}
use Rattle.relation.specs.Inner.Source.{fits}
use Rattle.relation.specs.Handed.{relation_of, wide_pattern, check_of}
use Rattle.branch_bound.specs.Reply.{best_outcome, stopped_outcome, SearchReply, mark_of, answer_of, refused_with, search_tested, search_of}
use Rattle.branch_bound.specs.Search.{reply_tables, pick, picks, floor, left, quick, start, split, expand, charge, treat, visit, search_part, run}
use Rattle.nodes.specs.declared.BoardKind.TheVariants.{Tree}
use Rattle.branch_bound.specs.Boards.{board_of}
use Rattle.reader.specs.Reading.{reading_of}
use Rattle.reader.proofs.Rows.{sheet_a}
use Rattle.stage.specs.Bytes.{wires_bytes, stage_bytes}
use Rattle.stage.specs.TreeBytes.{tree_bytes}
use Rattle.stage.specs.Written.{stage_drawn, stage_of, first_out, written_of, buffer_after}
use Rattle.unit.specs.Formed.{formed_of}
use Rattle.unit.specs.Present.{present_table, present_tables, present_cells}
use Rattle.unit.proofs.Rows as UnitRows
use Rattle.unit.proofs.Rows.{limited_a}
use Rattle.quote.specs.Inner.Refused.{refused_quote}
use Rattle.quote.specs.Quote.{with_stage, searched, quoted_of, buffer_searched, buffer_quoted}
use Rattle.report.specs.Lines.{newline}
use Rattle.report.proofs.Rows.{printing}
use Rattle.printed.specs.Printed.{budget, printed_of}

-- all that a search computes by: tables and picks, relations, the search itself,
unfoldable tables_opened : ℕ
unfolding bit all any sum of_bits tabulate low high full wired_table selector_cells cells reduced suits nearer least or_zero least_of
tables_opened = 0

unfoldable relations_opened : ℕ
unfolding value of_sets keep agree occurs fits is_open open_wire compatible conflict empty_pattern is_one open_pairs lowest relation_of wide_pattern check_of
relations_opened = 0

unfoldable reply_opened : ℕ
unfolding mark_of answer_of refused_with search_tested search_of
reply_opened = 0

unfoldable search_opened : ℕ
unfolding reply_tables total pick picks floor left quick start split expand charge treat visit search_part run board_of reply_opened
search_opened = 0

-- a stage, a quote,
unfoldable stage_opened : ℕ
unfolding tree_bytes wires_bytes stage_bytes stage_drawn stage_of first_out written_of buffer_after present_table present_tables present_cells
stage_opened = 0

unfoldable quote_opened : ℕ
unfolding stage_opened with_stage searched quoted_of buffer_searched buffer_quoted
quote_opened = 0

-- and the printed lines
unfoldable opened : ℕ
unfolding UnitRows.opened tables_opened relations_opened search_opened quote_opened printing printed_of
opened = 0

-- sheet A as it is printed. Its first line is "cells 1 floor 1 visits 0 best";
-- its second, "20 02 02 21 00 22 01 24 23 21 01 22 02 23 24 2F"
abbrev lines_a : List ℕ
lines_a =
    0x63 ∷ 0x65 ∷ 0x6C ∷ 0x6C ∷ 0x73 ∷ 0x20 ∷ 0x31 ∷ 0x20
    ∷ 0x66 ∷ 0x6C ∷ 0x6F ∷ 0x6F ∷ 0x72 ∷ 0x20 ∷ 0x31 ∷ 0x20
    ∷ 0x76 ∷ 0x69 ∷ 0x73 ∷ 0x69 ∷ 0x74 ∷ 0x73 ∷ 0x20 ∷ 0x30 ∷ 0x20
    ∷ 0x62 ∷ 0x65 ∷ 0x73 ∷ 0x74 ∷ newline
    ∷ 0x32 ∷ 0x30 ∷ 0x20 ∷ 0x30 ∷ 0x32 ∷ 0x20 ∷ 0x30 ∷ 0x32 ∷ 0x20
    ∷ 0x32 ∷ 0x31 ∷ 0x20 ∷ 0x30 ∷ 0x30 ∷ 0x20 ∷ 0x32 ∷ 0x32 ∷ 0x20 ∷ 0x30 ∷ 0x31 ∷ 0x20 ∷ 0x32 ∷ 0x34 ∷ 0x20 ∷ 0x32 ∷ 0x33 ∷ 0x20
    ∷ 0x32 ∷ 0x31 ∷ 0x20 ∷ 0x30 ∷ 0x31 ∷ 0x20 ∷ 0x32 ∷ 0x32 ∷ 0x20 ∷ 0x30 ∷ 0x32 ∷ 0x20 ∷ 0x32 ∷ 0x33 ∷ 0x20 ∷ 0x32 ∷ 0x34 ∷ 0x20
    ∷ 0x32 ∷ 0x46 ∷ newline ∷ []

-- empty sets from pattern p on
abbrev none_from : ℕ → List ℕ
none_from p = tabulate (max_patterns - p) (λ _. 0)

-- B of source document 001, section 5, and C: bit v of a set is value v
abbrev relation_b : Relation
relation_b = record { n = 2; m = 2; sets = 1 ∷ 2 ∷ 9 ∷ 12 ∷ none_from 4 }

abbrev relation_c : Relation
relation_c = record { n = 1; m = 2; sets = 3 ∷ 6 ∷ none_from 2 }

-- what a row says of a search that refuses nothing: cells, floor, visits and mark
pub record Says (a : SearchReply) (c f v mark : ℕ) : Type 0 where
  pub cells_are : a.cells ≡ c
  pub floor_is : a.floor ≡ f
  pub visits_are : a.visits ≡ v
  pub mark_is : a.mark ≡ accepting mark 0

pub record Starred : Type 0 where
  -- A: the relation formed from its bytes, {1}, {0,3}, {0,3}, {2}
  pub a_relation : formed_of sheet_a
      ≡ record { relation = record { n = 2; m = 2; sets = 2 ∷ 9 ∷ 9 ∷ 4 ∷ none_from 4 }; answer = accepted_case }
  -- what the program prints for its bytes, to the last one
  pub a_printed : printed_of Tree sheet_a ≡ lines_a
  -- the cells of the present stage, by the tables that its own 02 commands tell
  pub a_present : present_cells (reading_of sheet_a) ≡ 3
  -- B with a budget of 1, and B0 with none
  pub b : Says (search_of Tree relation_b 1) 1 1 1 best_outcome
  pub b0 : Says (search_of Tree relation_b 0) 1 0 0 stopped_outcome
  -- C with a budget of 2, and C1 with 1: the first answer has no cells, so nothing is left to visit
  pub c : Says (search_of Tree relation_c 2) 0 0 0 best_outcome
  pub c1 : Says (search_of Tree relation_c 1) 0 0 0 best_outcome
  -- Tables: the cells of five functions of three inputs
  pub tables : (cells 3 0x00 ≡ 0) × (cells 3 0xAA ≡ 0) × (cells 3 0xF0 ≡ 0) × (cells 3 0xE8 ≡ 3) × (cells 3 0x96 ≡ 5)
  -- the empty sheet and the lone 00, with any buffer
  pub empty_sheet : (room : ℕ) → quoted_of Tree [] budget room ≡ refused_quote (refusal_at cut_short 0)
  pub lone_end : (room : ℕ) → quoted_of Tree (0 ∷ []) budget room ≡ refused_quote (refusal_at out_of_turn 0)
  -- sheet A limited on pattern 2, as `limited_a` has it
  pub a_limited : (room : ℕ) → quoted_of Tree limited_a budget room ≡ refused_quote (refusal_at empty 2)

pub starred : Starred
unfolding opened
starred =
    record {
      a_relation = refl;
      a_printed = refl;
      a_present = refl;
      b = record { cells_are = refl; floor_is = refl; visits_are = refl; mark_is = refl };
      b0 = record { cells_are = refl; floor_is = refl; visits_are = refl; mark_is = refl };
      c = record { cells_are = refl; floor_is = refl; visits_are = refl; mark_is = refl };
      c1 = record { cells_are = refl; floor_is = refl; visits_are = refl; mark_is = refl };
      tables = (refl, refl, refl, refl, refl);
      empty_sheet = λ _. refl;
      lone_end = λ _. refl;
      a_limited = λ _. refl;
    }
