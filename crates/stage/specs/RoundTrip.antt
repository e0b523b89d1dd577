-- Demand 2, the round trip: reading undoes writing. It is told by what the writer leaves in the buffer and by what the reader replies to that: the tables that
-- were handed to the writer, and their cells.
use Rattle.std.specs.Prelude.{ℕ, ◌≡◌, cond, not, List, T, ltb, length, get_or, take}
use Rattle.base.specs.Cases.{accepted_case, is_refused}
use Rattle.sheet.specs.Limits.{max_wires}
use Rattle.table.specs.Bits.{tabulate}
use Rattle.table.specs.Cells.{wires, total}
use Rattle.stage.specs.Form.{StageForm}
use Rattle.stage.specs.Read.{read_sheet, drawing}
use Rattle.stage.specs.Reply.{StageReply, reply_to_stage}
use Rattle.stage.specs.Written.{written_of, buffer_after}

module _ (F : StageForm) where
  -- the first bytes of the buffer that the writer leaves, as many as it says the stage has
  abbrev pub bytes_written : ℕ → ℕ → List ℕ → List ℕ → List ℕ
  bytes_written n m tables buffer = take (written_of F n m tables (length buffer)).value (buffer_after F n m tables buffer)

  -- the reply that gives all of it back: the sizes, the table of each of the m wires (0 for those that the stage lacks), the cells, and nothing refused
  abbrev pub given_back : ℕ → ℕ → List ℕ → StageReply
  given_back n m tables =
      record {
        n = n;
        m = m;
        tables = tabulate max_wires (λ j. cond (ltb j m) (get_or tables j 0) 0);
        cells = total (F.count n) m (wires tables);
        answer = accepted_case;
      }

-- whatever is handed to the writer: unless it refuses, the reader gives it back
pub record RoundTrip (F : StageForm) : Type 0 where
  pub same : (n m : ℕ) (tables buffer : List ℕ) → length tables ≡ max_wires → T (not (is_refused (written_of F n m tables (length buffer))))
      → reply_to_stage (drawing F) (read_sheet F (bytes_written F n m tables buffer)) ≡ given_back F n m tables
