-- Document 01, "Stage sheet" and "Refusals": what the stage writer answers, and what the lent buffer holds then, over the form of the wires.
use Rattle.std.specs.Prelude.{ℕ, ◌^◌, cond, List, map, ltb, length, get_or, take}
use Rattle.base.specs.Cases.{Case, refused_case}
use Rattle.base.specs.Refusals.{refusal_at, out_of_range}
use Rattle.base.specs.Buffers.{fitted, buffer_with}
use Rattle.base.specs.Lowest.{lowest}
use Rattle.sheet.specs.Limits.{sizes_out, is_beyond}
use Rattle.stage.specs.Form.{StageForm}
use Rattle.stage.specs.Bytes.{stage_bytes}

-- the first wire whose table has bits past the patterns of n inputs; m where there is none
unfoldable pub first_out : ℕ → ℕ → List ℕ → ℕ
first_out n m tables = lowest m (λ j. is_beyond (2 ^ n) (get_or tables j 0))

module _ (F : StageForm) where
  -- what is written: the reduced drawing of each of the first m tables; the other tables have no part in it
  unfoldable pub stage_drawn : ℕ → ℕ → List ℕ → List F.Shape
  stage_drawn n m tables = map (F.reduced n) (take m tables)

  -- the bytes of the stage
  unfoldable pub stage_of : ℕ → ℕ → List ℕ → List ℕ
  stage_of n m tables = stage_bytes F n m (stage_drawn n m tables)

  -- Refused are, in this order: sizes out of range, at place 0; a table with bits past the patterns, at its wire; a buffer without the room, at the
  -- room that is needed. Otherwise the answer is the stage's length.
  unfoldable pub written_of : ℕ → ℕ → List ℕ → ℕ → Case
  written_of n m tables room =
      cond (sizes_out F.most n m) (refused_case (refusal_at out_of_range 0))
      (cond (ltb (first_out n m tables) m) (refused_case (refusal_at out_of_range (first_out n m tables)))
      (fitted (stage_of n m tables) room))

  -- what the buffer holds then
  unfoldable pub buffer_after : ℕ → ℕ → List ℕ → List ℕ → List ℕ
  buffer_after n m tables buffer = buffer_with (stage_of n m tables) buffer (written_of n m tables (length buffer))
