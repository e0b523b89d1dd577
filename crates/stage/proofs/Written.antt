-- Laws of what the writer answers, test by test, and of the buffer that it leaves, over the form of a wire.
use Prim.Native.Nat.{ℕ, ◌^◌, ◌<◌, ◌≤◌}
use mathlib.Core.Path.{◌≡◌, sym, ap}
use mathlib.Core.Bool.{true, false}
use mathlib.Core.Logic.{⊎_elim}
use mathlib.Core.List.{List, map}
use native.Mathlib.Omega.{arith}
use lib.Dec.{nleb→lt}
use lib.ListN.{length, get_or, take}
use lib.Seq.{sets}
use borrow.Author.Tests.{lt-ltb, le-ltb}
use Rattle.base.specs.Cases.{accepting, accepted_outcome, refused_case}
use Rattle.base.specs.Refusals.{refusal_at, out_of_range, short_buffer}
use Rattle.sheet.specs.Limits.{sizes_out, is_beyond}
use Rattle.base.specs.declared.Refusal.{Refusal}
use Rattle.base.proofs.Tests.{decide}
use Rattle.base.proofs.Lowest.{lowest_below}
use Rattle.base.proofs.Buffers.{fitted_short, fitted_room, buffer_left, buffer_stored}
use Rattle.table.proofs.Drawings.{least}
use Rattle.stage.specs.Form.{StageForm}
use Rattle.stage.specs.Read.{drawing}
use Rattle.stage.specs.Written.{stage_drawn, stage_of, first_out, written_of, buffer_after}
use Rattle.stage.specs.Inner.Laws.{FormLaws}

-- what is written is the least drawing of each table
pub drawn_least : (F : StageForm) (L : FormLaws F) (n m : ℕ) (tables : List ℕ) (small : n ≤ F.most)
    → stage_drawn F n m tables ≡ least (drawing F) n (F.count n) (L.fair n small) (take m tables)
unfolding stage_drawn
drawn_least F L n m tables small = ap (λ (f : ℕ → F.Shape). map f (take m tables)) (sym (L.reduces n small))

-- what the writer answers, test by test
module _ (F : StageForm) (n m : ℕ) (tables : List ℕ) (room : ℕ) where
  pub sizes_refused : sizes_out F.most n m ≡ true → written_of F n m tables room ≡ refused_case (refusal_at out_of_range 0)
  unfolding written_of
  sizes_refused e = rw e

  module _ (sizes : sizes_out F.most n m ≡ false) where
    pub table_refused : first_out n m tables < m → written_of F n m tables room ≡ refused_case (refusal_at out_of_range (first_out n m tables))
    unfolding written_of
    table_refused h = rw (sizes, lt-ltb _ _ h)

    module _ (in_range : m ≤ first_out n m tables) where
      pub short_refused : room < length (stage_of F n m tables) → written_of F n m tables room ≡ refused_case (refusal_at short_buffer (length (stage_of F n m tables)))
      unfolding written_of
      short_refused h = rw (sizes, le-ltb _ _ in_range) (fitted_short (stage_of F n m tables) room h)

      pub room_accepted : length (stage_of F n m tables) ≤ room → written_of F n m tables room ≡ accepting accepted_outcome (length (stage_of F n m tables))
      unfolding written_of
      room_accepted h = rw (sizes, le-ltb _ _ in_range) (fitted_room (stage_of F n m tables) room h)

-- where no wire's table is too large, every wire's table is in range
pub tables_in : (n m : ℕ) (tables : List ℕ) → m ≤ first_out n m tables → (j : ℕ) → j < m → get_or tables j 0 < 2 ^ (2 ^ n)
unfolding first_out
tables_in n m tables h j l =
    ⊎_elim
    (λ t. absurd (omega (arith, lowest_below m (λ i. is_beyond (2 ^ n) (get_or tables i 0)) j l t)))
    (λ u. nleb→lt (2 ^ (2 ^ n)) (get_or tables j 0) u)
    (decide (is_beyond (2 ^ n) (get_or tables j 0)))

-- the buffer after a refusal, and after a stage was written
module _ (F : StageForm) (n m : ℕ) (tables b : List ℕ) where
  pub buffer_kept : (f : Refusal) → written_of F n m tables (length b) ≡ refused_case f → b ≡ buffer_after F n m tables b
  unfolding buffer_after
  buffer_kept f e = buffer_left (stage_of F n m tables) b f e

  pub buffer_written : (c : List ℕ) → written_of F n m tables (length b) ≡ accepting accepted_outcome (length (stage_of F n m tables))
      → length (stage_of F n m tables) ≤ length b
      → c ≡ sets b 0 (stage_of F n m tables) → c ≡ buffer_after F n m tables b
  unfolding buffer_after
  buffer_written c e h s = buffer_stored (stage_of F n m tables) b c e h s
