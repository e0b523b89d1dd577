-- The round trip of a stage, over the form of a wire: what the writer leaves, the reader gives back.
use Prim.Native.Nat.{ℕ, suc, ◌*◌, ◌^◌, ◌<◌, ◌≤◌}
use mathlib.Core.Path.{◌≡◌, refl, sym, ap, ap₂, ◌∙◌}
use mathlib.Core.Bool.{cond, not}
use mathlib.Core.List.{List, [], ◌∷◌, map}
use native.Mathlib.Omega.{arith}
use lib.Dec.{T, ltb, nltb→le}
use lib.ListN.{length, get_or, take}
use lib.Seq.{take_at}
use Rattle.base.specs.Cases.{Case, accepting, accepted_outcome, is_refused}
use Rattle.sheet.specs.Limits.{sizes_out, max_wires}
use Rattle.base.proofs.Tests.{cond_has, test_no}
use Rattle.base.proofs.Tabulate.{take_entry}
use Rattle.sheet.specs.Inner.Sized.{Sized}
use Rattle.sheet.proofs.Sizes.{sizes_in}
use Rattle.table.specs.Bits.{bit, of_bits, tabulate}
use Rattle.table.specs.Drawing.{drawn_table}
use Rattle.table.proofs.Bits.{sum_cong, of_bits_bit}
use Rattle.stage.specs.Form.{StageForm}
use Rattle.stage.specs.Read.{read_sheet, drawing}
use Rattle.stage.specs.Written.{stage_drawn, stage_of, first_out, written_of, buffer_after}
use Rattle.stage.specs.Reply.{stage_tables, reply_to_stage}
use Rattle.stage.specs.RoundTrip.{bytes_written, given_back, RoundTrip}
use Rattle.stage.specs.Inner.Laws.{FormLaws}
use Rattle.stage.proofs.Lengths.{drawn_cells_lem}
use Rattle.stage.proofs.Sheets.{taken_in, written_back}
use Rattle.stage.proofs.Written.{tables_in}

-- what holds where the writer refuses nothing
pub record Writes (F : StageForm) (n m : ℕ) (tables : List ℕ) (c : Case) : Type 0 where
  pub sizes : Sized F.most n m
  pub within : m ≤ first_out n m tables
  pub is : c ≡ accepting accepted_outcome (length (stage_of F n m tables))

pub writes : (F : StageForm) (n m : ℕ) (tables : List ℕ) (room : ℕ) → T (not (is_refused (written_of F n m tables room)))
    → Writes F n m tables (written_of F n m tables room)
unfolding written_of
writes F n m tables room =
    cond_has Claim (sizes_out F.most n m) (λ _ h. absurd h)
    (λ a.
    cond_has Claim (ltb (first_out n m tables) m) (λ _ h. absurd h)
    (λ b.
    cond_has Claim (ltb room (length (stage_of F n m tables))) (λ _ h. absurd h)
    (λ _ _. record { sizes = sizes_in F.most n m (test_no (sizes_out F.most n m) a); within = nltb→le (first_out n m tables) m b; is = refl })))
  where
    Claim : Case → Type 0
    Claim c = T (not (is_refused c)) → Writes F n m tables c

module _ (F : StageForm) (L : FormLaws F) where
  -- the table of what is written for a table is that table
  pub table_back : (n t : ℕ) → n ≤ F.most → t < 2 ^ (2 ^ n) → drawn_table (drawing F) n (F.reduced n t) ≡ t
  unfolding drawn_table of_bits
  table_back n t s h =
      let x = (L.fair n s).reduced t in
      ap (λ (f : ℕ → F.Shape). drawn_table (drawing F) n (f t)) (sym (L.reduces n s))
      ∙ sum_cong (2 ^ n) (λ p. F.follow n p x * 2 ^ p) (λ p. bit t p * 2 ^ p) (λ p l. ap (λ b. b * 2 ^ p) ((L.fair n s).reduced_follow t p h l))
      ∙ of_bits_bit (2 ^ n) t h

  tables_back : (n : ℕ) → n ≤ F.most → (ts : List ℕ) → ((j : ℕ) → j < length ts → get_or ts j 0 < 2 ^ (2 ^ n))
      → map (drawn_table (drawing F) n) (map (F.reduced n) ts) ≡ ts
  tables_back n s [] h = refl
  tables_back n s (t ∷ ts) h = ap₂ ◌∷◌ (table_back n t s (h 0 (omega arith))) (tables_back n s ts (λ j l. h (suc j) (omega arith)))

  module _ (n m : ℕ) (tables buffer : List ℕ) (four : length tables ≡ max_wires) (w : Writes F n m tables (written_of F n m tables (length buffer))) where
    part : bytes_written F n m tables buffer ≡ stage_of F n m tables
    unfolding buffer_after
    part = rw w.is (take_at (stage_of F n m tables) _ (length (stage_of F n m tables)) refl)

    fits : m ≤ length tables
    fits = omega (arith, w.sizes.m_most)

    in_range : (j : ℕ) → j < m → get_or tables j 0 < 2 ^ (2 ^ n)
    in_range = tables_in n m tables w.within

    tables_same : stage_tables (drawing F) n (stage_drawn F n m tables) ≡ tabulate max_wires (λ j. cond (ltb j m) (get_or tables j 0) 0)
    unfolding stage_tables stage_drawn
    tables_same =
        rw (tables_back n w.sizes.n_most (take m tables) (taken_in F L n m tables w.sizes fits in_range)) (simp (take_entry m tables))

    back : reply_to_stage (drawing F) (read_sheet F (bytes_written F n m tables buffer)) ≡ given_back F n m tables
    unfolding reply_to_stage
    back =
        rw (part, written_back F L n m tables w.sizes fits in_range, tables_same, drawn_cells_lem F L n m tables w.sizes.n_most fits)

  pub round_trip : RoundTrip F
  round_trip = record { same = λ n m tables buffer four h. back n m tables buffer four (writes F n m tables (length buffer) h) }
