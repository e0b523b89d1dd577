-- Laws of the length of a stage (document 01, "Stage sheet"), over the form of a wire: the sheet's frame, the frame of each wire, and the bytes of each selector.
use Prim.Native.Nat.{ℕ, suc, ◌+◌, ◌*◌, ◌≤◌}
use mathlib.Core.Path.{◌≡◌, ap, ◌∙◌}
use mathlib.Core.List.{List, [], ◌∷◌, map}
use native.Mathlib.Omega.{arith}
use lib.ListN.{length, take, length-append}
use lib.Seq.{get_or-take, length-take-le}
use Rattle.sheet.specs.Limits.{max_wires}
use Rattle.table.specs.Bits.{sum}
use Rattle.table.specs.Cells.{wires, total}
use Rattle.table.specs.Drawing.{drawn_cells}
use Rattle.table.proofs.Bits.{sum_cong, sum_bound}
use Rattle.table.proofs.Drawings.{sum_first, least_cells}
use Rattle.stage.specs.Form.{StageForm}
use Rattle.stage.specs.Bytes.{wires_bytes, stage_bytes, sheet_frame, selector_bytes}
use Rattle.stage.specs.Read.{drawing}
use Rattle.stage.specs.Written.{stage_drawn, stage_of}
use Rattle.stage.specs.Inner.Laws.{FormLaws}
use Rattle.stage.proofs.Written.{drawn_least}

-- a sum over the first m tables
pub total_taken : (count : ℕ → ℕ) (m : ℕ) (tables : List ℕ) → m ≤ length tables
    → total count (length (take m tables)) (wires (take m tables)) ≡ total count m (wires tables)
unfolding total
total_taken count m tables h =
    ap (λ k. total count k (wires (take m tables))) (length-take-le m tables h)
    ∙ sum_cong m (λ j. count (wires (take m tables) j)) (λ j. count (wires tables j)) (λ j l. ap count (get_or-take m tables j 0 l))

module _ (F : StageForm) (L : FormLaws F) where
  -- the longest wire, and the longest stage sheet
  abbrev pub longest_wire : ℕ
  longest_wire = L.frame + selector_bytes * L.wire_most

  abbrev pub longest_of : ℕ
  longest_of = sheet_frame + max_wires * longest_wire

  pub wire_most_lem : (n j : ℕ) (x : F.Shape) → n ≤ F.most → F.WellFormed n x → length (F.wire_bytes j x) ≤ longest_wire
  wire_most_lem n j x s w = omega (arith, L.wire_length j x, L.few n x s w)

  -- what is written, where `count` tells the selectors that a table takes: its length by wires and selectors, and its bound where no table takes more than k
  module _ (n : ℕ) (count : ℕ → ℕ) (counts : (t : ℕ) → L.selectors (F.reduced n t) ≡ count t) where
    wires_length : (j : ℕ) (ts : List ℕ) → length (wires_bytes F j (map (F.reduced n) ts)) ≡ L.frame * length ts + selector_bytes * total count (length ts) (wires ts)
    unfolding wires_bytes total sum
    wires_length j [] = omega arith
    wires_length j (t ∷ ts) =
        omega (
          arith,
          length-append (F.wire_bytes j (F.reduced n t)) (wires_bytes F (suc j) (map (F.reduced n) ts)),
          L.wire_length j (F.reduced n t),
          counts t,
          wires_length (suc j) ts,
          sum_first (length ts) (λ j. count (wires (t ∷ ts) j)),
        )

    module _ (m : ℕ) (tables : List ℕ) (fits : m ≤ length tables) where
      pub sheet_length : length (stage_of F n m tables) ≡ sheet_frame + L.frame * m + selector_bytes * total count m (wires tables)
      unfolding stage_of stage_bytes stage_drawn
      sheet_length =
          let ts = take m tables in
          let own : length (wires_bytes F 0 (map (F.reduced n) ts)) ≡ L.frame * m + selector_bytes * total count (length ts) (wires ts) =
          wires_length 0 ts ∙ ap (λ k. L.frame * k + selector_bytes * total count (length ts) (wires ts)) (length-take-le m tables fits) in
          omega (arith, length-append (wires_bytes F 0 (map (F.reduced n) ts)) (0x2F ∷ []), own, total_taken count m tables fits)

      pub sheet_length_most : (k : ℕ) → ((t : ℕ) → count t ≤ k) → length (stage_of F n m tables) ≤ sheet_frame + L.frame * m + selector_bytes * (m * k)
      unfolding total
      sheet_length_most k few = omega (arith, sheet_length, sum_bound m k (λ j. count (wires tables j)) (λ j _. few (wires tables j)))

  -- the cells of what is written
  pub drawn_cells_lem : (n m : ℕ) (tables : List ℕ) → n ≤ F.most → m ≤ length tables
      → drawn_cells (drawing F) (stage_drawn F n m tables) ≡ total (F.count n) m (wires tables)
  drawn_cells_lem n m tables s h =
      ap (drawn_cells (drawing F)) (drawn_least F L n m tables s)
      ∙ least_cells (drawing F) n (F.count n) (L.fair n s) (take m tables) ∙ total_taken (F.count n) m tables h
