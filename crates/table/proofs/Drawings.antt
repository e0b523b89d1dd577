-- Laws of stages drawn: their tables, values and cells, and the stage of the least drawings of given tables.
use Prim.Native.Nat.{ℕ, zero, suc, ◌+◌, ◌*◌, ◌^◌, ◌<◌, ◌≤◌}
use mathlib.Core.Path.{◌≡◌, refl, sym, ap, ap₂, ◌∙◌}
use mathlib.Core.List.{List, [], ◌∷◌, map}
use native.Mathlib.Omega.{arith}
use native.Mathlib.Nat.{not-suc-le-zero, le_of_suc-le-suc}
use lib.ListN.{length, get_or, length-map}
use Rattle.base.specs.Each.{Each}
use Rattle.table.specs.Bits.{bit, sum, of_bits}
use Rattle.table.specs.Cells.{wires, total}
use Rattle.table.specs.Drawing.{Drawing, drawn_table, drawn_value, drawn_cells}
use Rattle.table.specs.Inner.Drawing.{FairCount}
use Rattle.table.proofs.Sums.{sum_cong}
use Rattle.table.proofs.Bits.{of_bits_lt, bit_of_bits}

-- the first of a sum apart
pub sum_first : (k : ℕ) (f : ℕ → ℕ) → sum (suc k) f ≡ f 0 + sum k (λ i. f (suc i))
unfolding sum
sum_first zero f = omega arith
sum_first (suc k) f = omega (arith, sum_first k f)

module _ (D : Drawing) (n : ℕ) (count : ℕ → ℕ) (counts : FairCount D n count) where
  table_lt : (x : D.Shape) → D.WellFormed n x → drawn_table D n x < 2 ^ (2 ^ n)
  unfolding drawn_table
  table_lt x f = of_bits_lt (λ p. D.follow n p x) (2 ^ n) (λ p _. counts.drives x f p)

  table_bit : (x : D.Shape) → D.WellFormed n x → (p : ℕ) → p < 2 ^ n → bit (drawn_table D n x) p ≡ D.follow n p x
  unfolding drawn_table
  table_bit x f p l = bit_of_bits (λ p. D.follow n p x) (2 ^ n) (λ p _. counts.drives x f p) p l

  -- the tables of a stage, wire by wire
  pub tables_lt : (xs : List D.Shape) → Each (D.WellFormed n) xs → (j : ℕ) → j < length xs → wires (map (drawn_table D n) xs) j < 2 ^ (2 ^ n)
  tables_lt [] f j l = absurd (not-suc-le-zero l)
  tables_lt (x ∷ xs) f zero l = table_lt x f.0
  tables_lt (x ∷ xs) f (suc j) l = tables_lt xs f.1 j (le_of_suc-le-suc l)

  tables_bit : (xs : List D.Shape) → Each (D.WellFormed n) xs → (p : ℕ) → p < 2 ^ n → (j : ℕ) → j < length xs
      → bit (wires (map (drawn_table D n) xs) j) p ≡ get_or (map (D.follow n p) xs) j 0
  tables_bit [] f p b j l = absurd (not-suc-le-zero l)
  tables_bit (x ∷ xs) f p b zero l = table_bit x f.0 p b
  tables_bit (x ∷ xs) f p b (suc j) l = tables_bit xs f.1 p b j (le_of_suc-le-suc l)

  drives_at : (xs : List D.Shape) → Each (D.WellFormed n) xs → (p j : ℕ) → j < length xs → get_or (map (D.follow n p) xs) j 0 < 2
  drives_at [] f p j l = absurd (not-suc-le-zero l)
  drives_at (x ∷ xs) f p zero l = counts.drives x f.0 p
  drives_at (x ∷ xs) f p (suc j) l = drives_at xs f.1 p j (le_of_suc-le-suc l)

  -- the value of a stage is the value of its tables, and a value of its wires
  pub value_tables : (xs : List D.Shape) → Each (D.WellFormed n) xs → (p : ℕ) → p < 2 ^ n
      → of_bits (length xs) (λ j. bit (wires (map (drawn_table D n) xs) j) p) ≡ drawn_value D n xs p
  unfolding of_bits drawn_value
  value_tables xs f p b =
      sum_cong (length xs) (λ j. bit (wires (map (drawn_table D n) xs) j) p * 2 ^ j) (λ j. get_or (map (D.follow n p) xs) j 0 * 2 ^ j)
      (λ j l. ap (λ y. y * 2 ^ j) (tables_bit xs f p b j l))

  pub value_lt : (xs : List D.Shape) → Each (D.WellFormed n) xs → (p : ℕ) → drawn_value D n xs p < 2 ^ length xs
  unfolding drawn_value
  value_lt xs f p = of_bits_lt (λ j. get_or (map (D.follow n p) xs) j 0) (length xs) (λ j l. drives_at xs f p j l)

  -- the tables of a stage count no more than the stage has cells
  pub total_drawn : (xs : List D.Shape) → Each (D.WellFormed n) xs → total count (length xs) (wires (map (drawn_table D n) xs)) ≤ drawn_cells D xs
  unfolding total drawn_cells sum
  total_drawn [] f = omega arith
  total_drawn (x ∷ xs) f =
      omega (arith, sum_first (length xs) (λ j. count (wires (map (drawn_table D n) (x ∷ xs)) j)), counts.least x f.0, total_drawn xs f.1)

  -- the least drawings of given tables
  abbrev pub least : List ℕ → List D.Shape
  least ts = map counts.reduced ts

  pub least_formed : (ts : List ℕ) → Each (λ t. t < 2 ^ (2 ^ n)) ts → Each (D.WellFormed n) (least ts)
  least_formed [] s = tt
  least_formed (t ∷ ts) s = (counts.reduced_formed t s.0, least_formed ts s.1)

  least_bit : (ts : List ℕ) → Each (λ t. t < 2 ^ (2 ^ n)) ts → (p : ℕ) → p < 2 ^ n → (j : ℕ) → j < length ts
      → get_or (map (D.follow n p) (least ts)) j 0 ≡ bit (wires ts j) p
  least_bit [] s p b j l = absurd (not-suc-le-zero l)
  least_bit (t ∷ ts) s p b zero l = counts.reduced_follow t p s.0 b
  least_bit (t ∷ ts) s p b (suc j) l = least_bit ts s.1 p b j (le_of_suc-le-suc l)

  pub least_value : (ts : List ℕ) → Each (λ t. t < 2 ^ (2 ^ n)) ts → (p : ℕ) → p < 2 ^ n
      → drawn_value D n (least ts) p ≡ of_bits (length ts) (λ j. bit (wires ts j) p)
  unfolding of_bits drawn_value
  least_value ts s p b =
      ap (λ k. sum k (λ j. get_or (map (D.follow n p) (least ts)) j 0 * 2 ^ j)) (length-map ts counts.reduced)
      ∙ sum_cong (length ts) (λ j. get_or (map (D.follow n p) (least ts)) j 0 * 2 ^ j) (λ j. bit (wires ts j) p * 2 ^ j)
      (λ j l. ap (λ y. y * 2 ^ j) (least_bit ts s p b j l))

  pub least_cells : (ts : List ℕ) → drawn_cells D (least ts) ≡ total count (length ts) (wires ts)
  unfolding total drawn_cells sum
  least_cells [] = refl
  least_cells (t ∷ ts) =
      ap₂ ◌+◌ (counts.reduced_cells t) (least_cells ts) ∙ sym (sum_first (length ts) (λ j. count (wires (t ∷ ts) j)))
