-- Laws of truth tables as the stage reader makes them: of a constant, and of a selector from the tables of its trees.
use Prim.Native.Nat.{ℕ, zero, suc, ◌*◌, ◌^◌, ◌-◌, ◌<◌, ◌≤◌}
use mathlib.Core.Path.{◌≡◌, refl, sym, ap, ap₂, ◌∙◌}
use mathlib.Core.Logic.{◌⊎◌, inl, inr}
use mathlib.Core.Bool.{cond}
use native.Mathlib.Omega.{arith}
use native.Mathlib.Nat.{lt_of_le_of_lt, lt_of_lt_of_le}
use lib.Dec.{eqb}
use lib.Bits.{bit_and, bit_xor, xor_lt, and_le_l}
use lib.Pow.{pow_mono}
use Rattle.base.proofs.Tests.{cond_has}
use Rattle.sheet.specs.Limits.{max_inputs, max_patterns}
use Rattle.table.specs.Bits.{bit, of_bits, sum}
use Rattle.table.specs.Cells.{full}
use Rattle.table.specs.Drawing.{drawn_table}
use Rattle.table.specs.Tree.{Tree, con, sel, Ordered, follow}
use Rattle.table.proofs.Bits.{bit_lt, bit_ext, bit_cases, bit_and_lem, bit_xor_lem, of_bits_lt, of_bits_ones, bit_of_bits, sum_cong}
use Rattle.stage.proofs.TreeTables.{table_of, table_bit}
use Rattle.stage_reader.specs.Inner.Tables.{input_table, select_of}

-- the tables of the constants
no_bits : (k : ℕ) → of_bits k (λ p. 0) ≡ 0
unfolding of_bits sum
no_bits zero = refl
no_bits (suc k) = omega (arith, no_bits k)

pub table_zero : (n : ℕ) → table_of n (con 0) ≡ 0
unfolding drawn_table follow
table_zero n = no_bits (2 ^ n)

pub table_one : (n : ℕ) → full n ≡ table_of n (con 1)
unfolding full drawn_table follow
table_one n = sym (of_bits_ones (2 ^ n))

-- the selector's table by its trees' tables
choice_lt : (p j a b : ℕ) → a < 2 → b < 2 → cond (eqb (bit p j) 0) a b < 2
choice_lt p j a b x y = cond_has (λ z. z < 2) (eqb (bit p j) 0) (λ _. x) (λ _. y)

pub table_select : (n i k : ℕ) (z o : Tree) → Ordered n k z → Ordered n k o → select_of n i (table_of n z) (table_of n o) ≡ table_of n (sel i z o)
unfolding select_of drawn_table follow of_bits
table_select n i k z o a b =
    sum_cong (2 ^ n) (λ p. cond (eqb (bit p (n - i)) 0) (bit (table_of n z) p) (bit (table_of n o) p) * 2 ^ p) (λ p. follow n p (sel i z o) * 2 ^ p)
    (λ p l.
    ap₂ (λ x y. cond (eqb (bit p (n - i)) 0) x y * 2 ^ p) (table_bit n k z a p l) (table_bit n k o b p l))

-- bits of one table where a column is 0, of another where it is 1
turned : (x y c : ℕ) → (x ≡ 0) ⊎ (x ≡ 1) → (y ≡ 0) ⊎ (y ≡ 1) → (c ≡ 0) ⊎ (c ≡ 1) → bit_xor x (bit_and (bit_xor x y) c) ≡ cond (eqb c 0) x y
turned x y c (inl e) (inl d) (inl f) = rw (e, d, f)
turned x y c (inl e) (inl d) (inr f) = rw (e, d, f)
turned x y c (inl e) (inr d) (inl f) = rw (e, d, f)
turned x y c (inl e) (inr d) (inr f) = rw (e, d, f)
turned x y c (inr e) (inl d) (inl f) = rw (e, d, f)
turned x y c (inr e) (inl d) (inr f) = rw (e, d, f)
turned x y c (inr e) (inr d) (inl f) = rw (e, d, f)
turned x y c (inr e) (inr d) (inr f) = rw (e, d, f)

module _ (n i off on col : ℕ) (least : 1 ≤ i) (most : i ≤ n) (small : n ≤ max_inputs)
    (fits_off : off < 2 ^ (2 ^ n)) (fits_on : on < 2 ^ (2 ^ n)) (is : col ≡ input_table (n - i)) where
  merged_lt : bit_xor off (bit_and (bit_xor off on) col) < 2 ^ (2 ^ n)
  merged_lt = xor_lt (2 ^ n) off _ fits_off (lt_of_le_of_lt (and_le_l (bit_xor off on) col) (xor_lt (2 ^ n) off on fits_off fits_on))

  column_bit : (p : ℕ) → p < 2 ^ n → bit col p ≡ bit p (n - i)
  unfolding input_table
  column_bit p l =
      let w : 2 ^ n ≤ max_patterns = pow_mono {j = max_inputs} small in
      ap (λ x. bit x p) is ∙ bit_of_bits (λ p. bit p (n - i)) max_patterns (λ q _. bit_lt q (n - i)) p (lt_of_lt_of_le l w)

  pub merged : bit_xor off (bit_and (bit_xor off on) col) ≡ select_of n i off on
  unfolding select_of
  merged =
      let f : ℕ → ℕ = λ p. cond (eqb (bit p (n - i)) 0) (bit off p) (bit on p) in
      let b : (p : ℕ) → p < 2 ^ n → f p < 2 = λ p _. choice_lt p (n - i) (bit off p) (bit on p) (bit_lt off p) (bit_lt on p) in
      bit_ext (2 ^ n) _ _ merged_lt (of_bits_lt f (2 ^ n) b)
      (λ p l.
      bit_xor_lem off (bit_and (bit_xor off on) col) p
      ∙ ap (bit_xor (bit off p)) (bit_and_lem (bit_xor off on) col p ∙ ap₂ bit_and (bit_xor_lem off on p) (column_bit p l))
      ∙ turned (bit off p) (bit on p) (bit p (n - i)) (bit_cases off p) (bit_cases on p) (bit_cases p (n - i))
      ∙ sym (bit_of_bits f (2 ^ n) b p l))
