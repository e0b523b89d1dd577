-- The two masks of a wire on a section in one number: its bits, and the number back from its masks.
use Prim.Native.Nat.{ℕ, ◌+◌, ◌*◌, ◌^◌, ◌/◌, ◌%◌, ◌<◌}
use mathlib.Core.Path.{◌≡◌, ap, ap₂, ◌∙◌}
use mathlib.Core.Bool.{cond}
use native.Mathlib.Omega.{arith}
use lib.Dec.{T_not, eqb, eqb→eq}
use Rattle.base.proofs.Tests.{cond_has, eq_test, eqb_yes, eqb_not}
use Rattle.table.specs.Bits.{bit, sum, of_bits}
use Rattle.table.specs.Inner.Pairs.{narrow_patterns, block_patterns, upper_half, pair_bits, seat, zeros_in, ones_in, paired}
use Rattle.table.proofs.Pairs.{ones_at_lem, zeros_at_lem}
use Rattle.table.proofs.Bits.{sum_cong, bit_lt, bit_of_bits, of_bits_bit}

-- the pattern that bit i speaks of
abbrev pattern_at : ℕ → ℕ
pattern_at i = i / (2 * block_patterns) * block_patterns + i % block_patterns

-- two masks, one bit after the other as they stand in the number
mixed : (ℕ → ℕ) → (ℕ → ℕ) → ℕ → ℕ
mixed f h i = cond (eqb (i / block_patterns % 2) 0) (f (pattern_at i)) (h (pattern_at i))

in_order : (f h : ℕ → ℕ) → sum narrow_patterns (λ p. (f p + upper_half * h p) * 2 ^ seat p) ≡ of_bits pair_bits (mixed f h)
unfolding sum of_bits seat mixed
in_order f h = omega arith

module _ (f h : ℕ → ℕ) (lf : (p : ℕ) → f p < 2) (lh : (p : ℕ) → h p < 2) (p : ℕ) (l : p < narrow_patterns) where
  mixed_lt : (i : ℕ) → mixed f h i < 2
  unfolding mixed
  mixed_lt i = cond_has (λ x. x < 2) (eqb (i / block_patterns % 2) 0) (λ _. lf (pattern_at i)) (λ _. lh (pattern_at i))

  bit_one : bit (sum narrow_patterns (λ q. (f q + upper_half * h q) * 2 ^ seat q)) (seat p) ≡ f p
  unfolding mixed seat
  bit_one =
      let s = seat p in
      ap (λ x. bit x s) (in_order f h) ∙ bit_of_bits (mixed f h) pair_bits (λ i _. mixed_lt i) s (omega arith)
      ∙ eqb_yes (s / block_patterns % 2) 0 (f (pattern_at s)) (h (pattern_at s)) (omega arith) ∙ ap f (omega arith)

  bit_zero : bit (sum narrow_patterns (λ q. (f q + upper_half * h q) * 2 ^ seat q)) (seat p + block_patterns) ≡ h p
  unfolding mixed seat
  bit_zero =
      let s = seat p + block_patterns in
      ap (λ x. bit x s) (in_order f h) ∙ bit_of_bits (mixed f h) pair_bits (λ i _. mixed_lt i) s (omega arith)
      ∙ eqb_not (s / block_patterns % 2) 0 (f (pattern_at s)) (h (pattern_at s)) (λ e. absurd (omega arith)) ∙ ap h (omega arith)

-- a number is the pair of its two masks
module _ (zeros ones : ℕ) where
  pub paired_ones : ones < 2 ^ narrow_patterns → ones_in (paired zeros ones) ≡ ones
  unfolding ones_in paired of_bits
  paired_ones h =
      sum_cong narrow_patterns (λ p. bit (paired zeros ones) (seat p) * 2 ^ p) (λ p. bit ones p * 2 ^ p)
      (λ p l. ap (λ x. x * 2 ^ p) (bit_one (bit ones) (bit zeros) (bit_lt ones) (bit_lt zeros) p l))
      ∙ of_bits_bit narrow_patterns ones h

  pub paired_zeros : zeros < 2 ^ narrow_patterns → zeros_in (paired zeros ones) ≡ zeros
  unfolding zeros_in paired of_bits
  paired_zeros h =
      sum_cong narrow_patterns (λ p. bit (paired zeros ones) (seat p + block_patterns) * 2 ^ p) (λ p. bit zeros p * 2 ^ p)
      (λ p l. ap (λ x. x * 2 ^ p) (bit_zero (bit ones) (bit zeros) (bit_lt ones) (bit_lt zeros) p l))
      ∙ of_bits_bit narrow_patterns zeros h

seated : (k r : ℕ) → r < block_patterns → seat (k * block_patterns + r) ≡ k * (2 * block_patterns) + r
unfolding seat
seated k r h = omega arith

pub paired_back : (x : ℕ) → x < 2 ^ pair_bits → paired (zeros_in x) (ones_in x) ≡ x
unfolding paired of_bits mixed
paired_back x h =
    let f : ℕ → ℕ = λ p. bit x (seat p) in
    let g : ℕ → ℕ = λ p. bit x (seat p + block_patterns) in
    sum_cong narrow_patterns (λ p. (bit (ones_in x) p + upper_half * bit (zeros_in x) p) * 2 ^ seat p) (λ p. (f p + upper_half * g p) * 2 ^ seat p)
    (λ p l. ap₂ (λ y z. (y + upper_half * z) * 2 ^ seat p) (ones_at_lem x p l) (zeros_at_lem x p l))
    ∙ in_order f g
    ∙ sum_cong pair_bits (λ i. mixed f g i * 2 ^ i) (λ i. bit x i * 2 ^ i)
    (λ i l.
    let k = i / (2 * block_patterns) in
    let r = i % block_patterns in
    let s : seat (pattern_at i) ≡ k * (2 * block_patterns) + r = seated k r (omega arith) in
    ap (λ y. y * 2 ^ i)
    (cond_has (λ y. y ≡ bit x i) (eqb (i / block_patterns % 2) 0)
    (λ t. let e = eqb→eq (i / block_patterns % 2) 0 t in ap (bit x) (omega arith))
    (λ t. let ne : i / block_patterns % 2 ≡ 0 → ⊥ = λ d. T_not (eqb (i / block_patterns % 2) 0) t (eq_test d) in ap (bit x) (omega arith))))
    ∙ of_bits_bit pair_bits x h
