-- The quarters of a table of four inputs, its cofactors by the first two: what a projection leaves for each, and the table that four quarters make.
use Prim.Native.Nat.{ℕ, zero, suc, ◌*◌, ◌^◌, ◌<◌}
use mathlib.Core.Path.{◌≡◌, sym, ap, ap₂, ◌∙◌}
use native.Mathlib.Omega.{arith}
use lib.Dec.{T}
use Rattle.table.specs.Bits.{sum}
use Rattle.table.specs.Cells.{low, high}
use Rattle.table.specs.Pick.{Proj, suits}
use Rattle.table.proofs.Halves.{low_lt, high_lt, join, join_low, join_high, join_lt, join_halves}
use Rattle.table.proofs.Suited.{upper, suits_low, suits_high, suits_both}
use Rattle.nodes.specs.Inner.Ways.{four, place_of}

-- four places
pub below4 : (P : ℕ → Type 0) → P 0 → P 1 → P 2 → P 3 → (j : ℕ) → j < 4 → P j
below4 P a b c d zero l = a
below4 P a b c d (suc zero) l = b
below4 P a b c d (suc (suc zero)) l = c
below4 P a b c d (suc (suc (suc zero))) l = d
below4 P a b c d (suc (suc (suc (suc j)))) l = absurd (omega arith)

pub below2 : (P : ℕ → Type 0) → P 0 → P 1 → (j : ℕ) → j < 2 → P j
below2 P a b zero l = a
below2 P a b (suc zero) l = b
below2 P a b (suc (suc j)) l = absurd (omega arith)

-- the halves and the quarters of a table
abbrev pub halves_of : ℕ → ℕ → ℕ
halves_of t zero = low 3 t
halves_of t (suc i) = high 3 t

abbrev pub quarters_of : ℕ → ℕ → ℕ
quarters_of t = four (low 2 (low 3 t)) (high 2 (low 3 t)) (low 2 (high 3 t)) (high 2 (high 3 t))

pub quarters_lt : (t : ℕ) → t < 2 ^ (2 ^ 4) → (j : ℕ) → j < 4 → quarters_of t j < 2 ^ (2 ^ 2)
quarters_lt t l =
    below4 (λ j. quarters_of t j < 2 ^ (2 ^ 2)) (low_lt 2 (low 3 t)) (high_lt 2 (low 3 t) (low_lt 3 t)) (low_lt 2 (high 3 t))
    (high_lt 2 (high 3 t) (high_lt 3 t l))

-- halves with the same quarters are equal
pub halves_equal : (t : ℕ) → quarters_of t 0 ≡ quarters_of t 2 → quarters_of t 1 ≡ quarters_of t 3 → low 3 t ≡ high 3 t
halves_equal t a b = join_halves 2 (low 3 t) ∙ ap₂ (join 2) b a ∙ sym (join_halves 2 (high 3 t))

-- a table suits where its quarters do
abbrev pub quarter_proj : Proj → ℕ → Proj
quarter_proj P zero = P
quarter_proj P (suc zero) = upper 2 P
quarter_proj P (suc (suc zero)) = upper 3 P
quarter_proj P (suc (suc (suc j))) = upper 2 (upper 3 P)

module _ (P : Proj) (t : ℕ) where
  pub quarters_suit : T (suits 4 P t) → (j : ℕ) → j < 4 → T (suits 2 (quarter_proj P j) (quarters_of t j))
  quarters_suit s =
      let l = suits_low 3 P t s in
      let h = suits_high 3 P t s in
      below4 (λ j. T (suits 2 (quarter_proj P j) (quarters_of t j))) (suits_low 2 P (low 3 t) l) (suits_high 2 P (low 3 t) l)
      (suits_low 2 (upper 3 P) (high 3 t) h) (suits_high 2 (upper 3 P) (high 3 t) h)

  pub suits_quarters : ((j : ℕ) → j < 4 → T (suits 2 (quarter_proj P j) (quarters_of t j))) → T (suits 4 P t)
  suits_quarters s =
      suits_both 3 P t (suits_both 2 P (low 3 t) (s 0 (omega arith)) (s 1 (omega arith)))
      (suits_both 2 (upper 3 P) (high 3 t) (s 2 (omega arith)) (s 3 (omega arith)))

-- the table of four quarters
unfoldable pub made : (ℕ → ℕ) → ℕ
made q = join 3 (join 2 (q 3) (q 2)) (join 2 (q 1) (q 0))

pub made_sum : (q : ℕ → ℕ) → made q ≡ sum 4 (λ j. q j * place_of j)
unfolding made join sum
made_sum q = omega arith

pub made_again : (t : ℕ) → made (quarters_of t) ≡ t
unfolding made
made_again t = sym (join_halves 3 t ∙ ap₂ (join 3) (join_halves 2 (high 3 t)) (join_halves 2 (low 3 t)))

module _ (q : ℕ → ℕ) (small : (j : ℕ) → j < 4 → q j < 2 ^ (2 ^ 2)) where
  abbrev lower : join 2 (q 1) (q 0) < 2 ^ (2 ^ 3)
  lower = join_lt 2 (q 1) (q 0) (small 1 (omega arith)) (small 0 (omega arith))

  abbrev higher : join 2 (q 3) (q 2) < 2 ^ (2 ^ 3)
  higher = join_lt 2 (q 3) (q 2) (small 3 (omega arith)) (small 2 (omega arith))

  pub made_lt : made q < 2 ^ (2 ^ 4)
  unfolding made
  made_lt = join_lt 3 (join 2 (q 3) (q 2)) (join 2 (q 1) (q 0)) higher lower

  pub made_quarters : (j : ℕ) → j < 4 → quarters_of (made q) j ≡ q j
  unfolding made
  made_quarters =
      let l = join_low 3 (join 2 (q 3) (q 2)) (join 2 (q 1) (q 0)) higher lower in
      let h = join_high 3 (join 2 (q 3) (q 2)) (join 2 (q 1) (q 0)) higher lower in
      below4 (λ j. quarters_of (made q) j ≡ q j)
      (ap (low 2) l ∙ join_low 2 (q 1) (q 0) (small 1 (omega arith)) (small 0 (omega arith)))
      (ap (high 2) l ∙ join_high 2 (q 1) (q 0) (small 1 (omega arith)) (small 0 (omega arith)))
      (ap (low 2) h ∙ join_low 2 (q 3) (q 2) (small 3 (omega arith)) (small 2 (omega arith)))
      (ap (high 2) h ∙ join_high 2 (q 3) (q 2) (small 3 (omega arith)) (small 2 (omega arith)))
