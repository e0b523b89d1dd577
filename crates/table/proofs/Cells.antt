-- Laws of the cells of a table, over the width.
use Prim.Native.Nat.{ℕ, zero, suc, ◌+◌, ◌^◌, ◌<◌, ◌≤◌}
use mathlib.Core.Path.{◌≡◌, refl, sym, ap, ◌∙◌}
use mathlib.Core.Logic.{◌⊎◌, inl, inr, ⊎_elim}
use mathlib.Core.Bool.{◌||◌}
use native.Mathlib.Omega.{arith}
use native.Mathlib.Nat.{zero-mod, zero-div, mod-eq_of_lt, div-eq_of_lt}
use lib.Dec.{T, T_not, not_T, eqb, eqb→eq}
use lib.Pow.{pow_pos}
use Rattle.base.proofs.Tests.{cond_has, eqb_yes, eqb_not, or_cases, or_right, decide, eq_test}
use Rattle.table.specs.Cells.{low, high, full, wired_table, selector_cells, cells}
use Rattle.table.specs.Inner.CellsWritten.{is_constant, cells_written}
use Rattle.table.proofs.Halves.{join, join_low, join_high, same_halves}
use Rattle.table.proofs.Wired.{full_lt, full_some, full_twice, wired_halves, wired_none, not_wired_one, selector_most}

-- the cells of a table by its halves
pub cells_same : (r t : ℕ) → low r t ≡ high r t → cells (suc r) t ≡ cells r (low r t)
unfolding cells
cells_same r t e = eqb_yes (low r t) (high r t) (cells r (low r t)) (selector_cells (wired_table r t) + (cells r (low r t) + cells r (high r t))) e

pub cells_differ : (r t : ℕ) → (low r t ≡ high r t → ⊥) → cells (suc r) t ≡ selector_cells (wired_table r t) + (cells r (low r t) + cells r (high r t))
unfolding cells
cells_differ r t e = eqb_not (low r t) (high r t) (cells r (low r t)) (selector_cells (wired_table r t) + (cells r (low r t) + cells r (high r t))) e

pub cells_most : (r t : ℕ) → cells (suc r) t ≤ selector_cells (wired_table r t) + (cells r (low r t) + cells r (high r t))
cells_most r t = ⊎_elim (λ e. omega (arith, cells_same r t e)) (λ d. omega (arith, cells_differ r t d)) (same_halves r t)

-- a table of n inputs has fewer than 2 ^ n cells
pub cells_lt : (n t : ℕ) → cells n t < 2 ^ n
unfolding cells
cells_lt zero t = omega arith
cells_lt (suc n) t = omega (arith, cells_most n t, selector_most (wired_table n t), cells_lt n (low n t), cells_lt n (high n t))

-- the halves of a constant are the constants of one input fewer
constant_halves : (r t : ℕ) → (t ≡ 0) ⊎ (t ≡ full (suc r)) → (low r t ≡ high r t) × ((low r t ≡ 0) ⊎ (low r t ≡ full r))
unfolding low high
constant_halves r t (inl e) = let z = pow_pos (2 ^ r) in (rw (e, zero-mod, zero-div), inl (rw (e, zero-mod)))
constant_halves r t (inr e) =
    let d = e ∙ full_twice r in
    let l : low r t ≡ full r = ap (low r) d ∙ join_low r (full r) (full r) (full_lt r) (full_lt r) in
    let h : high r t ≡ full r = ap (high r) d ∙ join_high r (full r) (full r) (full_lt r) (full_lt r) in
    (l ∙ sym h, inr l)

pub constant_cells : (n t : ℕ) → (t ≡ 0) ⊎ (t ≡ full n) → cells n t ≡ 0
unfolding cells
constant_cells zero t h = refl
constant_cells (suc n) t h =
    let c = constant_halves n t h in
    cells_same n t c.0 ∙ constant_cells n (low n t) c.1

-- a line that is soldered through has none, whatever its width
pub wired_cells : (r t : ℕ) → T (wired_table r t) → cells (suc r) t ≡ 0
wired_cells r t w =
    let h = wired_halves r t w in
    omega (arith, cells_most r t, wired_none (wired_table r t) w, constant_cells r (low r t) (inl h.0), constant_cells r (high r t) (inr h.1))

-- an inverted line has one: its table is 1 throughout its lower half and 0 throughout its upper half
pub inverted_cells : (r : ℕ) → cells (suc r) (full r) ≡ 1
unfolding low high
inverted_cells r =
    let t = full r in
    let l : low r t ≡ full r = mod-eq_of_lt (full_lt r) in
    let h : high r t ≡ 0 = div-eq_of_lt (full_lt r) in
    let one = not_wired_one (wired_table r t) (not_T (wired_table r t) (λ w. omega (arith, full_some r, l, (wired_halves r t w).0))) in
    omega (
      arith,
      cells_differ r t (λ e. omega (arith, full_some r, l, h)),
      one,
      constant_cells r (low r t) (inr l),
      constant_cells r (high r t) (inl h),
    )

-- A count of tables over the width that goes by halves: a table of equal halves counts as one of them, no table for less than its lower half, and for as much
-- only where the lower half is the smaller number.
pub record ByHalves (count : ℕ → ℕ → ℕ) : Type 0 where
  pub alike : (r t : ℕ) → low r t ≡ high r t → count (suc r) t ≡ count r (low r t)
  pub fewer : (r t : ℕ) → count r (low r t) ≤ count (suc r) t
  pub smaller : (r t : ℕ) → count (suc r) t ≤ count r (low r t) → low r t ≤ high r t

-- a half twice counts as the half
pub counted_twice : (count : ℕ → ℕ → ℕ) → ByHalves count → (r t : ℕ) → t < 2 ^ (2 ^ r) → count (suc r) (join r t t) ≡ count r t
counted_twice count by r t l =
    let e = join_low r t t l l in
    by.alike r (join r t t) (e ∙ sym (join_high r t t l l)) ∙ ap (count r) e

pub cells_halves : ByHalves cells
cells_halves =
    record {
      alike = cells_same;
      fewer = λ r t. ⊎_elim (λ e. omega (arith, cells_same r t e)) (λ d. omega (arith, cells_differ r t d)) (same_halves r t);
      smaller = λ r t g.
          ⊎_elim (λ e. omega arith)
          (λ d.
          ⊎_elim (λ w. omega (arith, (wired_halves r t w).0)) (λ w. absurd (omega (arith, g, cells_differ r t d, not_wired_one (wired_table r t) w)))
          (decide (wired_table r t)))
          (same_halves r t);
    }

-- the rules for constants and for a soldered line written apart say the same
pub cells_written_lem : (n t : ℕ) → cells_written n t ≡ cells n t
unfolding cells_written cells is_constant
cells_written_lem zero t = refl
cells_written_lem (suc n) t =
    let a = cells_written_lem n (low n t) in
    let b = cells_written_lem n (high n t) in
    cond_has (λ x. x ≡ cells (suc n) t) (eqb t 0 || eqb t (full (suc n)) || wired_table n t)
    (λ h. sym (⊎_elim (λ c. constant_cells (suc n) t (constant c)) (wired_cells n t) (or_cases (eqb t 0 || eqb t (full (suc n))) (wired_table n t) h)))
    (λ h.
    let one = not_wired_one (wired_table n t) (not_T (wired_table n t) (λ w. T_not (eqb t 0 || eqb t (full (suc n)) || wired_table n t) h (or_right (eqb t 0 || eqb t (full (suc n))) (wired_table n t) w))) in
    cond_has (λ x. x ≡ cells (suc n) t) (eqb (low n t) (high n t))
    (λ e. a ∙ sym (cells_same n t (eqb→eq (low n t) (high n t) e)))
    (λ e. omega (arith, a, b, one, cells_differ n t (λ d. T_not (eqb (low n t) (high n t)) e (eq_test d)))))
  where
    constant : T (eqb t 0 || eqb t (full (suc n))) → (t ≡ 0) ⊎ (t ≡ full (suc n))
    constant c = ⊎_elim (λ z. inl (eqb→eq t 0 z)) (λ o. inr (eqb→eq t (full (suc n)) o)) (or_cases (eqb t 0) (eqb t (full (suc n))) c)
