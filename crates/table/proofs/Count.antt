-- What `count` returns at each number of inputs, from the entries of the table of three-input functions.
use mathlib.Core.Path.{◌≡◌, ◌∙◌, ap, sym}
use Prim.Native.Nat.{ℕ, suc, ◌+◌, ◌*◌, ◌^◌, ◌/◌, ◌%◌, ◌<◌}
use native.Mathlib.Nat.{mod-eq_of_lt}
use native.Mathlib.Omega.{arith}
use lib.Dec.{not_T}
use Rattle.table.specs.Cells.{cells, low, high, full, wired_table}
use Rattle.table.specs.Inner.Blocks.{one_space, three_space}
use Rattle.table.specs.Inner.Pairs.{block_space}
use Rattle.table.specs.Inner.Lines.{line}
use Rattle.table.proofs.Halves.{join}
use Rattle.table.proofs.Wired.{wired_line, line_wired, not_wired_one}
use Rattle.table.proofs.Cells.{cells_lt, cells_same, cells_differ, wired_cells, cells_halves, counted_twice}

-- a table repeated has no more cells
pub repeated : (n t : ℕ) → t < 2 ^ (2 ^ n) → cells (suc n) (t * 2 ^ (2 ^ n) + t) ≡ cells n t
unfolding join
repeated = counted_twice cells cells_halves

-- a table of n inputs fits the bits of a table of k inputs, where n is k
pub fits_at : {n k : ℕ} (t : ℕ) → n ≡ k → t < 2 ^ (2 ^ n) → t < 2 ^ (2 ^ k)
fits_at t e h = rw e at h

-- the cells at k inputs are those at n, where n is k
pub cells_at : {n k x : ℕ} (t : ℕ) → n ≡ k → t < 2 ^ (2 ^ n) → (t < 2 ^ (2 ^ k) → x ≡ cells k t) → x ≡ cells n t
cells_at t e h f = rw e (f (fits_at t e h))

-- an entry has room for more
pub entry_small : {x : ℕ} (t : ℕ) → x ≡ cells 3 t → x < 2 ^ 3
entry_small t e = rw e (cells_lt 3 t)

-- what `count` returns, from what the table's entries say, where it tells n: one input stands four times in three, two inputs twice
pub of_one : (t : ℕ) → t < one_space → cells 3 (t * 0x55 % three_space) ≡ cells 1 t
of_one t h =
    let u = t * one_space + t in
    let e : t * 0x55 % three_space ≡ u * block_space + u = omega arith in
    ap (cells 3) e ∙ repeated 2 u (omega arith) ∙ repeated 1 t h

pub of_two : (t : ℕ) → t < block_space → cells 3 (t * 0x11 % three_space) ≡ cells 2 t
of_two t h =
    let e : t * 0x11 % three_space ≡ t * block_space + t = omega arith in
    ap (cells 3) e ∙ repeated 2 t h

pub of_three : (t : ℕ) → t < three_space → cells 3 (t % three_space) ≡ cells 3 t
of_three t h = ap (cells 3) (mod-eq_of_lt h)

-- four inputs, by halves of three
module _ (t : ℕ) (h : t < 2 ^ (2 ^ 4)) where
  upper : t / three_space % three_space ≡ t / three_space
  upper = mod-eq_of_lt (omega arith)

  pub of_four_alike : t % three_space ≡ t / three_space % three_space → cells 3 (t % three_space) ≡ cells 4 t
  unfolding low high
  of_four_alike e = sym (cells_same 3 t (e ∙ upper))

  -- input 1 is the line of four inputs
  pub of_input_one : t ≡ 0xFF00 → 0 ≡ cells 4 t
  unfolding line full
  of_input_one e = sym (ap (cells 4) e ∙ wired_cells 3 (line 3) (line_wired 3))

  pub of_four : {x y : ℕ} → (t % three_space ≡ t / three_space % three_space → ⊥) → (t ≡ 0xFF00 → ⊥) → x ≡ cells 3 (t % three_space)
      → y ≡ cells 3 (t / three_space % three_space) → 1 + x + y ≡ cells 4 t
  unfolding low high line full
  of_four ne nl ex ey =
      let d = cells_differ 3 t (λ e. ne (e ∙ sym upper)) in
      let one = not_wired_one (wired_table 3 t) (not_T (wired_table 3 t) (λ w. nl (wired_line 3 t w))) in
      omega (arith, d, one, ex, ey ∙ ap (cells 3) upper)
