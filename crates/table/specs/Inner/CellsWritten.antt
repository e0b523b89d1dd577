-- Document 01, "Cells", and document 02, E4, with their rules for constants and for a soldered line written apart: the same count (`table/proofs/Cells`,
-- `cells_written_lem`).
use Rattle.std.specs.Prelude.{ℕ, zero, suc, ◌+◌, Bool, cond, ◌||◌, eqb}
use Rattle.table.specs.Cells.{low, high, full, wired_table}

-- the table is constant 0 or constant 1
unfoldable pub is_constant : ℕ → ℕ → Bool
is_constant n t = eqb t 0 || eqb t (full n)

-- to the letter: a constant has none, a line that is soldered through has none, and any other table goes by its halves
unfoldable pub cells_written : ℕ → ℕ → ℕ
cells_written zero t = zero
cells_written (suc n) t =
    let a = cells_written n (low n t) in
    let b = suc (a + cells_written n (high n t)) in
    let c = cond (eqb (low n t) (high n t)) a b in
    cond (is_constant (suc n) t || wired_table n t) zero c
