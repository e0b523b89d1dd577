-- What a count of cells needs of the drawings: no drawing of a function has fewer cells than its table's count, and one has exactly that many.
use Rattle.std.specs.Prelude.{ℕ, ◌^◌, ◌<◌, ◌≤◌, ◌≡◌}
use Rattle.table.specs.Bits.{bit}
use Rattle.table.specs.Drawing.{Drawing, drawn_table}

pub record FairCount (D : Drawing) (n : ℕ) (count : ℕ → ℕ) : Type 0 where
  -- a well-formed drawing drives bits
  pub drives : (x : D.Shape) → D.WellFormed n x → (p : ℕ) → D.follow n p x < 2
  -- none of the drawings of a table has fewer cells than the count
  pub least : (x : D.Shape) → D.WellFormed n x → count (drawn_table D n x) ≤ D.cells x
  -- one has as many
  pub reduced : ℕ → D.Shape
  pub reduced_formed : (t : ℕ) → t < 2 ^ (2 ^ n) → D.WellFormed n (reduced t)
  pub reduced_follow : (t p : ℕ) → t < 2 ^ (2 ^ n) → p < 2 ^ n → D.follow n p (reduced t) ≡ bit t p
  pub reduced_cells : (t : ℕ) → D.cells (reduced t) ≡ count t
