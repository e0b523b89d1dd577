-- The form of a stage sheet: what the kinds of stage sheets do not have in common. Document 01 has one kind, whose wires are trees; document 02 (E2) adds one
-- whose wires share selectors. The head, the wires one after the other, the end, the writer and the replies are told over a form, so that they are told once.
use Rattle.std.specs.Prelude.{ℕ, Bool, List}
use Rattle.stage.specs.Steps.{Read}

pub record StageForm : Type 1 where
  -- the most inputs that a sheet has (document 02, E5)
  pub most : ℕ
  -- what drives a wire, when it is well formed for n inputs, the bit that it drives on pattern p, and its cells (see `Drawing`)
  pub Shape : Type 0
  pub WellFormed : (n : ℕ) → Shape → Type 0
  pub follow : (n p : ℕ) → Shape → ℕ
  pub cells : Shape → ℕ
  -- the cells of a table of n inputs, and what the writer makes of the table
  pub count : (n t : ℕ) → ℕ
  pub reduced : (n t : ℕ) → Shape
  -- a wire as bytes, under its number
  pub wire_bytes : (j : ℕ) → Shape → List ℕ
  -- the first bytes of the sheet's commands
  pub known : ℕ → Bool
  -- wire j of a sheet of n inputs and m wires, read at a place where it is due
  pub wire_at : (n m j at : ℕ) → List ℕ → Read Shape
