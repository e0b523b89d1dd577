-- What drives one wire is a drawing: on the board of document 01 a tree of selectors. Stages, rivals and promises are told over what a drawing is,
-- so that a board whose wires are drawn otherwise needs no more than another `Drawing`.
use Rattle.std.specs.Prelude.{ℕ, zero, ◌+◌, ◌^◌, ◌≡◌, List, [], ◌∷◌, map, length, get_or}
use Rattle.base.specs.declared.Refusal.{Refusal}
use Rattle.base.specs.Each.{Each}
use Rattle.table.specs.Bits.{of_bits}

-- what a stage sheet holds: its sizes and one drawing for each wire; or the refusal
pub data StageSheet (A : Type 0) : Type 0 where
  got : ℕ → ℕ → List A → StageSheet A
  no_stage : Refusal → StageSheet A

pub record Drawing : Type 1 where
  -- what is drawn
  pub Shape : Type 0
  -- it is well formed for n inputs
  pub WellFormed : (n : ℕ) → Shape → Type 0
  -- the bit that it drives on pattern p of n inputs
  pub follow : (n p : ℕ) → Shape → ℕ
  -- its cells
  pub cells : Shape → ℕ
  -- the bytes of a stage sheet, read
  pub read_bytes : List ℕ → StageSheet Shape

-- a stage drawn: one well-formed drawing for each of m wires
pub record Drawn (D : Drawing) (n m : ℕ) (stage : List D.Shape) : Type 0 where
  pub one_each : length stage ≡ m
  pub formed : Each (D.WellFormed n) stage

module _ (D : Drawing) where
  -- the truth table of a drawing: bit p is what it drives on pattern p
  unfoldable pub drawn_table : (n : ℕ) → D.Shape → ℕ
  drawn_table n x = of_bits (2 ^ n) (λ p. D.follow n p x)

  -- the value of a stage on pattern p: bit j is what the drawing of wire j drives
  unfoldable pub drawn_value : (n : ℕ) → List D.Shape → (p : ℕ) → ℕ
  drawn_value n stage p = of_bits (length stage) (λ j. get_or (map (D.follow n p) stage) j 0)

  -- the cells of a stage, over all its drawings
  unfoldable pub drawn_cells : List D.Shape → ℕ
  drawn_cells [] = zero
  drawn_cells (x ∷ stage) = D.cells x + drawn_cells stage
