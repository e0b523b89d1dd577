-- Document 01, "Stage sheet": the bytes of a stage, over the form of its wires.
use Rattle.std.specs.Prelude.{ℕ, suc, List, [], ◌∷◌, ◌++◌}
use Rattle.stage.specs.Form.{StageForm}

module _ (F : StageForm) where
  -- the wires from j on, each under its own number
  unfoldable pub wires_bytes : ℕ → List F.Shape → List ℕ
  wires_bytes j [] = []
  wires_bytes j (x ∷ xs) = F.wire_bytes j x ++ wires_bytes (suc j) xs

  -- the head with the sizes, the wires, and the end
  unfoldable pub stage_bytes : ℕ → ℕ → List F.Shape → List ℕ
  stage_bytes n m stage = 0x20 ∷ n ∷ m ∷ wires_bytes 0 stage ++ 0x2F ∷ []

-- what a sheet takes besides its wires, and what a selector takes in a wire of either form
abbrev pub sheet_frame : ℕ
sheet_frame = 4

abbrev pub selector_bytes : ℕ
selector_bytes = 3
