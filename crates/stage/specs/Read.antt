-- Document 01, "Stage sheet" and "Refusals": what reading a stage sheet gives, over the form of its wires. A refusal's place is where its command starts, but 4
-- names the byte that is too much.
use Rattle.std.specs.Prelude.{ℕ, zero, suc, ◌+◌, Bool, cond, List, [], ◌∷◌}
use Rattle.base.specs.Refusals.{refusal_at, out_of_range, trailing}
use Rattle.base.specs.declared.Refusal.{Refusal}
use Rattle.sheet.specs.Limits.{sizes_out}
use Rattle.table.specs.Drawing.{Drawing, StageSheet, got, no_stage}
use Rattle.stage.specs.Steps.{Read, taken, fault, and_then, due, operand}
use Rattle.stage.specs.Form.{StageForm}

-- 2F, and then nothing: the whole; 4 at the first byte that follows
unfoldable pub nothing_after : {A : Type 0} → (Refusal → A) → A → ℕ → List ℕ → A
nothing_after stop whole at [] = whole
nothing_after stop whole at (b ∷ rest) = stop (refusal_at trailing (at + 1))

unfoldable pub end_at : {A : Type 0} → (known : ℕ → Bool) → (Refusal → A) → A → ℕ → List ℕ → A
end_at known stop whole at = due known stop 0x2F at (nothing_after stop whole at)

module _ (F : StageForm) where
  -- the next wires, as many as are left, from j on
  unfoldable pub wires_at : ℕ → ℕ → ℕ → ℕ → ℕ → List ℕ → Read (List F.Shape)
  wires_at zero n m j at bytes = taken [] at bytes
  wires_at (suc left) n m j at bytes =
      and_then (F.wire_at n m j at bytes)
      (λ x at' rest. and_then (wires_at left n m (suc j) at' rest) (λ xs at'' rest''. taken (x ∷ xs) at'' rest''))

  -- the end after the wires
  unfoldable pub closed : ℕ → ℕ → Read (List F.Shape) → StageSheet F.Shape
  closed n m (taken stage at rest) = end_at F.known no_stage (got n m stage) at rest
  closed n m (fault f) = no_stage f

  -- a whole stage sheet: the head with its sizes, what drives each wire, and the end
  unfoldable pub read_sheet : List ℕ → StageSheet F.Shape
  read_sheet =
      due F.known no_stage 0x20 0
      (operand no_stage 0
      (λ n. operand no_stage 0
      (λ m rest. cond (sizes_out F.most n m) (no_stage (refusal_at out_of_range 0)) (closed n m (wires_at m n m 0 3 rest)))))

  -- the drawings of the form, with what is read from its sheets
  abbrev pub drawing : Drawing
  drawing = record { Shape = F.Shape; WellFormed = F.WellFormed; follow = F.follow; cells = F.cells; read_bytes = read_sheet }
