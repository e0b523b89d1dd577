-- Document 01, "Stage sheet" and "Refusals": one step of reading a stage sheet. For one command 2 and 5 come first, then 1; a refusal's place is where its
-- command starts. Which first bytes are commands is told by `known`, since each kind of stage sheet has its own.
use Rattle.std.specs.Prelude.{ℕ, Bool, cond, ◌||◌, List, [], ◌∷◌, leb, eqb, drop}
use Rattle.base.specs.Refusals.{refusal_at, cut_short, unknown, out_of_range, out_of_turn}
use Rattle.base.specs.declared.Refusal.{Refusal}

-- what reading at a place takes, with the place and the bytes after it; or the refusal
pub data Read (A : Type 0) : Type 0 where
  taken : A → ℕ → List ℕ → Read A
  fault : Refusal → Read A

unfoldable pub and_then : {A B : Type 0} → Read A → (A → ℕ → List ℕ → Read B) → Read B
and_then (taken x at rest) next = next x at rest
and_then (fault f) next = fault f

-- what comes next, unless the command at a place is refused: f is the number of its refusal, 0 where there is none
abbrev pub unless_refused : {A : Type 0} → (Refusal → A) → ℕ → ℕ → A → A
unless_refused stop at f next = cond (eqb f 0) next (stop (refusal_at f at))

-- a first byte that is not due: 5 where it starts another command of the sheet, else 2
unfoldable pub misplaced : (known : ℕ → Bool) → ℕ → ℕ
misplaced known b = cond (known b) out_of_turn unknown

-- the number of the refusal where the command `want` is due, 1 where no byte is left; 0 where the command stands there
unfoldable pub due_number : (known : ℕ → Bool) → ℕ → List ℕ → ℕ
due_number known want [] = cut_short
due_number known want (b ∷ rest) = cond (eqb b want) 0 (misplaced known b)

-- at a place where the command `want` is due, with what comes after its first byte
unfoldable pub due : {A : Type 0} → (known : ℕ → Bool) → (Refusal → A) → ℕ → ℕ → (List ℕ → A) → List ℕ → A
due known stop want at next bytes = unless_refused stop at (due_number known want bytes) (next (drop 1 bytes))

-- an operand of the command at a place, with what comes after it; 1 where no byte is left
unfoldable pub operand : {A : Type 0} → (Refusal → A) → ℕ → (ℕ → List ℕ → A) → List ℕ → A
operand stop at next [] = stop (refusal_at cut_short at)
operand stop at next (x ∷ rest) = next x rest

-- the number of the refusal of wire i where wire j of m is due: 3 where there is no wire i, or where another operand of its command is out of range, 5 where it is
-- another wire than j; 0 where it is wire j
abbrev pub turn_number : (m j i : ℕ) (out : Bool) → ℕ
turn_number m j i out = cond (leb m i || out) out_of_range (cond (eqb i j) 0 out_of_turn)
