-- `misplaced_number` meets its contract: each arm is the case of `misplaced` for its byte.
use Prim.Native.Nat.{ℕ}
use mathlib.Core.Path.{◌≡◌, sym, ap₂}
use borrow.Author.Tests.{ne_eqb}
use native.Mathlib.Omega.{arith}
use Rattle.base.specs.Refusals.{unknown}
use Rattle.nodes.specs.declared.BoardKind.{BoardKind}
use Rattle.nodes.specs.declared.BoardKind.TheVariants.{Tree, Sharing}
use Rattle.diagram.specs.Forms.{form_of}
use Rattle.stage.specs.Steps.{misplaced}
use Rattle.stage_reader.proofs.due.misplaced_number.Goals as goal

-- a byte, looked up for the board
known_byte : {kind k : BoardKind} {b x : ℕ} → kind ≡ k → b ≡ x → misplaced (form_of k).known x ≡ misplaced (form_of kind).known b
known_byte e d = sym (ap₂ (λ (kind : BoardKind) (b : ℕ). misplaced (form_of kind).known b) e d)

-- a byte that starts no command of the board's sheets
no_tree : (kind : BoardKind) (b : ℕ) → kind ≡ Tree → (b ≡ 0x20 → ⊥) → (b ≡ 0x21 → ⊥) → (b ≡ 0x22 → ⊥) → (b ≡ 0x23 → ⊥) → (b ≡ 0x24 → ⊥)
    → (b ≡ 0x2F → ⊥) → unknown ≡ misplaced (form_of kind).known b
unfolding misplaced
no_tree kind b e k0 k1 k2 k3 k4 kF = rw (e, ne_eqb b _ k0, ne_eqb b _ k1, ne_eqb b _ k2, ne_eqb b _ k3, ne_eqb b _ k4, ne_eqb b _ kF)

no_diagram : (kind : BoardKind) (b : ℕ) → kind ≡ Sharing → (b ≡ 0x20 → ⊥) → (b ≡ 0x26 → ⊥) → (b ≡ 0x2F → ⊥) → unknown ≡ misplaced (form_of kind).known b
unfolding misplaced
no_diagram kind b e k0 k6 kF = rw (e, ne_eqb b _ k0, ne_eqb b _ k6, ne_eqb b _ kF)

pub returns-in-32 : goal.returns-in-32
unfolding misplaced
returns-in-32 c = known_byte c.in-Tree.is c.in-32.is

pub returns-in-33 : goal.returns-in-33
unfolding misplaced
returns-in-33 c = known_byte c.in-Tree.is c.in-33.is

pub returns-in-34 : goal.returns-in-34
unfolding misplaced
returns-in-34 c = known_byte c.in-Tree.is c.in-34.is

pub returns-in-35 : goal.returns-in-35
unfolding misplaced
returns-in-35 c = known_byte c.in-Tree.is c.in-35.is

pub returns-in-36 : goal.returns-in-36
unfolding misplaced
returns-in-36 c = known_byte c.in-Tree.is c.in-36.is

pub returns-in-47 : goal.returns-in-47
unfolding misplaced
returns-in-47 c = known_byte c.in-Tree.is c.in-47.is

pub returns-in-32-b : goal.returns-in-32-b
unfolding misplaced
returns-in-32-b c = known_byte c.in-Sharing.is c.in-32-b.is

pub returns-in-38 : goal.returns-in-38
unfolding misplaced
returns-in-38 c = known_byte c.in-Sharing.is c.in-38.is

pub returns-in-47-b : goal.returns-in-47-b
unfolding misplaced
returns-in-47-b c = known_byte c.in-Sharing.is c.in-47-b.is

-- what no arm before took is none of their bytes
pub returns-in_default : goal.returns-in_default
returns-in_default c =
    no_tree _ _ c.in-Tree.is (λ e. omega arith) (λ e. omega arith) (λ e. omega arith) (λ e. omega arith) (λ e. omega arith) (λ e. omega arith)

pub returns-in_default-b : goal.returns-in_default-b
returns-in_default-b c = no_diagram _ _ c.in-Sharing.is (λ e. omega arith) (λ e. omega arith) (λ e. omega arith)
