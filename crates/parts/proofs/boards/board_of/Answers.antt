-- `board_of` meets its contract: the number of each kind.
use Prim.Native.Nat.{ℕ}
use mathlib.Core.Path.{◌≡◌, sym, ap, ◌∙◌}
use Rattle.nodes.specs.declared.BoardKind.{BoardKind}
use Rattle.parts.specs.Inner.Boards.{board_number}
use Rattle.parts.proofs.BoardNumbers.{narrow_number, wide_number}
use Rattle.parts.proofs.boards.board_of.Goals as goal

-- `board_of` meets its contract: the number of each kind.
number_of : (n : ℕ) {kind other : BoardKind} {r : ℕ} → kind ≡ other → board_number other n ≡ r → r ≡ board_number kind n
number_of n e h = sym (ap (λ k. board_number k n) e ∙ h)

pub returns-then-n-le-NARROW_INPUTS : goal.returns-then-n-le-NARROW_INPUTS
returns-then-n-le-NARROW_INPUTS c = number_of c.args.n c.in-Tree.is (narrow_number c.args.n c.if-n-le-NARROW_INPUTS.true)

pub returns-else-n-le-NARROW_INPUTS : goal.returns-else-n-le-NARROW_INPUTS
returns-else-n-le-NARROW_INPUTS c = number_of c.args.n c.in-Tree.is (wide_number c.args.n c.if-n-le-NARROW_INPUTS.false)

pub returns-in-Sharing : goal.returns-in-Sharing
unfolding board_number
returns-in-Sharing c = sym (ap (λ (kind : BoardKind). board_number kind c.args.n) c.in-Sharing.is)
