-- What a table that is lent with its board's number tells.
use Prim.Native.Nat.{ℕ, ◌+◌, ◌<◌, ◌≤◌}
use mathlib.Core.Path.{◌≡◌, refl}
use mathlib.Core.List.{List}
use native.Mathlib.Omega.{arith}
use native.Mathlib.Nat.{le_trans}
use lib.ListN.{get_or}
use Rattle.sheet.specs.Limits.{max_inputs, max_wires}
use Rattle.sheet.specs.Inner.Sized.{Sized}
use Rattle.table.specs.Inner.Blocks.{entries}
use Rattle.nodes.specs.Counts.{most_inputs}
use Rattle.nodes.proofs.Counts.{most_inputs_lem}
use Rattle.parts.specs.Inner.Boards.{board_in, board_inputs, lent_kind, lent_inputs, lent_wires, Lent}
use Rattle.parts.proofs.BoardNumbers.{number_small}

-- both numbers behind the entries are bytes
pub board_small : {e : List ℕ} → Lent e → get_or e entries 0 < 256
unfolding board_in
board_small {e} l = omega (arith, l.number, number_small (lent_kind e) (lent_inputs e) l.most)

pub wires_small : (e : List ℕ) → Sized (most_inputs (lent_kind e)) (lent_inputs e) (lent_wires e) → get_or e (entries + 1) 0 ≤ max_wires
unfolding lent_wires
wires_small e z = z.m_most

-- the inputs and wires as the code reads them
pub inputs_told : (e : List ℕ) {n : ℕ} → n ≡ board_inputs (get_or e entries 0) → n ≡ lent_inputs e
unfolding board_in
inputs_told e h = h

pub wires_told : (e : List ℕ) → get_or e (entries + 1) 0 ≡ lent_wires e
unfolding lent_wires
wires_told e = refl

pub inputs_few : {e : List ℕ} → Lent e → lent_inputs e ≤ max_inputs
inputs_few {e} l = le_trans l.most (most_inputs_lem (lent_kind e))
