-- `wire_words` meets its contract: each of the four wires is in its place.
use Prim.Native.Nat.{ℕ, zero, suc, ◌<◌}
use mathlib.Core.Path.{◌≡◌}
use mathlib.Core.List.{List, ◌∷◌}
use native.Mathlib.Omega.{arith}
use lib.ListN.{get_or}
use Rattle.sheet.specs.Limits.{max_wires, max_gates, max_values}
use Rattle.table.specs.Bits.{bit, tabulate}
use Rattle.table.specs.Inner.Columns.{column_of}
use Rattle.table.proofs.Bits.{bit_lt}
use Rattle.table.proofs.BitColumns.{column_test}
use Rattle.unit.proofs.Members.{bit_by_test}
use Rattle.unit.proofs.gates.wire_words.Goals as goal

-- `wire_words` meets its contract: each of the four wires is in its place.
-- the entries of a list that starts with those of four wires, as many as the code puts there
by_place : (P : ℕ → ℕ → Type 0) {a b c d : ℕ} (rest : List ℕ) → P 0 a → P 1 b → P 2 c → P 3 d
    → (j : ℕ) → j < max_wires → P j (get_or (a ∷ b ∷ c ∷ d ∷ rest) j 0)
by_place P rest a b c d zero h = a
by_place P rest a b c d (suc zero) h = b
by_place P rest a b c d (suc (suc zero)) h = c
by_place P rest a b c d (suc (suc (suc zero))) h = d
by_place P rest a b c d (suc (suc (suc (suc j)))) h = absurd (omega arith)

-- the values that have wire j at 1 are a word with that wire's bit
wire_bit : (j v : ℕ) → v < max_values → bit (column_of j 1) v ≡ bit v j
wire_bit j v l = bit_by_test (bit (column_of j 1) v) (bit v j) (bit_lt (column_of j 1) v) (bit_lt v j) (column_test j 1 v l)

pub returns : goal.returns
unfolding tabulate
returns c j v h l =
    by_place (λ j x. bit x v ≡ bit v j) (tabulate max_gates (λ _. 0))
    (rw c.column.ensures (wire_bit 0 v l)) (rw c.column-2.ensures (wire_bit 1 v l))
    (rw c.column-3.ensures (wire_bit 2 v l)) (rw c.column-4.ensures (wire_bit 3 v l))
    j h
