-- `column` meets its contract: each arm is the column at its place among the eight.
use mathlib.Core.Path.{◌≡◌, sym, ◌∙◌}
use mathlib.Core.Bool.{Bool}
use mathlib.Core.List.{List, [], ◌∷◌}
use Prim.Native.Nat.{◌+◌, ◌*◌, ◌/◌, ◌%◌, ℕ, ◌<◌, ◌≤◌, zero-le, suc}
use native.Mathlib.Omega.{arith}
use lib.Dec.{eqb, eqb→eq}
use lib.ListN.{length, get_or}
use Rattle.base.proofs.Table.{at}
use Rattle.sheet.specs.Limits.{max_wires}
use Rattle.table.specs.Bits.{bit, of_bits, sum, is_one}
use Rattle.table.specs.Inner.Columns.{column_of}
use Rattle.table.proofs.BitColumns.{column_placed}
use Rattle.table.proofs.columns.column.Goals as goal

-- `column` meets its contract: each arm is the column at its place among the eight.
-- the columns of bit 0 at 0 and at 1, of bit 1 at 0 and at 1, and so on; all of them are tested by one computation
abbrev columns : List ℕ
columns = 0x5555 ∷ 0xaaaa ∷ 0x3333 ∷ 0xcccc ∷ 0x0f0f ∷ 0xf0f0 ∷ 0x00ff ∷ 0xff00 ∷ []

right : ℕ → ℕ → Bool
right k x = eqb x (column_of (k / 2) (k % 2))

tested : (k : ℕ) → k < length columns → get_or columns k 0 ≡ column_of (k / 2) (k % 2)
unfolding right column_of of_bits sum bit is_one
tested k l = eqb→eq (get_or columns k 0) (column_of (k / 2) (k % 2)) (at right columns tt k l)

-- the column at place k
placed : (k : ℕ) {j b : ℕ} → 2 * j + b ≡ k → (j < max_wires) × (b < 2) → get_or columns k 0 ≡ column_of j b
placed k {j} {b} e h = tested k (omega arith) ∙ sym (column_placed k j b e h.1)

-- passing the keys of the match one by one
past : {a k : ℕ} → a ≤ k → (k ≡ a → ⊥) → suc a ≤ k
past h ne = omega arith

last : (j b : ℕ) → 7 ≤ 2 * j + b → (j < max_wires) × (b < 2) → 2 * j + b ≡ 7
last j b l h = omega arith

pub returns-in-0 : goal.returns-in-0
returns-in-0 c = placed 0 c.in-0.is c.requires

pub returns-in-1 : goal.returns-in-1
returns-in-1 c = placed 1 c.in-1.is c.requires

pub returns-in-2 : goal.returns-in-2
returns-in-2 c = placed 2 c.in-2.is c.requires

pub returns-in-3 : goal.returns-in-3
returns-in-3 c = placed 3 c.in-3.is c.requires

pub returns-in-4 : goal.returns-in-4
returns-in-4 c = placed 4 c.in-4.is c.requires

pub returns-in-5 : goal.returns-in-5
returns-in-5 c = placed 5 c.in-5.is c.requires

pub returns-in-6 : goal.returns-in-6
returns-in-6 c = placed 6 c.in-6.is c.requires

pub returns-in_default : goal.returns-in_default
returns-in_default c =
    let a = c.args in
    let r = c.in_default.in_default-own.rest in
    let four : 4 ≤ 2 * a.j + a.b =
    past (past (past (past zero-le r.0.0.0.0.0.0.1) r.0.0.0.0.0.1) r.0.0.0.0.1) r.0.0.0.1 in
    let seven : 7 ≤ 2 * a.j + a.b = past (past (past four r.0.0.1) r.0.1) r.1 in
    placed 7 (last a.j a.b seven c.requires) c.requires
