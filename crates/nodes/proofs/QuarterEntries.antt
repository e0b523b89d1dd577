-- The table of the best quarters: what an entry is, and what it gives at the places of a class.
use Prim.Native.Nat.{ℕ, ◌+◌, ◌*◌, ◌%◌, ◌≤◌}
use mathlib.Core.Path.{◌≡◌, ap}
use mathlib.Core.List.{List}
use native.Mathlib.Omega.{arith}
use lib.Bits.{bit_and, and_le_l}
use lib.Dec.{eqb}
use lib.ListN.{get_or}
use Rattle.base.proofs.Tests.{cond_has}
use Rattle.table.specs.Cells.{low, high, wired_table}
use Rattle.table.specs.Inner.Blocks.{entries}
use Rattle.table.proofs.BestBlocks.{entry_at}
use Rattle.table.proofs.Wired.{selector_most}
use Rattle.nodes.specs.Nodes.{price}
use Rattle.nodes.specs.Inner.Tops.{top_price, four_times, Tops}
use Rattle.nodes.specs.Inner.Ways.{quarter_entry_at, class_at, all_nodes, most_class}

-- a quarter needs at most one selector of its own
pub top_price_le : (x : ℕ) → top_price x ≤ 1
unfolding top_price price
top_price_le x = cond_has (λ y. y ≤ 1) (eqb (low 1 x) (high 1 x)) (λ _. omega arith) (λ _. selector_most (wired_table 1 x))

pub quarter_at : {e : List ℕ} → Tops e → (at : ℕ) → (get_or e (at % entries) 0 ≡ quarter_entry_at at) × (get_or e (at % entries) 0 ≤ most_class)
unfolding quarter_entry_at
quarter_at t at =
    let h = entry_at four_times top_price (λ x. omega (arith, top_price_le x)) t (at % entries) (omega arith) in
    (h.0, omega (arith, h.0, h.1))

-- what `class` gives
pub class_at_lem : (at places x : ℕ) → x ≡ quarter_entry_at at → x ≤ most_class
    → (bit_and x (all_nodes + places * 15) ≡ class_at at places) × (bit_and x (all_nodes + places * 15) ≤ most_class)
unfolding class_at
class_at_lem at places x e l = (ap (λ y. bit_and y (all_nodes + places * 15)) e, omega (arith, l, and_le_l x (all_nodes + places * 15)))
