-- The best quarter of a table of four inputs between two masks, by its own top node alone: a quarter is a table of a block.
use Rattle.std.specs.Prelude.{ℕ, ◌+◌, ◌*◌, ◌%◌, cond, List, eqb}
use Rattle.std.proofs.Math.Option.{Option}
use Rattle.table.specs.Cells.{low, high}
use Rattle.table.specs.Inner.Blocks.{three_space, block_entry, BestBlocks}
use Rattle.nodes.specs.Nodes.{node, price}

-- what a quarter, a table of two inputs, counts for by the selector on the first of them, where it needs that one
unfoldable pub top_price : ℕ → ℕ
top_price x = cond (eqb (low 1 x) (high 1 x)) 0 (price (node 1 x))

abbrev pub quarter_entry : Option ℕ → ℕ
quarter_entry = block_entry top_price

-- an entry as this board has it written: what the quarter counts for, and the quarter four times side by side, so that it stands at every place
abbrev pub four_times : ℕ → ℕ
four_times x = x * three_space + x % three_space

abbrev pub Tops : List ℕ → Type 0
Tops = BestBlocks four_times top_price
