-- Laws of the truth tables of trees, and of how many selectors a tree has.
use Prim.Native.Nat.{ℕ, zero, suc, ◌^◌, ◌-◌, ◌<◌, ◌≤◌}
use mathlib.Core.Path.{◌≡◌}
use native.Mathlib.Omega.{arith}
use lib.Dec.{eqb}
use lib.Pow.{pow_pos, pow_mono}
use Rattle.base.proofs.Tests.{cond_has}
use Rattle.sheet.specs.Limits.{max_inputs, max_patterns}
use Rattle.table.specs.Bits.{bit}
use Rattle.table.specs.Cells.{low, high}
use Rattle.table.specs.Drawing.{drawn_table}
use Rattle.table.specs.Tree.{Tree, con, sel, Ordered, follow, selectors, reduced}
use Rattle.table.proofs.Bits.{of_bits_lt, bit_of_bits}
use Rattle.table.proofs.Trees.{follow_lt}
use Rattle.stage.specs.Trees.{tree_drawing}

-- the truth table of a tree
abbrev pub table_of : ℕ → Tree → ℕ
table_of = drawn_table tree_drawing

-- a tree's table has 2 ^ n bits
pub table_lt : (n k : ℕ) (x : Tree) → Ordered n k x → table_of n x < 2 ^ (2 ^ n)
unfolding drawn_table
table_lt n k x o = of_bits_lt (λ p. follow n p x) (2 ^ n) (λ p _. follow_lt n k x p o)

-- bit p of a tree's table is the constant that the tree reaches on p
pub table_bit : (n k : ℕ) (x : Tree) → Ordered n k x → (p : ℕ) → p < 2 ^ n → bit (table_of n x) p ≡ follow n p x
unfolding drawn_table
table_bit n k x o p l = bit_of_bits (λ p. follow n p x) (2 ^ n) (λ q _. follow_lt n k x q o) p l

-- an ordered tree whose inputs are above k
pub selectors_lt : (n k : ℕ) (x : Tree) → k ≤ n → Ordered n k x → selectors x < 2 ^ (n - k)
unfolding selectors Ordered
selectors_lt n k (con b) l o = pow_pos (n - k)
selectors_lt n k (sel i z e) l o =
    let p : 2 ^ suc (n - i) ≤ 2 ^ (n - k) = pow_mono (omega (arith, o.0, o.1)) in
    omega (arith, selectors_lt n i z o.1 o.2, selectors_lt n i e o.1 o.3)

-- fewer than there are patterns
pub patterns_most : (n : ℕ) → n ≤ max_inputs → 2 ^ n ≤ max_patterns
patterns_most n h = pow_mono {j = max_inputs} h

pub selectors_few : (n k : ℕ) (x : Tree) → k ≤ n → n ≤ max_inputs → Ordered n k x → selectors x < max_patterns
selectors_few n k x l h o = omega (arith, selectors_lt n k x l o, patterns_most (n - k) (omega arith))

-- what is written of a table of r inputs, in range or not
pub reduced_selectors_lt : (r k t : ℕ) → selectors (reduced r k t) < 2 ^ r
unfolding selectors reduced
reduced_selectors_lt zero k t = omega arith
reduced_selectors_lt (suc r) k t =
    let z = reduced_selectors_lt r (suc k) (low r t) in
    let o = reduced_selectors_lt r (suc k) (high r t) in
    cond_has (λ x. selectors x < 2 ^ suc r) (eqb (low r t) (high r t)) (λ _. omega arith) (λ _. omega arith)
