-- Laws of the tree behind what the reader of trees hands back: its bounds, its first byte, and the two trees of a selector with its cells.
use Prim.Native.Nat.{ℕ, zero, suc, ◌+◌, ◌^◌, ◌<◌, ◌≤◌}
use mathlib.Core.Path.{◌≡◌, refl, sym, ap, ap₂, subst, ◌∙◌}
use mathlib.Core.Bool.{◌&&◌}
use mathlib.Core.List.{List, ◌++◌}
use native.Mathlib.Omega.{arith}
use lib.Dec.{eqb}
use lib.ListN.{get_or, drop}
use lib.Seq.{get_or-drop}
use Rattle.base.specs.declared.Refusal.{Refusal}
use Rattle.sheet.specs.Limits.{max_inputs, max_patterns}
use Rattle.table.specs.Cells.{selector_cells}
use Rattle.table.specs.Tree.{Tree, con, sel, Ordered, is_con, wired_trees, tree_cells}
use Rattle.table.proofs.Trees.{tree_cells_most}
use Rattle.stage.specs.Steps.{Read, taken, and_then}
use Rattle.stage.specs.TreeBytes.{constant_byte, tree_bytes}
use Rattle.stage.specs.TreeRead.{branches_at, tree_at}
use Rattle.stage.specs.Trees.{tree_drawing}
use Rattle.stage.proofs.TreeReading.{ToldTree, tree_told}
use Rattle.stage.proofs.TreeTables.{table_of, table_lt, selectors_few}
use Rattle.stage_reader.specs.Inner.Tables.{select_of}
use Rattle.stage_reader.specs.Inner.Wires.{taken_wire, refused_wire, step_of}
use Rattle.stage_reader.proofs.Selecting.{table_select}
use Rattle.stage_reader.proofs.Taken.{fell, Took, took}

-- the tree at a place, read
abbrev there : List ℕ → ℕ → ℕ → ℕ → Read Tree
there s n k at = tree_at n k at (drop at s)

tree_took : (s : List ℕ) (n k at t c next : ℕ) → taken_wire t c next ≡ step_of tree_drawing n (there s n k at)
    → Took tree_drawing (Ordered n k) (there s n k at) s n t c next
tree_took s n k at t c next e = took tree_drawing (Ordered n k) tree_bytes s n at t c next (there s n k at) (tree_told n k at (drop at s)) e

-- the bounds of what the reader of trees hands back
pub tree_bounds : (s : List ℕ) (n k at t c next : ℕ) → k ≤ n → n ≤ max_inputs → taken_wire t c next ≡ step_of tree_drawing n (there s n k at)
    → (t < 2 ^ (2 ^ n)) × (c < max_patterns)
tree_bounds s n k at t c next l h e =
    let z = tree_took s n k at t c next e in
    (rw z.table (table_lt n k z.shape z.formed), omega (arith, z.cells, tree_cells_most z.shape, selectors_few n k z.shape l h z.formed))

-- the first byte of a tree tells whether it is a constant, and which
first_byte : (s : List ℕ) (n k at next : ℕ) (x : Tree) → there s n k at ≡ taken x next (drop next s) → get_or s at 0 ≡ get_or (tree_bytes x) 0 0
unfolding tree_bytes
first_byte s n k at next x e =
    let told = subst (ToldTree n k at (drop at s)) e (tree_told n k at (drop at s)) in
    let first : at ≡ at + 0 = omega arith in
    ap (λ p. get_or s p 0) first ∙ sym (get_or-drop at s 0 0) ∙ ap (λ (l : List ℕ). get_or l 0 0) told.0 ∙ front x
  where
    front : (x : Tree) → get_or (tree_bytes x ++ drop next s) 0 0 ≡ get_or (tree_bytes x) 0 0
    front (con b) = refl
    front (sel i z o) = refl

same_constant : (a b : ℕ) → a < 2 → b < 2 → eqb (constant_byte a) (constant_byte b) ≡ eqb a b
same_constant zero zero g h = refl
same_constant zero (suc zero) g h = refl
same_constant (suc zero) zero g h = refl
same_constant (suc zero) (suc zero) g h = refl
same_constant zero (suc (suc b)) g h = absurd (omega arith)
same_constant (suc zero) (suc (suc b)) g h = absurd (omega arith)
same_constant (suc (suc a)) b g h = absurd (omega arith)

constant_front : (n k b : ℕ) (x : Tree) → b < 2 → Ordered n k x → eqb (get_or (tree_bytes x) 0 0) (constant_byte b) ≡ is_con b x
unfolding tree_bytes is_con Ordered
constant_front n k b (con a) l g = same_constant a b g l
constant_front n k zero (sel i z o) l g = refl
constant_front n k (suc zero) (sel i z o) l g = refl
constant_front n k (suc (suc b)) (sel i z o) l g = absurd (omega arith)

wired_fronts : (n k : ℕ) (z o : Tree) → Ordered n k z → Ordered n k o
    → eqb (get_or (tree_bytes z) 0 0) (constant_byte 0) && eqb (get_or (tree_bytes o) 0 0) (constant_byte 1) ≡ wired_trees z o
unfolding wired_trees
wired_fronts n k z o g h = ap₂ ◌&&◌ (constant_front n k 0 z (omega arith) g) (constant_front n k 1 o (omega arith) h)

-- the branches of a selector
module _ (s : List ℕ) (n i at : ℕ) where
  pub first_fault : (f : Refusal) → refused_wire f ≡ step_of tree_drawing n (there s n i at)
      → refused_wire f ≡ step_of tree_drawing n (branches_at (tree_at n i) i at (drop at s))
  unfolding branches_at and_then step_of
  first_fault f e = rw (fell tree_drawing n f (there s n i at) e)

  module _ (t c next : ℕ) (first : taken_wire t c next ≡ step_of tree_drawing n (there s n i at)) where
    z : Took tree_drawing (Ordered n i) (there s n i at) s n t c next
    z = tree_took s n i at t c next first

    pub second_fault : (f : Refusal) → refused_wire f ≡ step_of tree_drawing n (there s n i next)
        → refused_wire f ≡ step_of tree_drawing n (branches_at (tree_at n i) i at (drop at s))
    unfolding branches_at and_then step_of
    second_fault f e = rw (z.is, fell tree_drawing n f (there s n i next) e)

    pub both_taken : (u d past r own : ℕ) → taken_wire u d past ≡ step_of tree_drawing n (there s n i next) → r ≡ select_of n i t u
        → own ≡ selector_cells (eqb (get_or s at 0) (constant_byte 0) && eqb (get_or s next 0) (constant_byte 1))
        → taken_wire r (own + c + d) past ≡ step_of tree_drawing n (branches_at (tree_at n i) i at (drop at s))
    unfolding branches_at and_then step_of tree_cells
    both_taken u d past r own second e f =
        let o = tree_took s n i next u d past second in
        let tables = ap (select_of n i t) o.table ∙ ap (λ (x : ℕ). select_of n i x (table_of n o.shape)) z.table in
        let a : r ≡ table_of n (sel i z.shape o.shape) = e ∙ tables ∙ table_select n i i z.shape o.shape z.formed o.formed in
        let wired = ap₂ (λ x y. eqb x (constant_byte 0) && eqb y (constant_byte 1))
        (first_byte s n i at next z.shape z.is) (first_byte s n i next past o.shape o.is) in
        let cost = f ∙ ap selector_cells (wired ∙ wired_fronts n i z.shape o.shape z.formed o.formed) in
        let b : own + c + d ≡ selector_cells (wired_trees z.shape o.shape) + (tree_cells z.shape + tree_cells o.shape) = omega (arith, cost, z.cells, o.cells) in
        rw (z.is, o.is) (cc)
