-- Document 02, E2, to the letter: the different subfunctions of a table that need a selector, and that `listing` lists just these.
use Rattle.std.specs.Prelude.{ℕ, zero, suc, ◌≡◌, ◌⊎◌, ◌↔◌, not, List, [], ◌∷◌, T}
use Rattle.table.specs.Cells.{low, high}
use Rattle.nodes.specs.Nodes.{Node, has, listing}

-- a table of r inputs is left of a table of n inputs once the first of these have values
unfoldable pub PartOf : (n t r u : ℕ) → Type 0
PartOf zero t r u = (zero ≡ r) × (t ≡ u)
PartOf (suc n) t r u = ((suc n ≡ r) × (t ≡ u)) ⊎ (PartOf n (low n t) r u ⊎ PartOf n (high n t) r u)

-- a subfunction that needs a selector: its value depends on the first input that is left
abbrev pub Needed : (n t : ℕ) → Node → Type 0
Needed n t k = PartOf n t (suc k.after) k.table × (low k.after k.table ≡ high k.after k.table → ⊥)

-- no node stands twice
unfoldable pub Distinct : List Node → Type 0
Distinct [] = Unit {0}
Distinct (k ∷ ks) = T (not (has ks k)) × Distinct ks

-- what is listed for a table: those, and each once
pub record ListsNeeded (n t : ℕ) : Type 0 where
  pub just : (k : Node) → T (has (listing n t []) k) ↔ Needed n t k
  pub once : Distinct (listing n t [])
