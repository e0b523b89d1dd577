-- Further definitions of source 001, which the tests and the parts of a split are measured by.
use Rattle.std.specs.Prelude.{ℕ, ◌^◌, ◌<◌, ◌≡◌, ◌↔◌, Bool, T}
use Rattle.table.specs.Bits.{bit}
use Rattle.table.specs.Pick.{suits}
use Rattle.relation.specs.Source.{Rel}
use Rattle.relation.specs.Tests.{projection}

-- Definition 4.6: well defined (left-total), that is, some value is allowed on each pattern
abbrev pub WellDefined : ℕ → ℕ → Rel → Type 0
WellDefined n m R = (p : ℕ) → p < 2 ^ n → (v : ℕ) × (v < 2 ^ m) × T (R p v)

-- the subset order
abbrev pub Part : Rel → Rel → Type 0
Part R Q = (p v : ℕ) → T (R p v) → T (Q p v)

-- a strict subset among the patterns and values there are
pub record StrictPart (n m : ℕ) (R Q : Rel) : Type 0 where
  pub part : Part R Q
  pub p : ℕ
  pub v : ℕ
  pub pattern : p < 2 ^ n
  pub value : v < 2 ^ m
  pub inside : T (Q p v)
  pub outside : T (R p v) → ⊥

-- Definition 5.1: b is in the projection onto output j at p where some (p, v) in R has output j at b
abbrev pub Projects : ℕ → Rel → ℕ → ℕ → ℕ → Type 0
Projects m R j p b = (v : ℕ) × (v < 2 ^ m) × T (R p v) × (bit v j ≡ b)

-- the projection at p is {0, 1} (document 01: an open pair)
abbrev pub Open : ℕ → Rel → ℕ → ℕ → Type 0
Open m R p j = Projects m R j p 0 × Projects m R j p 1

-- Definition 5.4: Q is R less the pairs (p, v) whose output j is not b
abbrev pub Split : Rel → ℕ → ℕ → ℕ → Rel → Type 0
Split R p j b Q = (q v : ℕ) → T (Q q v) ↔ (T (R q v) × (q ≡ p → bit v j ≡ b))

-- the projection on wire j admits table t
unfoldable pub fits : ℕ → ℕ → Rel → ℕ → ℕ → Bool
fits n m R j t = suits n (projection m R j) t
