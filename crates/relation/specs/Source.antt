-- Boolean relations as source 001 defines them. An input vertex (document 01: pattern) is a number below 2 ^ n, an output vertex (wire value) one
-- below 2 ^ m, whose bit j is output j (wire j).
use Rattle.std.specs.Prelude.{ℕ, ◌^◌, ◌<◌, Bool, T}
use Rattle.table.specs.Bits.{bit, of_bits}

-- Definition 4.6, by its characteristic function (definition 6.1): R p v says whether (p, v) is in R.
abbrev pub Rel : Type 0
Rel = ℕ → ℕ → Bool

-- Definition 4.3: a multiple-output function is the vector of its outputs' truth tables, here by output
abbrev pub Tables : Type 0
Tables = ℕ → ℕ

-- m tables of n inputs
abbrev pub Stage : ℕ → ℕ → Tables → Type 0
Stage n m X = (j : ℕ) → j < m → X j < 2 ^ (2 ^ n)

-- the value of the function on pattern p, put together from its wires
unfoldable pub value : ℕ → Tables → ℕ → ℕ
value m X p = of_bits m (λ j. bit (X j) p)

-- Definitions 4.9 and 5.3: the function is a subset of R
abbrev pub Compatible : ℕ → ℕ → Rel → Tables → Type 0
Compatible n m R X = (p : ℕ) → p < 2 ^ n → T (R p (value m X p))
