-- Document 01, "Search": the pick, which is the least table that a projection admits, by cells and of equals by number
-- (the minimum of an incompletely specified function).
use Rattle.std.specs.Prelude.{ℕ, zero, suc, ◌^◌, Bool, cond, ltb}
use Rattle.std.proofs.Math.Option.{Option, none, some}
use Rattle.table.specs.Bits.{bit, all}

-- which bits occur on a pattern: the projection of a relation on a wire
abbrev pub Proj : Type 0
Proj = ℕ → ℕ → Bool

-- the projection admits the table: it has the table's bit on every pattern
unfoldable pub suits : ℕ → Proj → ℕ → Bool
suits n P t = all (2 ^ n) (λ p. P p (bit t p))

-- t takes the place of s, a smaller number: its key is less
abbrev pub displaces : (ℕ → ℕ) → ℕ → ℕ → Bool
displaces key t s = ltb (key t) (key s)

-- the number of least key among those below k that pass the test; of equals the smallest
module _ (key : ℕ → ℕ) (fit : ℕ → Bool) where
  unfoldable pub nearer : Option ℕ → ℕ → Option ℕ
  nearer none t = some t
  nearer (some s) t = cond (displaces key t s) (some t) (some s)

  unfoldable pub least : ℕ → Option ℕ
  least zero = none
  least (suc t) = let r = least t in cond (fit t) (nearer r t) r

unfoldable pub or_zero : Option ℕ → ℕ
or_zero none = zero
or_zero (some t) = t

-- among all tables of n inputs that suit the projection
unfoldable pub least_of : (ℕ → ℕ) → ℕ → Proj → Option ℕ
least_of key n P = least key (suits n P) (2 ^ (2 ^ n))
