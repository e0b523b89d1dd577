-- The first number at which a test holds: places of document 01's "Refusals", patterns and wires of its "Search".
use Rattle.std.specs.Prelude.{ℕ, zero, suc, Bool, cond, ltb}

-- the lowest number below k that passes the test; k where there is none
unfoldable pub lowest : ℕ → (ℕ → Bool) → ℕ
lowest zero f = zero
lowest (suc k) f = let r = lowest k f in cond (ltb r k) r (cond (f k) k (suc k))
