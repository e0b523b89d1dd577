-- The first number at which a test holds, as a search hands it back.
use Rattle.std.specs.Prelude.{ℕ, Bool, cond, ltb, Option, None, Some}
use Rattle.base.specs.Lowest.{lowest}

-- none where no number below k passes the test
abbrev pub first_below : ℕ → (ℕ → Bool) → Option ℕ
first_below k f = cond (ltb (lowest k f) k) (Some (lowest k f)) None
