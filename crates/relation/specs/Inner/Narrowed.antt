-- The sets of all patterns, narrowed as the search narrows them.
use Rattle.std.specs.Prelude.{ℕ, ◌^◌, ◌≤◌, ◌≡◌, cond, List, ltb, get_or, set}
use Rattle.sheet.specs.Limits.{max_patterns}
use Rattle.table.specs.Bits.{bit, tabulate}
use Rattle.relation.specs.Inner.Members.{with_bit}

-- no value is allowed past the last pattern of n inputs
abbrev pub NonePast : ℕ → List ℕ → Type 0
NonePast n sets = (p : ℕ) → 2 ^ n ≤ p → get_or sets p 0 ≡ 0

-- the sets once wire j is b on pattern p
unfoldable pub narrowed : List ℕ → ℕ → ℕ → ℕ → List ℕ
narrowed sets p j b = set sets p (with_bit (get_or sets p 0) j b)

-- the sets once wire j has table t
unfoldable pub agreed : List ℕ → ℕ → ℕ → List ℕ
agreed sets j t = tabulate max_patterns (λ p. with_bit (get_or sets p 0) j (bit t p))

-- the sets with those past the last pattern emptied
unfoldable pub cleared : ℕ → List ℕ → List ℕ
cleared n sets = tabulate max_patterns (λ p. cond (ltb p (2 ^ n)) (get_or sets p 0) 0)
