-- The tests and operations on relations that document 01's "Search" names. Each decides or makes what source 001 defines (proofs/).
use Rattle.std.specs.Prelude.{ℕ, ◌^◌, Bool, not, ◌&&◌, ◌||◌, List, eqb, get_or}
use Rattle.base.specs.Lowest.{lowest}
use Rattle.table.specs.Bits.{bit, all, any, sum, is_one}
use Rattle.table.specs.Pick.{Proj}
use Rattle.relation.specs.Source.{Rel, Tables, value}

-- the relation of a list of sets, one number for each pattern, whose bit v says whether value v is allowed
unfoldable pub of_sets : List ℕ → Rel
of_sets sets p v = eqb (bit (get_or sets p 0) v) 1

-- one part of a split: wire j is b on pattern p, and nothing else changes
unfoldable pub keep : Rel → ℕ → ℕ → ℕ → Rel
keep R p j b q v = R q v && (not (eqb q p) || eqb (bit v j) b)

-- what is left once wire j has table t
unfoldable pub agree : Rel → ℕ → ℕ → Rel
agree R j t p v = R p v && eqb (bit v j) (bit t p)

-- bit b of wire j occurs among the m-bit values of the set S
unfoldable pub occurs : ℕ → (ℕ → Bool) → ℕ → ℕ → Bool
occurs m S j b = any (2 ^ m) (λ v. S v && eqb (bit v j) b)

-- the projection on wire j
abbrev pub projection : ℕ → Rel → ℕ → Proj
projection m R j p b = occurs m (R p) j b

-- wire j is open in S: both bits occur
unfoldable pub is_open : ℕ → (ℕ → Bool) → ℕ → Bool
is_open m S j = occurs m S j 0 && occurs m S j 1

-- the first wire that is open in S; m where there is none
unfoldable pub open_wire : ℕ → (ℕ → Bool) → ℕ
open_wire m S = lowest m (is_open m S)

-- the tables' value is allowed on every pattern
unfoldable pub compatible : ℕ → ℕ → Rel → Tables → Bool
compatible n m R X = all (2 ^ n) (λ p. R p (value m X p))

-- the first pattern on which the tables' value is not allowed; 2 ^ n where there is none
unfoldable pub conflict : ℕ → ℕ → Rel → Tables → ℕ
conflict n m R X = lowest (2 ^ n) (λ p. not (R p (value m X p)))

-- the first pattern with no value; 2 ^ n where there is none
unfoldable pub empty_pattern : ℕ → ℕ → Rel → ℕ
empty_pattern n m R = lowest (2 ^ n) (λ p. not (any (2 ^ m) (R p)))

-- how many pairs of pattern and wire are open
unfoldable pub open_pairs : ℕ → ℕ → Rel → ℕ
open_pairs n m R = sum (2 ^ n) (λ p. sum m (λ j. is_one (is_open m (R p) j)))
