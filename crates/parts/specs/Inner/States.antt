-- The state that the search lends down: what it knows of the part at hand. The tables of four wires on a section of the patterns stand side by side in one number.
use Rattle.std.specs.Prelude.{ℕ, zero, suc, ◌+◌, ◌-◌, ◌<◌, ◌≡◌, Bool, cond, List, get_or}
use Rattle.table.specs.Inner.Wide.{sections}
use Rattle.relation.specs.Inner.Side.{section, side_by_side}
use Rattle.lanes.specs.Inner.Lanes.{put_lane}
use Rattle.parts.specs.declared.states.Running.{Running}

-- so many sections are past the first
abbrev pub rest_count : ℕ
rest_count = sections - 1

-- the tables of the part at hand on section q: those of the first section are handed down by themselves
unfoldable pub side_at : (low : ℕ) → Running → ℕ → ℕ
side_at low s zero = low
side_at low s (suc i) = get_or s.rest i 0

-- these are the tables of the part at hand, side by side on every section
abbrev pub AtHand : (low : ℕ) → Running → (tables : List ℕ) → Type 0
AtHand low s tables = (q : ℕ) → q < sections → side_at low s q ≡ side_by_side tables q

-- the state with these tables at hand
abbrev pub with_rest : Running → List ℕ → Running
with_rest s rest = record { best = s.best; cells = s.cells; visits = s.visits; left = s.left; budget = s.budget; rest = rest; whole = s.whole }

-- all is the same in both but the tables of the part at hand
pub record SameBut (before after : Running) : Type 0 where
  pub is : after ≡ with_rest before after.rest

-- where the board is wide, wire j has the table t on the sections past the first; where it is not, they are as they were
pub record PutRest (wide : Bool) (j t : ℕ) (before after : Running) : Type 0 where
  pub same : SameBut before after
  pub rest : (i : ℕ) → i < rest_count → get_or after.rest i 0 ≡ cond wide (put_lane (get_or before.rest i 0) j (section t (i + 1))) (get_or before.rest i 0)
