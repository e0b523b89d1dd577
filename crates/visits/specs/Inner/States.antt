-- What the search lends down as the state of the written search, and what is made of it.
use Rattle.std.specs.Prelude.{ℕ, ◌+◌, ◌*◌, ◌^◌, ◌<◌, ◌≡◌, Bool, true, false, cond, List, [], ◌∷◌, leb, get_or, replicate}
use Rattle.sheet.specs.Limits.{max_wires}
use Rattle.table.specs.Bits.{tabulate}
use Rattle.lanes.specs.Inner.Lanes.{lane_space, lane_of}
use Rattle.branch_bound.specs.declared.State.{State}
use Rattle.parts.specs.declared.states.Running.{Running}
use Rattle.parts.specs.Inner.States.{rest_count}

-- wire j's table from its lanes on the four sections
unfoldable pub joined_of : (a b c d j : ℕ) → ℕ
joined_of a b c d j = lane_of a j + lane_of b j * lane_space + lane_of c j * lane_space ^ 2 + lane_of d j * lane_space ^ 3

unfoldable pub state_of : Running → State
state_of s =
    record {
      tables = tabulate max_wires (joined_of (get_or s.best 0 0) (get_or s.best 1 0) (get_or s.best 2 0) (get_or s.best 3 0));
      cells = s.cells;
      visits = s.visits;
      stopped = s.left;
    }

-- the budget is used up
abbrev pub spent_in : Running → Bool
spent_in s = leb s.budget s.visits

-- the tables of the part at hand on the sections past the first are the same
abbrev pub SameRest : (before after : Running) → Type 0
SameRest before after = (i : ℕ) → i < rest_count → get_or after.rest i 0 ≡ get_or before.rest i 0

-- a part was left
abbrev pub stopped_at : Running → Running
stopped_at s = record { best = s.best; cells = s.cells; visits = s.visits; left = true; budget = s.budget; rest = s.rest; whole = s.whole }

-- one visit more is charged
abbrev pub charged_once : Running → Running
charged_once s = record { best = s.best; cells = s.cells; visits = s.visits + 1; left = s.left; budget = s.budget; rest = s.rest; whole = s.whole }

-- the tables of the part at hand, kept as the best with their cells
abbrev pub kept_best : Running → (low cells : ℕ) → Running
kept_best s low cells =
    record {
      best = low ∷ get_or s.rest 0 0 ∷ get_or s.rest 1 0 ∷ get_or s.rest 2 0 ∷ [];
      cells = cells;
      visits = s.visits;
      left = s.left;
      budget = s.budget;
      rest = s.rest;
      whole = s.whole;
    }

-- the search begins: no visit, no part left, this budget and these words of the relation by value
abbrev pub begun : Running → (budget : ℕ) → (whole : List ℕ) → Running
begun s budget whole = record { best = s.best; cells = s.cells; visits = 0; left = false; budget = budget; rest = s.rest; whole = whole }

-- what is kept of the tables at hand through a split: on a wide board all, on any other nothing
abbrev pub saved_of : Bool → Running → List ℕ
saved_of wide s = cond wide s.rest (replicate rest_count 0)

-- a step of the written search was run on the state; the budget and the relation by value are the same
pub record Ran (step : State → State) (before after : Running) : Type 0 where
  pub state : state_of after ≡ step (state_of before)
  pub budget : after.budget ≡ before.budget
  pub whole : after.whole ≡ before.whole
