-- What a search promises, told by compatible functions.
use Rattle.std.specs.Prelude.{ℕ, ◌^◌, ◌<◌, ◌≤◌, ◌≡◌, not, T, length}
use Rattle.sheet.specs.Limits.{max_wires}
use Rattle.relation.specs.Source.{Rel, Tables, Stage, Compatible}
use Rattle.table.specs.Cells.{wires}
use Rattle.branch_bound.specs.declared.State.{State}
use Rattle.branch_bound.specs.Search.{Board, total_on, floor}

-- a pick of least key has the fewest cells, and the wires are as many as the reply has tables for
pub record Fair (b : Board) : Type 0 where
  pub order : (s t : ℕ) → s < 2 ^ (2 ^ b.n) → t < 2 ^ (2 ^ b.n) → b.key s ≤ b.key t → b.count s ≤ b.count t
  pub few : b.m ≤ max_wires

-- What holds of every state of a search of Q: the tables are an answer, the cells are theirs, no more visits than the budget allows,
-- and a stopped search has used the budget up.
pub record AnswerSoFar (b : Board) (budget : ℕ) (Q : Rel) (s : State) : Type 0 where
  pub long : length s.tables ≡ max_wires
  pub stage : Stage b.n b.m (wires s.tables)
  pub answer : Compatible b.n b.m Q (wires s.tables)
  pub counted : s.cells ≡ total_on b (wires s.tables)
  pub within : s.visits ≤ budget
  pub spent : T s.stopped → s.visits ≡ budget

-- The promise of a search of R: what it answers, that no compatible stage is below the floor, and that none is below the answer unless it was stopped.
pub record Promise (b : Board) (budget : ℕ) (R : Rel) (s : State) : Type 0 where
  pub so_far : AnswerSoFar b budget R s
  pub above : (X : Tables) → Stage b.n b.m X → Compatible b.n b.m R X → floor b R ≤ total_on b X
  pub best : T (not s.stopped) → (X : Tables) → Stage b.n b.m X → Compatible b.n b.m R X → s.cells ≤ total_on b X
