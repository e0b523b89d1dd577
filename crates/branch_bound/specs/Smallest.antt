-- The promise of a search told by stages drawn.
use Rattle.std.specs.Prelude.{ℕ, ◌^◌, ◌<◌, ◌≤◌, ◌≡◌, not, List, T}
use Rattle.table.specs.Cells.{wires}
use Rattle.table.specs.Drawing.{Drawing, drawn_value, drawn_cells}
use Rattle.relation.specs.Source.{Rel, value}
use Rattle.relation.specs.Families.{Family}
use Rattle.branch_bound.specs.declared.State.{State}
use Rattle.branch_bound.specs.Search.{Board, floor}

-- The answer's own stage drives what its tables do, keeps to the relation and has its cells; no compatible stage has fewer unless the search was
-- stopped, and none has fewer than the floor.
pub record Smallest (D : Drawing) (b : Board) (budget : ℕ) (R : Rel) (s : State) (own : List D.Shape) : Type 0 where
  pub value_own : (p : ℕ) → p < 2 ^ b.n → drawn_value D b.n own p ≡ value b.m (wires s.tables) p
  pub family : Family D b.n b.m R own
  pub counted : drawn_cells D own ≡ s.cells
  pub best : T (not s.stopped) → (stage : List D.Shape) → Family D b.n b.m R stage → s.cells ≤ drawn_cells D stage
  pub above : (stage : List D.Shape) → Family D b.n b.m R stage → floor b R ≤ drawn_cells D stage
  pub within : s.visits ≤ budget
  pub spent : T s.stopped → s.visits ≡ budget
