-- A part that may be visited, and one that may be split.
use Rattle.std.specs.Prelude.{ℕ, ◌^◌, ◌<◌, ◌≤◌, List, T}
use Rattle.relation.specs.Tests.{of_sets, is_open}
use Rattle.parts.specs.Inner.Boards.{lent_kind, lent_inputs, lent_wires, lent_wide, Lent}
use Rattle.parts.specs.Inner.Cells.{cells_sum}
use Rattle.parts.specs.Inner.Parts.{Carried}
use Rattle.parts.specs.Inner.Picks.{tables_of}
use Rattle.parts.specs.declared.states.Running.{Running}
use Rattle.visits.specs.Inner.Conflicts.{Settled}
use Rattle.halves.specs.Inner.Whole.{Whole}

-- what is lent down and handed down is that of a part whose cells are fewer than the best, and its picks are allowed on the patterns below from
pub record Visitable (e sets masks : List ℕ) (state : Running) (low cells from : ℕ) : Type 0 where
  pub lent : Lent e
  pub carried : Carried (lent_kind e) (lent_inputs e) (lent_wires e) sets masks state low cells
  pub whole : Whole (lent_wide e) (lent_inputs e) sets state.whole
  pub inside : from ≤ 2 ^ lent_inputs e
  pub settled : Settled (lent_wires e) sets (tables_of (lent_kind e) (lent_inputs e) sets) from
  pub under : cells_sum cells < state.cells

-- and wire j is open on pattern p, below which its picks are allowed
pub record Splittable (e sets masks : List ℕ) (state : Running) (low cells p j : ℕ) : Type 0 where
  pub part : Visitable e sets masks state low cells p
  pub pattern : p < 2 ^ lent_inputs e
  pub wire : j < lent_wires e
  pub open_there : T (is_open (lent_wires e) (of_sets sets p) j)
