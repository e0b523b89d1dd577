use Prim.Native.Nat.{◌%◌}
use native.Mathlib.Omega.{arith}
use lib.ListN.{get_or}
use Rattle.table.specs.Inner.Ranks.{narrow_space}
use Rattle.search.proofs.PickTables.{joined_fits}
use Rattle.search.proofs.quick_solver.table_at.Goals as goal

pub overflow_add-result : goal.overflow_add-result
overflow_add-result c = let a = c.args in
    let r = a.state.now.rest in
    omega (
      arith,
      c.joined.ensures,
      c.side_in-low.ensures.0,
      joined_fits (a.found % narrow_space) (get_or r 0 0) (get_or r 1 0) (get_or r 2 0) a.j (omega arith) c.requires,
    )
