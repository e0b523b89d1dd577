-- `common_four` meets its contract: the pick of four, or none where a pattern is left neither 0 nor 1.
use Prim.Native.Nat.{◌*◌}
use mathlib.Core.Path.{sym, subst}
use native.Mathlib.Omega.{arith}
use native.Mathlib.Nat.{le_refl}
use Rattle.base.proofs.Tests.{told_no}
use Rattle.table.specs.Inner.Ranks.{narrow_space, pick_key}
use Rattle.table.specs.Inner.Blocks.{no_table, Shown}
use Rattle.table.proofs.Seats.{none_between}
use Rattle.table.proofs.wide.common_four.Goals as goal

pub returns-else-all_covered : goal.returns-else-all_covered
returns-else-all_covered c =
    let x = c.args.pair in
    let none = none_between (pick_key 4) x (told_no c.all_covered.ensures c.if-all_covered.false) in
    (subst (λ o. Shown (pick_key 4) narrow_space o (no_table * narrow_space)) (sym none) (le_refl (no_table * narrow_space)), omega arith, omega arith)
