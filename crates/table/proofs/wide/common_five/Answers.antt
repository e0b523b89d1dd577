-- `common_five` meets its contract: none where a pattern of either pair is left neither 0 nor 1, else the pick.
use native.Mathlib.Omega.{arith}
use Rattle.base.proofs.Tests.{told_no}
use Rattle.table.proofs.SideBySide.{none_low, none_high}
use Rattle.table.proofs.wide.common_five.Goals as goal
use Rattle.table.proofs.wide.common_five.Goals.{else-all_covered-via-then-all_covered+else-all_covered-2, else-all_covered-via-else-all_covered}

pub returns-else-all_covered : goal.returns-else-all_covered
returns-else-all_covered c =
    let i = c.args in (
      elim c.else-all_covered.branch [
        | else-all_covered-via-then-all_covered+else-all_covered-2 w ↦ none_high i.low i.high (told_no w.all_covered-then-all_covered.ensures w.if-all_covered-2.false)
        | else-all_covered-via-else-all_covered w ↦ none_low i.low i.high (told_no c.all_covered.ensures w.if-all_covered.false)
      ],
      omega arith,
      omega arith,
    )
