-- `line_rank` meets its contract: one test of both masks.
use Prim.Native.Nat.{◌*◌, ◌/◌, ◌%◌}
use mathlib.Core.Path.{◌≡◌, sym}
use native.Mathlib.Omega.{arith}
use lib.Bits.{bit_and}
use Rattle.base.proofs.Tests.{eqb_yes, eqb_not}
use Rattle.table.specs.Inner.Pairs.{block_space}
use Rattle.nodes.specs.Inner.Ways.{ones_quarter, no_line, line_at}
use Rattle.nodes.proofs.picks.line_rank.Goals as goal

pub returns-then-x-y-eq-DIGIT : goal.returns-then-x-y-eq-DIGIT
unfolding line_at
returns-then-x-y-eq-DIGIT c =
    let a = c.args in
    let full : bit_and (a.x / block_space) a.y % block_space ≡ ones_quarter = c.if-x-y-eq-DIGIT.true in
    (sym (eqb_yes (bit_and (a.x / block_space) a.y % block_space) ones_quarter (a.j * ones_quarter) no_line full), omega arith)

pub returns-else-x-y-eq-DIGIT : goal.returns-else-x-y-eq-DIGIT
unfolding line_at
returns-else-x-y-eq-DIGIT c =
    let a = c.args in
    let lacked : bit_and (a.x / block_space) a.y % block_space ≡ ones_quarter → ⊥ = c.if-x-y-eq-DIGIT.false in
    (sym (eqb_not (bit_and (a.x / block_space) a.y % block_space) ones_quarter (a.j * ones_quarter) no_line lacked), omega arith)
