use mathlib.Core.Path.{◌≡◌}
use native.Mathlib.Omega.{arith}
use Rattle.table.specs.Bits.{bit, of_bits, sum}
use Rattle.stage_reader.specs.Inner.Tables.{input_table}
use Rattle.stage_reader.proofs.tables.input_table.Goals as goal

pub returns-in-0 : goal.returns-in-0
unfolding input_table of_bits sum bit
returns-in-0 c = simp c.in-0.is

pub returns-in-1 : goal.returns-in-1
unfolding input_table of_bits sum bit
returns-in-1 c = simp c.in-1.is

pub returns-in-2 : goal.returns-in-2
unfolding input_table of_bits sum bit
returns-in-2 c = simp c.in-2.is

pub returns-in-3 : goal.returns-in-3
unfolding input_table of_bits sum bit
returns-in-3 c = simp c.in-3.is

pub returns-in-4 : goal.returns-in-4
unfolding input_table of_bits sum bit
returns-in-4 c = simp c.in-4.is

pub returns-in_default : goal.returns-in_default
unfolding input_table of_bits sum bit
returns-in_default c =
    let last : c.args.j ≡ 5 = omega (arith, c.in_default, c.requires) in
    simp last
