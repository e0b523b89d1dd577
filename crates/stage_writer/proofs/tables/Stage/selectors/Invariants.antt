-- `selectors` meets its contract. The loop's invariant: the selectors of the wires passed.
use Rattle.std.proofs.Common.{◌≡◌, ◌*◌, ◌-◌, ◌≤◌}
use Rattle.sheet.specs.Limits.{max_patterns}
use Rattle.table.specs.Cells.{wires, total}
use Rattle.stage_writer.specs.Inner.Wires.{selectors_of}
use Rattle.stage_writer.proofs.tables.Stage.selectors.Given as goal

abbrev pub invariant-loop-j : goal.invariant-loop-j
invariant-loop-j l = (l.all ≡ total (selectors_of l.self.kind l.self.n) l.j (wires l.self.tables)) × (l.all ≤ l.j * (max_patterns - 1))
