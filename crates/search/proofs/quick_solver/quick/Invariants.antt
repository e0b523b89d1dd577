use mathlib.Core.Path.{◌≡◌}
use Rattle.parts.specs.Inner.Boards.{lent_kind, lent_inputs, lent_wires}
use Rattle.search.proofs.FirstAnswer.{ChosenBelow}
use Rattle.search.proofs.quick_solver.quick.Given as goal

abbrev pub invariant-loop-j : goal.invariant-loop-j
invariant-loop-j l = ChosenBelow (lent_kind l.e) (lent_inputs l.e) (lent_wires l.e) l.initial.left l.j l.left l.tables l.cells × (l.j ≡ 0 → l.left ≡ l.initial.left)
