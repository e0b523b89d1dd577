-- `first_open`: nothing is found yet, and below p nothing is in conflict; in it no wire below j is open.
use Prim.Native.Nat.{ℕ, ◌<◌}
use mathlib.Core.Path.{◌≡◌}
use mathlib.Core.Bool.{not}
use lib.Dec.{T}
use Rattle.std.specs.Prelude.{None}
use Rattle.relation.specs.Tests.{of_sets, is_open}
use Rattle.parts.specs.Inner.Boards.{lent_kind, lent_inputs, lent_wires}
use Rattle.parts.specs.Inner.Picks.{tables_of}
use Rattle.visits.specs.Inner.Conflicts.{Settled}
use Rattle.visits.proofs.conflicts.first_open.Given as goal

abbrev pub invariant-loop-j : goal.invariant-loop-j
invariant-loop-j l = (l.found ≡ None) × ((i : ℕ) → i < l.j → T (not (is_open (lent_wires l.e) (of_sets l.sets l.p) i)))

abbrev pub invariant-patterns : goal.invariant-patterns
invariant-patterns l = (l.found ≡ None) × Settled (lent_wires l.e) l.sets (tables_of (lent_kind l.e) (lent_inputs l.e) l.sets) l.p
