-- Document 02, E5: a search refuses a relation of more inputs than its board has, and any other that passes the test is searched.
use Prim.Native.Nat.{ℕ, ◌<◌}
use mathlib.Core.Path.{◌≡◌, ap}
use mathlib.Core.Bool.{true}
use lib.Dec.{eqb, ltb, lt→ltb}
use Rattle.base.specs.Refusals.{refusal_at, out_of_range}
use Rattle.base.specs.Cases.{refused_case}
use Rattle.base.proofs.Tests.{or_left, or_right, test_yes}
use Rattle.sheet.specs.Limits.{max_wires, count_out, sizes_out}
use Rattle.nodes.specs.declared.BoardKind.{BoardKind}
use Rattle.nodes.specs.Counts.{most_inputs}
use Rattle.relation.specs.declared.Relation.{Relation}
use Rattle.relation.specs.Handed.{relation_of}
use Rattle.relation.proofs.Fits.{Fit, fit_passes, check_sizes}
use Rattle.branch_bound.specs.Search.{run}
use Rattle.branch_bound.specs.Boards.{board_of}
use Rattle.branch_bound.specs.Reply.{answer_of, refused_with, search_tested, search_of}

-- too many inputs are sizes out of range
above_most : (most n m : ℕ) → most < n → sizes_out most n m ≡ true
above_most most n m h =
    test_yes (sizes_out most n m) (or_left (count_out n most) (count_out m max_wires) (or_right (eqb n 0) (ltb most n) (lt→ltb most n h)))

module _ (kind : BoardKind) (r : Relation) (budget : ℕ) where
  -- more inputs than the board has lines are 3 at place 0
  pub sizes_refused : most_inputs kind < r.n → search_of kind r budget ≡ refused_with (refused_case (refusal_at out_of_range 0))
  unfolding search_of search_tested
  sizes_refused h = ap (search_tested kind r budget) (check_sizes (most_inputs kind) r (above_most (most_inputs kind) r.n r.m h))

  -- trees go up to six lines
  pub fit_searched : Fit (most_inputs kind) r
      → search_of kind r budget ≡ answer_of (board_of kind r.n r.m) (relation_of r) (run (board_of kind r.n r.m) budget (relation_of r))
  unfolding search_of search_tested
  fit_searched f = ap (search_tested kind r budget) (fit_passes (most_inputs kind) r f)
