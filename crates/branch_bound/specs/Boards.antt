-- The boards: document 01's, which counts the selectors of trees, and document 02's (E2), which counts the nodes of diagrams; inputs that are soldered through
-- (E4) are none on either. On both, of equal cells the smaller table is picked.
use Rattle.std.specs.Prelude.{ℕ}
use Rattle.nodes.specs.declared.BoardKind.{BoardKind}
use Rattle.nodes.specs.Counts.{count_of}
use Rattle.branch_bound.specs.Search.{Board}

unfoldable pub board_of : BoardKind → ℕ → ℕ → Board
board_of kind n m = record { n = n; m = m; count = count_of kind n; key = count_of kind n }
