-- What a search of a relation that passes its test writes: its own stage, and the promise told by stages drawn, on either board.
use Prim.Native.Nat.{ℕ, ◌^◌, ◌<◌, ◌≤◌}
use mathlib.Core.Path.{◌≡◌, sym, subst}
use mathlib.Core.Bool.{cond, not}
use mathlib.Core.List.{List, map}
use native.Mathlib.Omega.{arith}
use borrow.Author.Tests.{lt-leb, le-ltb}
use native.Mathlib.Nat.{le_refl}
use lib.Dec.{T, ltb, leb}
use lib.ListN.{length, get_or, take}
use Rattle.base.specs.Cases.{accepting, accepted_outcome, accepted_case, refused_case}
use Rattle.base.specs.Refusals.{refusal_at, short_buffer}
use Rattle.base.proofs.Lowest.{lowest_none}
use Rattle.sheet.specs.Limits.{max_inputs, is_beyond}
use Rattle.sheet.specs.Inner.Sized.{Sized}
use Rattle.sheet.proofs.Sizes.{sizes_fit}
use Rattle.table.specs.Drawing.{got, drawn_cells}
use Rattle.nodes.specs.declared.BoardKind.{BoardKind}
use Rattle.nodes.specs.Counts.{most_inputs}
use Rattle.relation.specs.declared.Relation.{Relation}
use Rattle.relation.specs.Families.{Family}
use Rattle.relation.specs.Handed.{relation_of, check_of}
use Rattle.relation.proofs.Fits.{Fit, sized_within, check_well_formed}
use Rattle.branch_bound.specs.declared.State.{State}
use Rattle.branch_bound.specs.Search.{floor, run}
use Rattle.branch_bound.specs.Boards.{board_of}
use Rattle.branch_bound.specs.Smallest.{Smallest}
use Rattle.branch_bound.specs.SearchPromise.{Promise}
use Rattle.branch_bound.proofs.Families.{fair, smallest}
use Rattle.branch_bound.proofs.Treating.{run_promise}
use Rattle.stage.specs.Read.{read_sheet}
use Rattle.stage.specs.Written.{stage_drawn, stage_of, first_out, written_of}
use Rattle.stage.proofs.Sheets.{written_back}
use Rattle.diagram.specs.Forms.{form_of, drawing_of}
use Rattle.nodes.proofs.Counts.{most_inputs_lem}
use Rattle.diagram.proofs.Forms.{form_laws, form_most, form_fair, form_reduces}

module _ (kind : BoardKind) (r : Relation) (passes : check_of (most_inputs kind) r ≡ accepted_case) (budget : ℕ) where
  fit : Fit (most_inputs kind) r
  fit = check_well_formed (most_inputs kind) r passes

  -- sizes of a sheet, and of a stage on the board
  sized : Sized max_inputs r.n r.m
  sized = sized_within (most_inputs kind) r.n r.m (most_inputs_lem kind) fit.sizes

  sized_board : Sized (form_of kind).most r.n r.m
  sized_board = subst (λ k. Sized k r.n r.m) (sym (form_most kind)) fit.sizes

  abbrev pub found : State
  found = run (board_of kind r.n r.m) budget (relation_of r)

  kept : Promise (board_of kind r.n r.m) budget (relation_of r) (run (board_of kind r.n r.m) budget (relation_of r))
  unfolding board_of
  kept = run_promise (board_of kind r.n r.m) (fair kind r.n r.m sized.m_most) budget (relation_of r) fit.well_defined

  long : r.m ≤ length found.tables
  long = omega (arith, kept.so_far.long, sized.m_most)

  in_range : (j : ℕ) → j < r.m → get_or found.tables j 0 < 2 ^ (2 ^ r.n)
  unfolding board_of
  in_range j l = kept.so_far.stage j l

  abbrev pub drawn : List (drawing_of kind).Shape
  drawn = stage_drawn (form_of kind) r.n r.m found.tables

  told : Smallest (drawing_of kind) (board_of kind r.n r.m) budget (relation_of r) (run (board_of kind r.n r.m) budget (relation_of r)) drawn
  unfolding board_of stage_drawn
  told =
      subst (λ f. Smallest (drawing_of kind) (board_of kind r.n r.m) budget (relation_of r) found (map f (take r.m found.tables))) (form_reduces kind r.n sized.n_most)
      (smallest (drawing_of kind) (board_of kind r.n r.m) (form_fair kind r.n sized.n_most) (fair kind r.n r.m sized.m_most) budget (relation_of r) fit.well_defined)

  -- the stage written is compatible and has exactly the cells found
  pub own_family : Family (drawing_of kind) r.n r.m (relation_of r) drawn
  unfolding board_of
  own_family = told.family

  pub own_cells : drawn_cells (drawing_of kind) drawn ≡ found.cells
  own_cells = told.counted

  -- no stage drawn that keeps to the relation has fewer cells
  pub above : (x : List (drawing_of kind).Shape) → Family (drawing_of kind) r.n r.m (relation_of r) x → floor (board_of kind r.n r.m) (relation_of r) ≤ drawn_cells (drawing_of kind) x
  unfolding board_of
  above = told.above

  pub best : T (not found.stopped) → (x : List (drawing_of kind).Shape) → Family (drawing_of kind) r.n r.m (relation_of r) x → found.cells ≤ drawn_cells (drawing_of kind) x
  unfolding board_of
  best = told.best

  pub within : found.visits ≤ budget
  within = told.within

  pub spent : T found.stopped → found.visits ≡ budget
  spent = told.spent

  -- the writer refuses nothing but a short buffer
  pub written : (room : ℕ)
      → written_of (form_of kind) r.n r.m found.tables room
      ≡ cond (ltb room (length (stage_of (form_of kind) r.n r.m found.tables))) (refused_case (refusal_at short_buffer (length (stage_of (form_of kind) r.n r.m found.tables))))
      (accepting accepted_outcome (length (stage_of (form_of kind) r.n r.m found.tables)))
  unfolding written_of first_out
  written room =
      rw (
        sizes_fit (form_of kind).most r.n r.m sized_board,
        lowest_none r.m (λ j. is_beyond (2 ^ r.n) (get_or found.tables j 0)) (λ j l. nleb (2 ^ (2 ^ r.n)) (get_or found.tables j 0) (in_range j l)),
        le-ltb r.m r.m (le_refl r.m),
      )
    where
      nleb : (k x : ℕ) → x < k → T (not (leb k x))
      nleb k x h = rw (lt-leb k x h) tt

  pub read_back : read_sheet (form_of kind) (stage_of (form_of kind) r.n r.m found.tables) ≡ got r.n r.m drawn
  read_back = written_back (form_of kind) (form_laws kind) r.n r.m found.tables sized_board long in_range
