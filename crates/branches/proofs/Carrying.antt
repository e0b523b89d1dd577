-- What is carried of a part tells its floor, its tables and the patterns that there are.
use Prim.Native.Nat.{ℕ, zero, suc, ◌^◌, ◌<◌}
use mathlib.Core.Path.{◌≡◌, sym, ap, subst, ◌∙◌}
use mathlib.Core.Logic.{⊎_elim}
use mathlib.Core.List.{List}
use native.Mathlib.Nat.{lt_of_lt_of_le}
use native.Mathlib.Nat.{le_trans}
use native.Mathlib.Omega.{arith}
use lib.Dec.{leb, leb→le, nleb→lt}
use lib.ListN.{length, get_or, get_or-eq_default}
use Rattle.base.proofs.Tests.{decide}
use lib.Pow.{pow_mono, pow_pos}
use Rattle.sheet.specs.Limits.{max_inputs, max_wires, max_patterns}
use Rattle.table.proofs.Bits.{tabulate_length}
use Rattle.relation.specs.Tests.{of_sets}
use Rattle.branch_bound.specs.Search.{floor, picks}
use Rattle.nodes.specs.declared.BoardKind.{BoardKind}
use Rattle.nodes.specs.Counts.{most_inputs}
use Rattle.nodes.proofs.Counts.{most_inputs_lem}
use Rattle.branch_bound.specs.Boards.{board_of}
use Rattle.sheet.specs.Inner.Sized.{Sized}
use Rattle.parts.specs.Inner.Cells.{cell_space, cells_sum}
use Rattle.parts.specs.Inner.Picks.{table_of, tables_of}
use Rattle.parts.specs.Inner.Parts.{Carried}
use Rattle.parts.specs.declared.states.Running.{Running}
use Rattle.table.specs.Inner.Wide.{sections}
use Rattle.relation.specs.Inner.Side.{side_by_side}
use Rattle.parts.specs.Inner.States.{side_at}
use Rattle.visits.specs.Inner.States.{SameRest}
use Rattle.parts.proofs.Keeping.{few, table_at, table_lt, cells_fit, kept_tables, kept_floor}

module _ {kind : BoardKind} {n m : ℕ} {S ws : List ℕ} {l : Running} {low c : ℕ} (h : Carried kind n m S ws l low c) where
  pub carried_floor : {f : ℕ} → f ≡ cells_sum c → f ≡ floor (board_of kind n m) (of_sets S)
  carried_floor e = e ∙ ap cells_sum h.cells ∙ kept_floor kind h.sized h.sets

  pub carried_tables : tables_of kind n S ≡ picks (board_of kind n m) (of_sets S)
  carried_tables = kept_tables kind h.sized h.sets

  pub carried_fit : (c < cell_space ^ max_wires) × (cells_sum c < cell_space)
  carried_fit = rw h.cells (cells_fit kind n (few kind h.sized) S)

  pub tables_long : length (tables_of kind n S) ≡ max_wires
  unfolding tables_of
  tables_long = tabulate_length max_wires (table_of kind n S)

  pub tables_small : (j : ℕ) → get_or (tables_of kind n S) j 0 < 2 ^ max_patterns
  tables_small j =
      ⊎_elim
      (λ t. subst (λ x. x < 2 ^ max_patterns) (sym (get_or-eq_default (tables_of kind n S) 0 {n = j} (rw tables_long (leb→le max_wires j t)))) (pow_pos max_patterns))
      (λ t.
      subst (λ x. x < 2 ^ max_patterns) (sym (table_at kind n S j (nleb→lt max_wires j t)))
      (lt_of_lt_of_le (table_lt kind h.sized h.sets j) (pow_mono {i = 2 ^ n} {j = max_patterns} (pow_mono {i = n} {j = max_inputs} (few kind h.sized)))))
      (decide (leb max_wires j))

  -- the same part, once the tables at hand are put back
  pub carried_back : {l' : Running} → SameRest l l' → Carried kind n m S ws l' low c
  unfolding side_at
  carried_back {l'} same =
      record {
        sized = h.sized;
        sets = h.sets;
        long = h.long;
        halved = h.halved;
        masks = h.masks;
        tables = at_hand;
        cells = h.cells;
      }
    where
      at_hand : (q : ℕ) → q < sections → side_at low l' q ≡ side_by_side (tables_of kind n S) q
      at_hand zero lq = h.tables zero lq
      at_hand (suc i) lq = same i (omega arith) ∙ h.tables (suc i) lq

pub pattern_lt : (kind : BoardKind) {n m p : ℕ} → Sized (most_inputs kind) n m → p < 2 ^ n → p < max_patterns
pattern_lt kind {n} sz l = lt_of_lt_of_le l (pow_mono {i = n} {j = max_inputs} (le_trans sz.n_most (most_inputs_lem kind)))
