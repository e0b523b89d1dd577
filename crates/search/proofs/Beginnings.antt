-- What the state of the search has at its beginning: the first answer as the best so far, and the relation by value.
use Prim.Native.Nat.{ℕ, ◌+◌, ◌*◌, ◌^◌, ◌<◌, ◌≤◌}
use mathlib.Core.Path.{◌≡◌, sym, ap, ◌∙◌}
use mathlib.Core.Logic.{⊎_elim}
use mathlib.Core.Bool.{Bool, cond}
use mathlib.Core.List.{List}
use native.Mathlib.Omega.{arith}
use native.Mathlib.Nat.{lt_of_lt_of_le}
use lib.ListN.{length, get_or}
use lib.Pow.{pow_mono}
use Rattle.base.proofs.Tests.{cond_has, test_yes}
use Rattle.sheet.specs.Limits.{max_inputs, max_wires, max_patterns}
use Rattle.sheet.specs.Inner.Sized.{Sized}
use Rattle.table.specs.Bits.{tabulate}
use Rattle.table.specs.Inner.Pairs.{narrow_patterns}
use Rattle.table.specs.Inner.Blocks.{entries}
use Rattle.nodes.specs.declared.BoardKind.{BoardKind}
use Rattle.nodes.specs.Counts.{most_inputs, count_of}
use Rattle.relation.specs.Inner.Side.{side_by_side}
use Rattle.by_value.specs.Inner.ByValue.{filled, WordsBelow}
use Rattle.by_value.proofs.Told.{below_words}
use Rattle.parts.specs.Inner.Boards.{lent_inputs, lent_count, Lent}
use Rattle.parts.specs.Inner.Cells.{byte_in}
use Rattle.parts.specs.Inner.Parts.{PartSets}
use Rattle.parts.specs.Inner.Picks.{table_of, tables_of, cells_of}
use Rattle.parts.specs.declared.states.Running.{Running}
use Rattle.base.proofs.Tabulate.{filled_tabulate}
use Rattle.parts.specs.Inner.States.{side_at, AtHand}
use Rattle.parts.proofs.Keeping.{few, table_at, table_lt, cells_byte}
use Rattle.parts.proofs.Lending.{inputs_few}
use Rattle.visits.specs.Inner.Conflicts.{Seen}
use Rattle.visits.specs.Inner.States.{joined_of}
use Rattle.visits.proofs.StateChanges.{sides_join}

-- the number of patterns is a byte
pub count_small : {e : List ℕ} → Lent e → get_or e (entries + 2) 0 ≤ max_patterns
unfolding lent_count
count_small {e} l = omega (arith, l.count, pow_mono {i = lent_inputs e} {j = max_inputs} (inputs_few l))

-- the words made are those of the relation, on the first section and on a wide board on all
pub seen_told : {count seen : ℕ} (whole : List ℕ) (n : ℕ) (wide : Bool) (S : List ℕ) → WordsBelow seen (filled count S) whole
    → count ≡ 2 ^ n → seen ≡ cond wide max_patterns narrow_patterns → Seen wide n S whole
seen_told {count} {seen} whole n wide S w ec es q lq side =
    let l : narrow_patterns * q < seen =
    ⊎_elim
    (λ z.
    let some : 0 < seen = rw es (cond_has (λ x. 0 < x) wide (λ _. omega arith) (λ _. omega arith)) in
    omega arith)
    (λ t.
    let all : seen ≡ max_patterns = es ∙ ap (λ x. cond x max_patterns narrow_patterns) (test_yes wide t) in
    omega arith) side in
    rw (← ec) (below_words seen (filled count S) whole q w l)

-- the first wire's pick and its cells, from what is carried of the whole
module _ (kind : BoardKind) {n m : ℕ} (sz : Sized (most_inputs kind) n m) {S : List ℕ} (ok : PartSets n m S) where
  pub first_table : (low : ℕ) (l : Running) → AtHand low l (tables_of kind n S) → joined_of low (get_or l.rest 0 0) (get_or l.rest 1 0) (get_or l.rest 2 0) 0 ≡ table_of kind n S 0
  unfolding side_at
  first_table low l hand =
      let ts = tables_of kind n S in
      let at = table_at kind n S 0 (omega arith) in
      let lt : get_or ts 0 0 < 2 ^ max_patterns =
      rw at (lt_of_lt_of_le (table_lt kind sz ok 0) (pow_mono {i = 2 ^ n} {j = max_patterns} (pow_mono {i = n} {j = max_inputs} (few kind sz)))) in
      rw (hand 0 (omega arith), hand 1 (omega arith), hand 2 (omega arith), hand 3 (omega arith)) (sides_join ts 0 (omega arith) lt ∙ at)

  pub first_cells : {c f t : ℕ} → c ≡ cells_of kind n S → t ≡ table_of kind n S 0 → f ≡ byte_in c 0 → f ≡ count_of kind n t
  first_cells ec et ef = ef ∙ ap (λ x. byte_in x 0) ec ∙ cells_byte kind n (few kind sz) S 0 (omega arith) ∙ ap (count_of kind n) (sym et)

-- tables are told by their sections side by side
pub tables_told : (ts : List ℕ) {a b c d : ℕ} → a ≡ side_by_side ts 0 → b ≡ side_by_side ts 1 → c ≡ side_by_side ts 2 → d ≡ side_by_side ts 3 → length ts ≡ max_wires
    → ((j : ℕ) → get_or ts j 0 < 2 ^ max_patterns) → tabulate max_wires (joined_of a b c d) ≡ ts
tables_told ts ea eb ec ed long small =
    rw (ea, eb, ec, ed)
    (sym (filled_tabulate max_wires (joined_of (side_by_side ts 0) (side_by_side ts 1) (side_by_side ts 2) (side_by_side ts 3)) ts long (λ j b. sym (sides_join ts j b (small j)))))
