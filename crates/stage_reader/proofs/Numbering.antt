-- Laws of the numbers of a diagram as the stage reader keeps them: they tell the constants, and with each entry that is pushed one number more.
use Prim.Native.Nat.{ℕ, zero, suc, ◌+◌, ◌*◌, ◌^◌, ◌<◌, ◌≤◌}
use mathlib.Core.Path.{◌≡◌, refl, sym, ap, ap₂, subst, ◌∙◌}
use mathlib.Core.Logic.{⊎_elim}
use mathlib.Core.List.{List, [], ◌∷◌}
use native.Mathlib.Omega.{arith}
use native.Mathlib.Numerals.{add-one}
use lib.ListN.{length, get_or, set, replicate}
use lib.Seq.{get_or-set_same, get_or-set_other}
use borrow.Author.Tests.{eq-eqb, ne_eqb}
use Rattle.base.proofs.Tests.{below_suc}
use Rattle.table.specs.Bits.{of_bits}
use Rattle.table.specs.Cells.{full}
use Rattle.table.specs.Drawing.{drawn_table}
use Rattle.table.specs.Tree.{sel, Ordered, follow}
use Rattle.table.proofs.Bits.{sum_cong}
use Rattle.stage.proofs.TreeTables.{table_of, table_lt}
use Rattle.diagram.specs.Diagram.{Entry, diagram, next_number, input_at, follow_entry, FitsAfter, EntriesFit, most_entries, entry_price, entries_cells}
use Rattle.diagram.specs.Diagrams.{diagram_drawing}
use Rattle.diagram.proofs.Entries.{tree_of, follow_tree, diagram_ordered}
use Rattle.stage_reader.specs.Inner.Listed.{Listed}
use Rattle.stage_reader.specs.Inner.Numbers.{most_numbers, as_entry, no_entry, entries_in, listed_in, entries_so_far, Tells, TellsEach, Told}
use Rattle.stage_reader.specs.Inner.Tables.{select_of}
use Rattle.stage_reader.specs.declared.numbers.Entry.{Entry as EntryRead}
use Rattle.stage_reader.specs.declared.numbers.Numbers.TheInside.{Inside}
use Rattle.stage_reader.proofs.Selecting.{table_zero, table_one, table_select}
use Rattle.stage_reader.proofs.Counts.{entries_few}

-- what a number drives is what its tree drives
number_table : (n : ℕ) (es : List Entry) (x : ℕ) → drawn_table diagram_drawing n (diagram es x) ≡ table_of n (tree_of es x)
unfolding drawn_table of_bits
number_table n es x =
    sum_cong (2 ^ n) (λ p. follow_entry n p es x * 2 ^ p) (λ p. follow n p (tree_of es x) * 2 ^ p) (λ p _. ap (λ v. v * 2 ^ p) (follow_tree n p es x))

-- the constants, before any entry
pub constants_tell : (n t : ℕ) (e : EntryRead) → e.input ≡ n + 1 → t ≡ full n
    → TellsEach n [] (set (replicate most_numbers 0) 1 t) (set (set (replicate most_numbers no_entry) 0 e) 1 e)
unfolding input_at tree_of
constants_tell n t e i f zero l = record { table = sym (number_table n [] 0 ∙ table_zero n); input = i ∙ omega arith }
constants_tell n t e i f (suc zero) l = record { table = f ∙ table_one n ∙ sym (number_table n [] 1); input = i ∙ omega arith }
constants_tell n t e i f (suc (suc x)) l = absurd (omega arith)

-- the entries are as many as are counted, and one behind them changes none
entries_length : (all : List EntryRead) (k : ℕ) → length (entries_in all k) ≡ k
unfolding entries_in
entries_length all zero = refl
entries_length all (suc k) = ap suc (entries_length all k)

entries_kept : (all : List EntryRead) (at : ℕ) (v : EntryRead) (k : ℕ) → k + 2 ≤ at → entries_in (set all at v) k ≡ entries_in all k
unfolding entries_in
entries_kept all at v zero h = refl
entries_kept all at v (suc k) h =
    let other : k + 2 ≡ at → ⊥ = λ e. absurd (omega arith) in
    ap₂ ◌∷◌ (ap as_entry (get_or-set_other all at (k + 2) v no_entry other)) (entries_kept all at v k (omega arith))

-- where fewer are told than a wire can have, fewer are counted
pub room_left : (x : Inside) (l : Listed) → listed_in x ≡ l → length l.entries < most_entries → x.count < most_entries
room_left x l is few = omega (arith, few, entries_length x.entries x.count, ap (λ (k : Listed). length k.entries) is)

-- the entry that follows: its own number, and every other
module _ (n : ℕ) (es : List Entry) (e : Entry) where
  latest_tree : tree_of (e ∷ es) (next_number es) ≡ sel e.input (tree_of es e.on_zero) (tree_of es e.on_one)
  unfolding tree_of
  latest_tree = rw (eq-eqb (next_number es) (next_number es) refl)

  earlier_tree : (x : ℕ) → (x ≡ next_number es → ⊥) → tree_of (e ∷ es) x ≡ tree_of es x
  unfolding tree_of
  earlier_tree x h = rw (ne_eqb x (next_number es) h)

  latest_input : input_at n (e ∷ es) (next_number es) ≡ e.input
  unfolding input_at
  latest_input = rw (eq-eqb (next_number es) (next_number es) refl)

  earlier_input : (x : ℕ) → (x ≡ next_number es → ⊥) → input_at n (e ∷ es) x ≡ input_at n es x
  unfolding input_at
  earlier_input x h = rw (ne_eqb x (next_number es) h)

-- the numbers as they are told
module _ (x : Inside) (told : Told x) where
  pub own_number : next_number (entries_so_far x) ≡ 2 + x.count
  own_number = omega (arith, entries_length x.entries x.count)

  pub cells_most : x.cells ≤ x.count
  cells_most = omega (arith, told.counted, entries_few (entries_so_far x), entries_length x.entries x.count)

  number_ordered : (k : ℕ) → k < next_number (entries_so_far x) → Ordered x.n 0 (tree_of (entries_so_far x) k)
  number_ordered k l =
      let length_is = entries_length x.entries x.count in
      diagram_ordered x.n (diagram (entries_so_far x) k) (record { few = omega (arith, told.few); fit = told.fit; top_there = omega arith })

  pub number_fits : (k : ℕ) → k < next_number (entries_so_far x) → get_or x.tables k 0 < 2 ^ (2 ^ x.n)
  number_fits k l =
      rw ((told.tell k l).table ∙ number_table x.n (entries_so_far x) k) (table_lt x.n 0 (tree_of (entries_so_far x) k) (number_ordered k l))

  -- one entry more
  module _ (e : EntryRead) (t : ℕ) (fits : FitsAfter x.n (entries_so_far x) (as_entry e)) (room : x.count < most_entries)
      (tables_long : length x.tables ≡ most_numbers) (long : length x.entries ≡ most_numbers)
      (drives : t ≡ select_of x.n e.input (get_or x.tables e.on_zero 0) (get_or x.tables e.on_one 0)) where
    abbrev pub more_tables : List ℕ
    more_tables = set x.tables (2 + x.count) t

    abbrev pub more : List EntryRead
    more = set x.entries (2 + x.count) e

    own_table : get_or more_tables (2 + x.count) 0 ≡ t
    own_table = get_or-set_same x.tables (2 + x.count) t 0 (omega arith)

    latest : get_or more (2 + x.count) no_entry ≡ e
    latest = get_or-set_same x.entries (2 + x.count) e no_entry (omega arith)

    pub entries_more : entries_in more (x.count + 1) ≡ as_entry e ∷ entries_so_far x
    unfolding entries_in
    entries_more =
        let own : x.count + 2 ≡ 2 + x.count = omega arith in
        rw (add-one x.count, own, latest) (ap (λ es. as_entry e ∷ es) (entries_kept x.entries (2 + x.count) e x.count (omega arith)))

    latest_table : t ≡ drawn_table diagram_drawing x.n (diagram (as_entry e ∷ entries_so_far x) (next_number (entries_so_far x)))
    latest_table =
        let es = entries_so_far x in
        let z = (told.tell e.on_zero fits.zero_lower).table ∙ number_table x.n es e.on_zero in
        let o = (told.tell e.on_one fits.one_lower).table ∙ number_table x.n es e.on_one in
        drives
        ∙ ap₂ (select_of x.n e.input) z o
        ∙ table_select x.n e.input 0 (tree_of es e.on_zero) (tree_of es e.on_one)
        (number_ordered e.on_zero fits.zero_lower)
        (number_ordered e.on_one fits.one_lower)
        ∙ ap (table_of x.n) (sym (latest_tree x.n es (as_entry e)))
        ∙ sym (number_table x.n (as_entry e ∷ es) (next_number es))

    tell_more : TellsEach x.n (as_entry e ∷ entries_so_far x) more_tables more
    tell_more k h =
        let n = x.n in
        let es = entries_so_far x in
        ⊎_elim
        (λ (same : k ≡ next_number es).
        let own : Tells n (as_entry e ∷ es) (next_number es) (get_or more_tables (2 + x.count) 0) (get_or more (2 + x.count) no_entry) =
        rw (own_table, latest) (record { table = latest_table; input = sym (latest_input n es (as_entry e)) }) in
        rw same (subst (λ (j : ℕ). Tells n (as_entry e ∷ es) (next_number es) (get_or more_tables j 0) (get_or more j no_entry)) (sym own_number) own))
        (λ lower.
        let other : k ≡ next_number es → ⊥ = λ d. omega (arith, d, lower) in
        let past : k ≡ 2 + x.count → ⊥ = λ d. omega (arith, d, lower, own_number) in
        let v = told.tell k lower in
        rw (get_or-set_other x.tables (2 + x.count) k t 0 past, get_or-set_other x.entries (2 + x.count) k e no_entry past)
        (record {
          table = v.table ∙ number_table n es k ∙ ap (table_of n) (sym (earlier_tree n es (as_entry e) k other)) ∙ sym (number_table n (as_entry e ∷ es) k);
          input = v.input ∙ sym (earlier_input n es (as_entry e) k other);
        }))
        (below_suc {k = next_number es} (omega arith))

    pub told_more : (price : ℕ) → price ≡ entry_price (as_entry e) → Told (record { n = x.n; count = x.count + 1; cells = x.cells + price; tables = more_tables; entries = more })
    unfolding EntriesFit entries_cells
    told_more price p =
        record {
          small = told.small;
          few = omega arith;
          fit = rw entries_more (fits, told.fit);
          tell = rw entries_more tell_more;
          counted = rw entries_more (omega (arith, p, told.counted));
        }
