-- Trees are a form: their wires are read as they are written, and cells are fair to them. Their stages' lengths, told by selectors.
use Prim.Native.Nat.{ℕ, ◌+◌, ◌*◌, ◌-◌, ◌<◌, ◌≤◌}
use mathlib.Core.Path.{◌≡◌, refl, sym, ap, ◌∙◌}
use mathlib.Core.Bool.{false}
use mathlib.Core.List.{List, [], ◌∷◌, ◌++◌}
use native.Mathlib.Omega.{arith}
use native.Mathlib.Nat.{mod-eq_of_lt, zero-add}
use lib.ListN.{length, take}
use Rattle.sheet.specs.Limits.{max_inputs, max_wires, max_patterns}
use Rattle.table.specs.Bits.{bit}
use Rattle.table.specs.Cells.{cells, wires, total}
use Rattle.table.specs.Drawing.{got, drawn_table}
use Rattle.table.specs.Tree.{Tree, Ordered, selectors, reduced}
use Rattle.table.specs.Inner.Drawing.{FairCount}
use Rattle.table.proofs.Trees.{follow_lt, least_tree, reduced_cells, reduced_ordered, reduced_follow}
use Rattle.stage.specs.Steps.{Read, taken, fault, unless_refused, due_number, due, operand, turn_number}
use Rattle.stage.specs.Bytes.{sheet_frame, selector_bytes}
use Rattle.stage.specs.TreeBytes.{tree_bytes, tree_wire_bytes, tree_frame, longest_stage}
use Rattle.stage.specs.TreeRead.{tree_known, tree_at, tree_wire_at}
use Rattle.stage.specs.Trees.{tree_form, tree_drawing, read_stage}
use Rattle.stage.specs.Written.{stage_of}
use Rattle.stage.specs.Inner.Laws.{ToldWire, FormLaws}
use Rattle.stage.proofs.Steps.{unless_refused_has, due_has, turn_is, turn_comes}
use Rattle.stage.proofs.Lengths.{sheet_length, sheet_length_most}
use Rattle.stage.proofs.Prefix.{none_longer as sheet_none_longer, front_tells as sheet_front}
use Rattle.stage.proofs.TreeReading.{ToldTree, tree_told, tree_back, tree_length}
use Rattle.stage.proofs.TreeTables.{table_lt, table_bit, selectors_few, patterns_most, reduced_selectors_lt}
use Rattle.stage.proofs.TreeMore.{wire_more}

-- one wire
tree_of_wire : (n j at : ℕ) (rest : List ℕ) (x : Read Tree) → ToldTree n 0 (at + 2) rest x → ToldWire tree_form n j at (0x21 ∷ j ∷ rest) x
tree_of_wire n j at rest (fault f) h = tt
tree_of_wire n j at rest (taken x next q) h = (ap (λ (l : List ℕ). 0x21 ∷ j ∷ l) h.0, omega (arith, h.1), h.2)

pub wire_told : (n m j at : ℕ) (bytes : List ℕ) → ToldWire tree_form n j at bytes (tree_wire_at n m j at bytes)
unfolding tree_wire_at operand
wire_told n m j at bytes =
    due_has (ToldWire tree_form n j at bytes) tree_known fault 0x21 at _ (λ _. tt) bytes (λ rest e. rw e (number rest))
  where
    number : (rest : List ℕ)
        → ToldWire tree_form n j at (0x21 ∷ rest)
        (operand fault at (λ i rest. unless_refused fault at (turn_number m j i false) (tree_at n 0 (at + 2) rest)) rest)
    number [] = tt
    number (i ∷ rest) =
        unless_refused_has (ToldWire tree_form n j at (0x21 ∷ i ∷ rest)) fault at (turn_number m j i false) (λ _. tt)
        (λ e. rw (turn_is m j i false e).0 (tree_of_wire n j at rest (tree_at n 0 (at + 2) rest) (tree_told n 0 (at + 2) rest)))

pub wire_back : (n m j at : ℕ) (x : Tree) (q : List ℕ) → j < m → Ordered n 0 x
    → tree_wire_at n m j at (tree_wire_bytes j x ++ q) ≡ taken x (at + length (tree_wire_bytes j x)) q
unfolding tree_wire_at due due_number operand
wire_back n m j at x q l o =
    let len : at + 2 + length (tree_bytes x) ≡ at + length (tree_wire_bytes j x) = omega arith in
    rw (turn_comes m j false l refl) (tree_back x n 0 (at + 2) q (omega arith) o ∙ ap (λ y. taken x y q) len)

-- the count of cells is fair to trees: none of a function has fewer cells, and the reduced one has as many
unfoldable pub tree_counts : (n : ℕ) → FairCount tree_drawing n (cells n)
tree_counts n =
    record {
      drives = λ x o p. follow_lt n 0 x p o;
      least = λ x o. least_tree n n 0 (zero-add n) x o (drawn_table tree_drawing n x) (table_lt n 0 x o) (λ p l. sym (table_bit n 0 x o p l));
      reduced = λ t. reduced n 0 t;
      reduced_formed = λ t l. reduced_ordered n n 0 t (zero-add n) l;
      reduced_follow = λ t p l b. reduced_follow n n 0 t p (zero-add n) l ∙ ap (bit t) (mod-eq_of_lt b);
      reduced_cells = λ t. reduced_cells n 0 t;
    }

unfoldable pub tree_laws : FormLaws tree_form
unfolding tree_counts
tree_laws =
    record {
      frame = tree_frame;
      selectors = selectors;
      wire_length = λ j x. omega (arith, tree_length x);
      wire_most = max_patterns - 1;
      few = λ n x s o. omega (arith, selectors_few n 0 x (omega arith) s o);
      told = wire_told;
      back = wire_back;
      more = λ n m j at bytes q s l. wire_more n m j at bytes q (omega (arith, patterns_most n s));
      fair = λ n _. tree_counts n;
      reduces = λ n _. refl;
    }

-- no sheet that is accepted is longer, and reading looks at no byte past the one that would follow
pub none_longer : (bytes : List ℕ) (n m : ℕ) (stage : List Tree) → read_stage bytes ≡ got n m stage → length bytes ≤ longest_stage
unfolding tree_laws
none_longer bytes n m stage e = sheet_none_longer tree_form tree_laws bytes n m stage e

pub front_tells : (s : List ℕ) (k : ℕ) → longest_stage < k → read_stage (take k s) ≡ read_stage s
unfolding tree_laws
front_tells s k h = sheet_front tree_form tree_laws s k h

-- the length of a stage by its wires and selectors, and its bound
pub stage_length : (n m : ℕ) (tables : List ℕ) → m ≤ length tables
    → length (stage_of tree_form n m tables) ≡ sheet_frame + tree_frame * m + selector_bytes * total (λ t. selectors (reduced n 0 t)) m (wires tables)
unfolding tree_laws
stage_length n m tables h = sheet_length tree_form tree_laws n (λ t. selectors (reduced n 0 t)) (λ t. refl) m tables h

pub stage_length_most : (n m : ℕ) (tables : List ℕ) → m ≤ length tables → n ≤ max_inputs → m ≤ max_wires
    → length (stage_of tree_form n m tables) ≤ longest_stage
unfolding tree_laws
stage_length_most n m tables h a b =
    omega (
      arith,
      sheet_length_most tree_form tree_laws n (λ t. selectors (reduced n 0 t)) (λ t. refl) m tables h (max_patterns - 1)
          (λ t. omega (arith, reduced_selectors_lt n 0 t, patterns_most n a)),
    )
