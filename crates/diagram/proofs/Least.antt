-- No diagram of a table's function has fewer cells than the table's nodes count for.
use Prim.Native.Nat.{ℕ, zero, suc, ◌+◌, ◌-◌, ◌^◌, ◌*◌, ◌<◌, ◌≤◌}
use mathlib.Core.Path.{◌≡◌, refl, sym, ap, ap₂, subst, ◌∙◌}
use mathlib.Core.Logic.{⊎_elim}
use mathlib.Core.List.{List, [], ◌∷◌}
use native.Mathlib.Omega.{arith}
use lib.Dec.{T, eqb, leb, eqb→eq, leb→le, nleb→lt}
use Rattle.base.proofs.Tests.{cond_has, decide, and_left, and_right}
use Rattle.table.specs.Bits.{bit, of_bits}
use Rattle.table.specs.Cells.{low, high, wired_table}
use Rattle.table.specs.Tree.{Tree, con, sel, Ordered, follow}
use Rattle.table.specs.Inner.Lines.{line}
use Rattle.table.proofs.Bits.{bit_top, bit_past, zero_bit, of_bits_bit, sum_cong}
use Rattle.table.proofs.Halves.{low_lt, high_lt, low_bit, high_bit}
use Rattle.table.proofs.Wired.{full_bit, line_low, line_high, line_lt, line_wired, wired_le}
use Rattle.table.proofs.Trees.{follow_zero, follow_one, Means, Past, Tests, halves}
use Rattle.nodes.specs.Nodes.{Node, node, has, listing, price, weight, nodes}
use Rattle.nodes.proofs.Lists.{has_none, has_head, has_later, subset_weight}
use Rattle.nodes.proofs.Listing.{listing_once}
use Rattle.nodes.proofs.Held.{Holds, listing_within}
use Rattle.diagram.specs.Diagram.{Entry, Diagram, next_number, follow_diagram, WellFormed, wired_entry, entry_price, entries_cells, diagram_cells}
use Rattle.diagram.proofs.Entries.{tree_of, follow_tree, diagram_ordered, constant_tree}

-- the node that a selector on input i stands for, told by what its tree means
unfoldable tree_node : ℕ → ℕ → Tree → Node
tree_node n i x = node (n - i) (of_bits (2 ^ suc (n - i)) (λ p. follow n p x))

node_means : (n i r : ℕ) (x : Tree) (t : ℕ) → n - i ≡ r → t < 2 ^ (2 ^ suc r) → Means n (suc r) x t → tree_node n i x ≡ node r t
unfolding tree_node of_bits
node_means n i r x t w lt mx =
    let e : of_bits (2 ^ suc r) (λ p. follow n p x) ≡ of_bits (2 ^ suc r) (bit t) =
    sum_cong (2 ^ suc r) (λ p. follow n p x * 2 ^ p) (λ p. bit t p * 2 ^ p) (λ p l. ap (λ y. y * 2 ^ p) (mx p l)) in
    ap (λ y. node y (of_bits (2 ^ suc y) (λ p. follow n p x))) w ∙ ap (node r) (e ∙ of_bits_bit (2 ^ suc r) t lt)

-- the list has what the selectors of a tree stand for
Held : ℕ → List Node → Tree → Type 0
Held n ks (con b) = Unit {0}
Held n ks (sel i z o) = T (has ks (tree_node n i (sel i z o))) × Held n ks z × Held n ks o

held_later : (n : ℕ) (k : Node) (ks : List Node) (x : Tree) → Held n ks x → Held n (k ∷ ks) x
unfolding Held
held_later n k ks (con b) h = tt
held_later n k ks (sel i z o) h = (has_later k (tree_node n i (sel i z o)) ks h.0, held_later n k ks z h.1, held_later n k ks o h.2)

-- what an entry stands for after those before it, and what all entries do
abbrev stands_for : ℕ → List Entry → Entry → Node
stands_for n before e = tree_node n e.input (sel e.input (tree_of before e.on_zero) (tree_of before e.on_one))

nodes_of : ℕ → List Entry → List Node
nodes_of n [] = []
nodes_of n (e ∷ before) = stands_for n before e ∷ nodes_of n before

tree_held : (n : ℕ) (es : List Entry) (x : ℕ) → Held n (nodes_of n es) (tree_of es x)
unfolding Held nodes_of tree_of
tree_held n [] x = tt
tree_held n (e ∷ es) x =
    let k = stands_for n es e in
    let later : (z : ℕ) → Held n (k ∷ nodes_of n es) (tree_of es z) = λ z. held_later n k (nodes_of n es) (tree_of es z) (tree_held n es z) in
    cond_has (Held n (k ∷ nodes_of n es)) (eqb x (next_number es)) (λ _. (has_head k (nodes_of n es), later e.on_zero, later e.on_one)) (λ _. later x)

-- a list that has what a tree's selectors stand for holds the tree's table
module _ (n : ℕ) (ks : List Node) where
  tree_holds : (r t k : ℕ) (x : Tree) → k + r ≡ n → Ordered n k x → t < 2 ^ (2 ^ r) → Means n r x t → Held n ks x → Holds ks r t
  unfolding Held Holds
  tree_holds zero t k x at ord lt mx hx = tt
  tree_holds (suc r) t k x at ord lt mx hx =
      ⊎_elim
      (λ (h : Past n k r t x).
      let b = tree_holds r (low r t) (suc k) x (omega arith) h.ordered (low_lt r t) h.means hx in
      (λ d. absurd (d h.same), b, subst (Holds ks r) h.same b))
      (λ (h : Tests n k r t x).
      let y = sel (suc k) h.z h.o in
      let hy : Held n ks (sel (suc k) h.z h.o) = rw h.is at hx in
      let my : Means n (suc r) (sel (suc k) h.z h.o) t = rw h.is at mx in (
        λ _. subst (λ j. T (has ks j)) (node_means n (suc k) r y t (omega arith) lt my) hy.0,
        tree_holds r (low r t) (suc k) h.z (omega arith) h.z_ordered (low_lt r t) h.z_means hy.1,
        tree_holds r (high r t) (suc k) h.o (omega arith) h.o_ordered (high_lt r t lt) h.o_means hy.2,
      ))
      (halves n k r at t lt x ord mx)

-- a selector over the constants 0 and 1 means its own input
line_means : (n i : ℕ) → Means n (suc (n - i)) (sel i (con 0) (con 1)) (line (n - i))
unfolding follow
line_means n i p l =
    let r = n - i in
    ⊎_elim
    (λ t.
    let q = p - 2 ^ r in
    let h : 2 ^ r ≤ p = leb→le (2 ^ r) p t in
    let b : q < 2 ^ r = omega arith in
    let e : q + 1 * 2 ^ r ≡ p = omega arith in
    follow_one n p i (con 0) (con 1) (ap (λ x. bit x r) (sym e) ∙ bit_top {x = q} {b = 1} r b (omega arith))
    ∙ sym (full_bit r q b) ∙ ap (λ x. bit x q) (sym (line_high r)) ∙ high_bit r (line r) q ∙ ap (bit (line r)) e)
    (λ u.
    let b : p < 2 ^ r = nleb→lt (2 ^ r) p u in
    follow_zero n p i (con 0) (con 1) (bit_past p r r b (omega arith))
    ∙ sym (zero_bit p) ∙ ap (λ x. bit x p) (sym (line_low r)) ∙ low_bit r (line r) p b)
    (decide (leb (2 ^ r) p))

-- what an entry stands for costs no more than the entry, and so for all of them
price_most : (n : ℕ) (before : List Entry) (e : Entry) → price (stands_for n before e) ≤ entry_price e
unfolding price entry_price wired_entry
price_most n before e =
    let k = stands_for n before e in
    wired_le (wired_table k.after k.table) (wired_entry e)
    (λ w.
    let z : tree_of before e.on_zero ≡ con 0 =
    ap (tree_of before) (eqb→eq e.on_zero 0 (and_left (eqb e.on_zero 0) (eqb e.on_one 1) w)) ∙ constant_tree before 0 (omega arith) in
    let o : tree_of before e.on_one ≡ con 1 =
    ap (tree_of before) (eqb→eq e.on_one 1 (and_right (eqb e.on_zero 0) (eqb e.on_one 1) w)) ∙ constant_tree before 1 (omega arith) in
    let i = e.input in
    let r = n - i in
    let is : k ≡ node r (line r) =
    ap₂ (λ x y. tree_node n i (sel i x y)) z o ∙ node_means n i r (sel i (con 0) (con 1)) (line r) refl (line_lt r) (line_means n i) in
    subst (λ (x : Node). T (wired_table x.after x.table)) (sym is) (line_wired r))

entries_weight : (n : ℕ) (es : List Entry) → weight price (nodes_of n es) ≤ entries_cells es
unfolding weight nodes_of entries_cells
entries_weight n [] = omega arith
entries_weight n (e ∷ es) = omega (arith, price_most n es e, entries_weight n es)

pub least_diagram : (n : ℕ) (d : Diagram) → WellFormed n d → (t : ℕ) → t < 2 ^ (2 ^ n)
    → ((p : ℕ) → p < 2 ^ n → follow_diagram n p d ≡ bit t p) → nodes n t ≤ diagram_cells d
unfolding nodes
least_diagram n d w t lt m =
    let es = d.entries in
    let held = tree_holds n (nodes_of n es) n t 0 (tree_of es d.top) (omega arith) (diagram_ordered n d w) lt
    (λ p l. sym (follow_tree n p es d.top) ∙ m p l)
    (tree_held n es d.top) in
    let all = listing_within (nodes_of n es) n t [] held (λ j h. absurd (has_none j h)) in
    omega (arith, subset_weight price (listing n t []) (nodes_of n es) (listing_once n t) all, entries_weight n es)
