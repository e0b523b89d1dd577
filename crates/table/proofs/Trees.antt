-- Laws of trees: the cells of a table are a lower bound for every ordered tree that computes it, and the reduced tree reaches it.
use Prim.Native.Nat.{ℕ, zero, suc, ◌+◌, ◌*◌, ◌^◌, ◌%◌, ◌-◌, ◌<◌, ◌≤◌}
use mathlib.Core.Path.{◌≡◌, refl, sym, ap, ap₂, ◌∙◌}
use mathlib.Core.Logic.{◌⊎◌, inl, inr, ⊎_elim}
use native.Mathlib.Omega.{arith}
use native.Mathlib.Nat.{mod-lt, eq-or-lt_of_le, mod-one}
use lib.Dec.{T, T_not, eqb, eqb→eq}
use lib.Pow.{pow_pos, mod-pow-add}
use Rattle.base.proofs.Tests.{cond_has, cond_has₂, and_intro, and_left, and_right, test_ext, eq_test, eqb_yes, eqb_not}
use Rattle.table.specs.Bits.{bit}
use Rattle.table.specs.Cells.{low, high, full, wired_table, selector_cells, cells}
use Rattle.table.specs.Tree.{Tree, con, sel, Ordered, follow, selectors, is_con, wired_trees, tree_cells, reduced}
use Rattle.table.proofs.Bits.{bit_low, bit_top, bit_ext, bit_cases, bit_zero, zero_bit}
use Rattle.table.proofs.Halves.{low_lt, high_lt, low_bit, high_bit, join, join_low, join_high, join_halves}
use Rattle.table.proofs.Wired.{full_lt, full_bit, full_twice, wired_halves, halves_wired, selector_most, wired_le}
use Rattle.table.proofs.Cells.{cells_same, cells_most}

-- Worked rows, computed from the meanings (document 02, E4): the straight line is no cell, the inverted one is, and a larger tree that is worth 0 leaves its
-- selector a cell.
pub straight_free : tree_cells (sel 1 (con 0) (con 1)) ≡ 0
unfolding tree_cells is_con wired_trees selector_cells
straight_free = refl

pub inverted_counted : tree_cells (sel 1 (con 1) (con 0)) ≡ 1
unfolding tree_cells is_con wired_trees selector_cells
inverted_counted = refl

pub larger_counted : tree_cells (sel 1 (sel 2 (con 0) (con 0)) (con 1)) ≡ 2
unfolding tree_cells is_con wired_trees selector_cells
larger_counted = refl

-- the two arms of a selector
pub follow_zero : (n p i : ℕ) (z o : Tree) → bit p (n - i) ≡ 0 → follow n p (sel i z o) ≡ follow n p z
unfolding follow
follow_zero n p i z o e = eqb_yes (bit p (n - i)) 0 (follow n p z) (follow n p o) e

pub follow_one : (n p i : ℕ) (z o : Tree) → bit p (n - i) ≡ 1 → follow n p (sel i z o) ≡ follow n p o
unfolding follow
follow_one n p i z o e = eqb_not (bit p (n - i)) 0 (follow n p z) (follow n p o) (λ d. omega arith)

-- a tree whose inputs are above k sees only the bits below n - k
pub follow_low : (n k : ℕ) (x : Tree) (p q : ℕ) → Ordered n k x → ((i : ℕ) → i + k < n → bit p i ≡ bit q i) → follow n p x ≡ follow n q x
unfolding follow Ordered
follow_low n k (con c) p q o h = refl
follow_low n k (sel i z e) p q o h =
    let h' : (j : ℕ) → j + i < n → bit p j ≡ bit q j = λ j l. h j (omega (arith, o.0)) in
    cc (h (n - i) (omega (arith, o.0, o.1)), follow_low n i z p q o.2 h', follow_low n i e p q o.3 h')

pub follow_lt : (n k : ℕ) (x : Tree) (p : ℕ) → Ordered n k x → follow n p x < 2
unfolding follow Ordered
follow_lt n k (con c) p o = o
follow_lt n k (sel i z e) p o =
    cond_has (λ y. y < 2) (eqb (bit p (n - i)) 0) (λ _. follow_lt n i z p o.2) (λ _. follow_lt n i e p o.3)

-- the tree's value is the table's bit on each pattern of the last r inputs
abbrev pub Means : ℕ → ℕ → Tree → ℕ → Type 0
Means n r x t = (p : ℕ) → p < 2 ^ r → follow n p x ≡ bit t p

module _ (n k r : ℕ) (at : k + suc r ≡ n) (x : Tree) (t : ℕ) (lt : t < 2 ^ (2 ^ suc r)) where
  up : (p i : ℕ) → i + suc k < n → bit (p + 1 * 2 ^ r) i ≡ bit p i
  up p i h = bit_low p 1 (omega arith)

  means_low : Means n (suc r) x t → (y : Tree) → ((p : ℕ) → p < 2 ^ r → follow n p x ≡ follow n p y) → Means n r y (low r t)
  means_low mx y e p l = sym (e p l) ∙ mx p (omega arith) ∙ sym (low_bit r t p l)

  means_high : Means n (suc r) x t → (y : Tree) → Ordered n (suc k) y
      → ((p : ℕ) → p < 2 ^ r → follow n (p + 1 * 2 ^ r) x ≡ follow n (p + 1 * 2 ^ r) y) → Means n r y (high r t)
  means_high mx y o e p l =
      follow_low n (suc k) y p (p + 1 * 2 ^ r) o (λ i h. sym (up p i h)) ∙ sym (e p l) ∙ mx (p + 1 * 2 ^ r) (omega arith) ∙ sym (high_bit r t p)

  -- the first input is not tested: the halves are equal
  same_halves : Ordered n (suc k) x → Means n (suc r) x t → low r t ≡ high r t
  same_halves o mx =
      bit_ext (2 ^ r) (low r t) (high r t) (low_lt r t) (high_lt r t lt)
      (λ p l. sym (means_low mx x (λ _ _. refl) p l) ∙ means_high mx x o (λ _ _. refl) p l)

-- A tree by its first input, k + 1: it passes the input over, and then the halves are equal, or it tests it, and its branches mean the halves.
pub record Past (n k r t : ℕ) (x : Tree) : Type 0 where
  pub ordered : Ordered n (suc k) x
  pub same : low r t ≡ high r t
  pub means : Means n r x (low r t)

pub record Tests (n k r t : ℕ) (x : Tree) : Type 0 where
  pub z : Tree
  pub o : Tree
  pub is : x ≡ sel (suc k) z o
  pub z_ordered : Ordered n (suc k) z
  pub o_ordered : Ordered n (suc k) o
  pub z_means : Means n r z (low r t)
  pub o_means : Means n r o (high r t)

module _ (n k r : ℕ) (at : k + suc r ≡ n) (t : ℕ) (lt : t < 2 ^ (2 ^ suc r)) where
  past : (x : Tree) → Ordered n (suc k) x → Means n (suc r) x t → Past n k r t x
  past x o mx = record { ordered = o; same = same_halves n k r at x t lt o mx; means = means_low n k r at x t lt mx x (λ _ _. refl) }

  tests : (i : ℕ) (z e : Tree) → suc k ≡ i → Ordered n i z → Ordered n i e → Means n (suc r) (sel i z e) t → Tests n k r t (sel i z e)
  tests i z e d oz oe mx =
      let w : n - i ≡ r = omega arith in
      let oe' : Ordered n (suc k) e = rw d oe in
      record {
        z = z;
        o = e;
        is = ap (λ y. sel y z e) (sym d);
        z_ordered = rw d oz;
        o_ordered = oe';
        z_means = means_low n k r at (sel i z e) t lt mx z
            (λ p l. follow_zero n p i z e (rw w (ap (λ y. bit y r) (omega arith) ∙ bit_top {x = p} {b = 0} r l (omega arith))));
        o_means = means_high n k r at (sel i z e) t lt mx e oe'
            (λ p l. follow_one n (p + 1 * 2 ^ r) i z e (rw w (bit_top {x = p} {b = 1} r l (omega arith))));
      }

  pub halves : (x : Tree) → Ordered n k x → Means n (suc r) x t → Past n k r t x ⊎ Tests n k r t x
  unfolding Ordered
  halves (con c) o mx = inl (past (con c) o mx)
  halves (sel i z e) o mx =
      ⊎_elim (λ d. inr (tests i z e d o.2 o.3 mx)) (λ h. inl (past (sel i z e) (h, o.1, o.2, o.3) mx)) (eq-or-lt_of_le o.0)

-- a selector that is soldered through has the constants 0 and 1 for its trees
con_is : (b : ℕ) (x : Tree) → T (is_con b x) → x ≡ con b
unfolding is_con
con_is b (con a) h = ap con (eqb→eq a b h)
con_is b (sel i z o) h = absurd h

wired_constants : (z o : Tree) → T (wired_trees z o) → (z ≡ con 0) × (o ≡ con 1)
unfolding wired_trees
wired_constants z o w = (con_is 0 z (and_left (is_con 0 z) (is_con 1 o) w), con_is 1 o (and_right (is_con 0 z) (is_con 1 o) w))

-- trees of which the selector is soldered through mean the halves of the table that is soldered through
means_wired : (n r t : ℕ) (z o : Tree) → t < 2 ^ (2 ^ suc r) → Means n r z (low r t) → Means n r o (high r t) → T (wired_trees z o) → T (wired_table r t)
unfolding follow
means_wired n r t z o lt mz mo w =
    let c = wired_constants z o w in
    halves_wired r t
    (bit_ext (2 ^ r) (low r t) 0 (low_lt r t) (pow_pos (2 ^ r)) (λ p l. sym (mz p l) ∙ ap (follow n p) c.0 ∙ sym (zero_bit p)))
    (bit_ext (2 ^ r) (high r t) (full r) (high_lt r t lt) (full_lt r) (λ p l. sym (mo p l) ∙ ap (follow n p) c.1 ∙ sym (full_bit r p l)))

-- an ordered tree that computes a table has at least its cells
pub least_tree : (n r k : ℕ) → k + r ≡ n → (x : Tree) → Ordered n k x → (t : ℕ) → t < 2 ^ (2 ^ r) → Means n r x t → cells r t ≤ tree_cells x
unfolding cells tree_cells
least_tree n zero k at x o t lt mx = omega arith
least_tree n (suc r) k at x o t lt mx =
    ⊎_elim
    (λ (h : Past n k r t x). rw (cells_same r t h.same) (least_tree n r (suc k) (omega arith) x h.ordered (low r t) (low_lt r t) h.means))
    (λ (h : Tests n k r t x).
    rw h.is
    (omega (
      arith,
      cells_most r t,
      wired_le (wired_table r t) (wired_trees h.z h.o) (means_wired n r t h.z h.o lt h.z_means h.o_means),
      least_tree n r (suc k) (omega arith) h.z h.z_ordered (low r t) (low_lt r t) h.z_means,
      least_tree n r (suc k) (omega arith) h.o h.o_ordered (high r t) (high_lt r t lt) h.o_means,
    )))
    (halves n k r at t lt x o mx)

-- The reduced tree of a constant is that constant, and no other table has it. The constants of each width: c r, which is c of one input fewer twice.
module _ (b : ℕ) (c : ℕ → ℕ) (first : c 0 ≡ b) (inside : (r : ℕ) → c r < 2 ^ (2 ^ r)) (twice : (r : ℕ) → c (suc r) ≡ join r (c r) (c r)) where
  constant_reduced : (r k : ℕ) → T (is_con b (reduced r k (c r)))
  unfolding reduced is_con
  constant_reduced zero k = eq_test first
  constant_reduced (suc r) k =
      let l : low r (c (suc r)) ≡ c r = ap (low r) (twice r) ∙ join_low r (c r) (c r) (inside r) (inside r) in
      let h : high r (c (suc r)) ≡ c r = ap (high r) (twice r) ∙ join_high r (c r) (c r) (inside r) (inside r) in
      cond_has (λ x. T (is_con b x)) (eqb (low r (c (suc r))) (high r (c (suc r)))) (λ _. rw l (constant_reduced r (suc k)))
      (λ n. absurd (T_not (eqb (low r (c (suc r))) (high r (c (suc r)))) n (eq_test (l ∙ sym h))))

  reduced_constant : (r k t : ℕ) → T (is_con b (reduced r k t)) → t ≡ c r
  unfolding reduced is_con
  reduced_constant zero k t = λ e. eqb→eq t b e ∙ sym first
  reduced_constant (suc r) k t =
      cond_has (λ x. T (is_con b x) → t ≡ c (suc r)) (eqb (low r t) (high r t))
      (λ e i.
      let l = reduced_constant r (suc k) (low r t) i in
      join_halves r t ∙ ap₂ (join r) (sym (eqb→eq (low r t) (high r t) e) ∙ l) l ∙ sym (twice r))
      (λ _ i. absurd i)

zero_twice : (r : ℕ) → 0 ≡ join r 0 0
unfolding join
zero_twice r = omega arith

full_first : full 0 ≡ 1
unfolding full
full_first = refl

-- so the selector over two reduced trees is soldered through where their table is
pub wired_reduced : (r k t : ℕ) → wired_trees (reduced r k (low r t)) (reduced r k (high r t)) ≡ wired_table r t
unfolding wired_trees
wired_reduced r k t =
    let z = reduced r k (low r t) in
    let o = reduced r k (high r t) in
    let none : ℕ → ℕ = λ _. 0 in
    test_ext (wired_trees z o) (wired_table r t)
    (λ w.
    halves_wired r t (reduced_constant 0 none refl (λ r. pow_pos (2 ^ r)) zero_twice r k (low r t) (and_left (is_con 0 z) (is_con 1 o) w))
    (reduced_constant 1 full full_first full_lt full_twice r k (high r t) (and_right (is_con 0 z) (is_con 1 o) w)))
    (λ w.
    let h = wired_halves r t w in
    and_intro (is_con 0 z) (is_con 1 o) (rw h.0 (constant_reduced 0 none refl (λ r. pow_pos (2 ^ r)) zero_twice r k)) (rw h.1 (constant_reduced 1 full full_first full_lt full_twice r k)))

-- the reduced tree has as many cells as its table
pub reduced_cells : (r k t : ℕ) → tree_cells (reduced r k t) ≡ cells r t
unfolding reduced cells tree_cells
reduced_cells zero k t = refl
reduced_cells (suc r) k t =
    let a = reduced_cells r (suc k) (low r t) in
    let b = reduced_cells r (suc k) (high r t) in
    let w = ap selector_cells (wired_reduced r (suc k) t) in
    cond_has₂ (λ x c. tree_cells x ≡ c) (eqb (low r t) (high r t)) (λ _. a) (λ _. omega arith)

-- no tree has more cells than selectors, so a table has no more cells than the tree that is written of it has selectors
pub tree_cells_most : (x : Tree) → tree_cells x ≤ selectors x
unfolding tree_cells selectors
tree_cells_most (con b) = omega arith
tree_cells_most (sel i z o) = omega (arith, selector_most (wired_trees z o), tree_cells_most z, tree_cells_most o)

pub cells_selectors : (r k t : ℕ) → cells r t ≤ selectors (reduced r k t)
cells_selectors r k t = omega (arith, reduced_cells r k t, tree_cells_most (reduced r k t))

ordered_lower : (n k : ℕ) (x : Tree) → Ordered n (suc k) x → Ordered n k x
unfolding Ordered
ordered_lower n k (con c) o = o
ordered_lower n k (sel i z e) o = (omega (arith, o.0), o.1, o.2, o.3)

pub reduced_ordered : (n r k t : ℕ) → k + r ≡ n → t < 2 ^ (2 ^ r) → Ordered n k (reduced r k t)
unfolding reduced Ordered
reduced_ordered n zero k t e h = omega arith
reduced_ordered n (suc r) k t e h =
    let a = reduced_ordered n r (suc k) (low r t) (omega arith) (low_lt r t) in
    cond_has (Ordered n k) (eqb (low r t) (high r t)) (λ _. ordered_lower n k (reduced r (suc k) (low r t)) a)
    (λ _. (omega arith, omega arith, a, reduced_ordered n r (suc k) (high r t) (omega arith) (high_lt r t h)))

-- a pattern by its highest bit
top : (r p : ℕ) → p % 2 ^ suc r ≡ bit p r * 2 ^ r + p % 2 ^ r
unfolding bit
top r p = let e : suc r ≡ 1 + r = omega arith in ap (λ y. p % 2 ^ y) e ∙ mod-pow-add p 1 r

top_zero : (r p : ℕ) → bit p r ≡ 0 → p % 2 ^ suc r ≡ p % 2 ^ r
top_zero r p e = omega (arith, top r p, ap (λ y. y * 2 ^ r) e)

top_one : (r p : ℕ) → bit p r ≡ 1 → p % 2 ^ suc r ≡ p % 2 ^ r + 1 * 2 ^ r
top_one r p e = omega (arith, top r p, ap (λ y. y * 2 ^ r) e)

pub reduced_follow : (n r k t p : ℕ) → k + r ≡ n → t < 2 ^ (2 ^ r) → follow n p (reduced r k t) ≡ bit t (p % 2 ^ r)
unfolding reduced follow
reduced_follow n zero k t p e h = sym (bit_zero t (omega arith)) ∙ ap (bit t) (sym (mod-one p))
reduced_follow n (suc r) k t p e h =
    let w : n - suc k ≡ r = omega arith in
    let l = reduced_follow n r (suc k) (low r t) p (omega arith) (low_lt r t) in
    let u = reduced_follow n r (suc k) (high r t) p (omega arith) (high_lt r t h) in
    let z : bit p r ≡ 0 → bit (low r t) (p % 2 ^ r) ≡ bit t (p % 2 ^ suc r) =
    λ d. low_bit r t (p % 2 ^ r) (mod-lt p (pow_pos r)) ∙ ap (bit t) (sym (top_zero r p d)) in
    let o : bit p r ≡ 1 → bit (high r t) (p % 2 ^ r) ≡ bit t (p % 2 ^ suc r) =
    λ d. high_bit r t (p % 2 ^ r) ∙ ap (bit t) (sym (top_one r p d)) in
    cond_has (λ x. follow n p x ≡ bit t (p % 2 ^ suc r)) (eqb (low r t) (high r t))
    (λ s. l ∙ ⊎_elim z (λ d. ap (λ y. bit y (p % 2 ^ r)) (eqb→eq (low r t) (high r t) s) ∙ o d) (bit_cases p r))
    (λ s.
    ⊎_elim
    (λ d. follow_zero n p (suc k) (reduced r (suc k) (low r t)) (reduced r (suc k) (high r t)) (rw w d) ∙ l ∙ z d)
    (λ d. follow_one n p (suc k) (reduced r (suc k) (low r t)) (reduced r (suc k) (high r t)) (rw w d) ∙ u ∙ o d)
    (bit_cases p r))
