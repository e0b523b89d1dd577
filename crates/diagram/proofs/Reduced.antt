-- The diagram that the writer makes of a table: it is well formed, stands for the reduced tree, and has an entry for each node, which counts for as much.
use Prim.Native.Nat.{ℕ, zero, suc, ◌+◌, ◌-◌, ◌^◌, ◌<◌, ◌≤◌}
use mathlib.Core.Path.{◌≡◌, refl, sym, ap, ap₂, ◌∙◌}
use mathlib.Core.Logic.{⊎_elim}
use mathlib.Core.Bool.{Bool, true, cond, ◌&&◌}
use mathlib.Core.List.{List, [], ◌∷◌}
use native.Mathlib.Omega.{arith}
use native.Mathlib.Nat.{mod-eq_of_lt, zero-add}
use lib.Dec.{T, T_not, eqb}
use lib.ListN.{length}
use lib.Pow.{pow_pos, pow_mono}
use borrow.Author.Tests.{ne_eqb}
use Rattle.base.proofs.Tests.{cond_has, cond_has₂, cond_has₃, eqb_yes, eqb_not, or_cases}
use Rattle.sheet.specs.Limits.{max_inputs, max_shared_inputs}
use Rattle.table.specs.Bits.{bit}
use Rattle.table.specs.Cells.{low, high, selector_cells}
use Rattle.table.specs.Tree.{Tree, con, sel, follow, is_con, wired_trees, reduced}
use Rattle.table.proofs.Halves.{low_lt, high_lt}
use Rattle.table.proofs.Trees.{reduced_ordered, reduced_follow, wired_reduced}
use Rattle.nodes.specs.Nodes.{Node, node, same, has, listing, price, weight, nodes}
use Rattle.nodes.proofs.Lists.{same_eq, has_head}
use Rattle.nodes.proofs.Listing.{visits, listing_grown}
use Rattle.stage.proofs.TreeTables.{patterns_most}
use Rattle.diagram.specs.Diagram.{input_at, EntriesFit, follow_diagram, WellFormed, wired_entry, entry_price, entries_cells, diagram_cells}
use Rattle.diagram.specs.Bytes.{most_nodes}
use Rattle.diagram.specs.Written.{node_number, number_of, entry_of, entries_of, reduced_diagram}
use Rattle.diagram.proofs.Entries.{tree_of, follow_tree, constant_tree, input_above}

-- a table of r inputs has its number in the list: none is needed for a constant
unfoldable pub numbered : List Node → ℕ → ℕ → Bool
numbered ks zero t = true
numbered ks (suc r) t = let passed = numbered ks r (low r t) in cond (eqb (low r t) (high r t)) passed (has ks (node r t))

numbered_kept : (s o : List Node) → ((k : Node) → T (has s k) → T (has o k)) → (r t : ℕ) → T (numbered s r t) → T (numbered o r t)
unfolding numbered
numbered_kept s o h zero t = λ k. k
numbered_kept s o h (suc r) t =
    cond_has₂ (λ a b. T a → T b) (eqb (low r t) (high r t)) (λ _. numbered_kept s o h r (low r t)) (λ _. h (node r t))

-- the halves of what is listed have their numbers among the earlier ones
pub record Based (n : ℕ) (ks : List Node) (k : Node) : Type 0 where
  pub inside : k.after < n
  pub zero_there : T (numbered ks k.after (low k.after k.table))
  pub one_there : T (numbered ks k.after (high k.after k.table))

unfoldable pub Closed : ℕ → List Node → Type 0
Closed n [] = Unit {0}
Closed n (k ∷ ks) = Based n ks k × Closed n ks

-- a visit lists what it is asked for
asked_has : (r t : ℕ) (o : List Node) → (low r t ≡ high r t → ⊥) → T (has o (node r t)) → T (numbered o (suc r) t)
unfolding numbered
asked_has r t o d h = rw (eqb_not (low r t) (high r t) (numbered o r (low r t)) (has o (node r t)) d) h

asked : (r t : ℕ) (s : List Node) → T (numbered (listing r t s) r t)
unfolding numbered
asked =
    visits (λ r t s o. T (numbered o r t)) (λ t s. tt)
    (λ r t s o e p. rw (eqb_yes (low r t) (high r t) (numbered o r (low r t)) (has o (node r t)) e) p)
    (λ r t s d y. asked_has r t s d y)
    (λ r t s m o d y p q. asked_has r t (node r t ∷ o) d (has_head (node r t) o))

-- and it lists a node after its halves
visit_closed : (n r t : ℕ) (s : List Node) → r ≤ n → Closed n s → Closed n (listing r t s)
unfolding Closed listing
visit_closed n zero t s i c = c
visit_closed n (suc r) t s i c =
    let m = listing r (low r t) s in
    let o = listing r (high r t) m in
    let lower = visit_closed n r (low r t) s (omega arith) c in
    cond_has (Closed n) (eqb (low r t) (high r t)) (λ _. lower)
    (λ _.
    cond_has (Closed n) (has s (node r t)) (λ _. c)
    (λ _. (
      record {
        inside = i;
        zero_there = numbered_kept m o (listing_grown r (high r t) m).kept r (low r t) (asked r (low r t) s);
        one_there = asked r (high r t) m;
      },
      visit_closed n r (high r t) m (omega arith) lower,
    )))

pub listing_closed : (n t : ℕ) → Closed n (listing n t [])
unfolding Closed
listing_closed n t = visit_closed n n t [] (omega arith) tt

-- the tables of the nodes are in range where the whole table is
unfoldable pub InRange : List Node → Type 0
InRange [] = Unit {0}
InRange (k ∷ ks) = (k.table < 2 ^ (2 ^ suc k.after)) × InRange ks

pub listing_in : (n t : ℕ) → t < 2 ^ (2 ^ n) → InRange (listing n t [])
unfolding InRange
listing_in n t l = stays n t [] l tt
  where
    stays : (r t : ℕ) (s : List Node) → t < 2 ^ (2 ^ r) → InRange s → InRange (listing r t s)
    stays =
        visits (λ r t s o. t < 2 ^ (2 ^ r) → InRange s → InRange o) (λ t s l i. i)
        (λ r t s o e p l i. p (low_lt r t) i)
        (λ r t s d y l i. i)
        (λ r t s m o d y p q l i. (l, q (high_lt r t l) (p (low_lt r t) i)))

-- numbers
node_number_lt : (ks : List Node) (k : Node) → node_number ks k < length ks + 2
unfolding node_number
node_number_lt [] k = omega arith
node_number_lt (x ∷ xs) k =
    cond_has (λ y. y < suc (length xs) + 2) (same k x) {x = length xs + 2} {y = node_number xs k} (λ _. omega arith) (λ _. omega (arith, node_number_lt xs k))

number_lt : (ks : List Node) (r t : ℕ) → t < 2 ^ (2 ^ r) → T (numbered ks r t) → number_of ks r t < length ks + 2
unfolding numbered number_of
number_lt ks zero t l = λ _. omega arith
number_lt ks (suc r) t l =
    cond_has₂ (λ a y. T a → y < length ks + 2) (eqb (low r t) (high r t)) (λ _. number_lt ks r (low r t) (low_lt r t)) (λ _ _. node_number_lt ks (node r t))

pub entries_length : (n : ℕ) (ks : List Node) → length (entries_of n ks) ≡ length ks
unfolding entries_of
entries_length n [] = refl
entries_length n (k ∷ ks) = ap suc (entries_length n ks)

-- what an entry stands for: the reduced tree
abbrev selector : ℕ → Node → Tree
selector n k =
    sel (n - k.after) (reduced k.after (n - k.after) (low k.after k.table)) (reduced k.after (n - k.after) (high k.after k.table))

module _ (n : ℕ) (ks : List Node) (placed : (k : Node) → T (has ks k) → tree_of (entries_of n ks) (node_number ks k) ≡ selector n k) where
  number_tree : (r t : ℕ) → r ≤ n → t < 2 ^ (2 ^ r) → T (numbered ks r t) → tree_of (entries_of n ks) (number_of ks r t) ≡ reduced r (n - r) t
  unfolding numbered number_of reduced
  number_tree zero t l b = λ _. constant_tree (entries_of n ks) t (omega arith)
  number_tree (suc r) t l b =
      let e : suc (n - suc r) ≡ n - r = omega arith in
      rw e
      (cond_has₃ (λ a y x. T a → tree_of (entries_of n ks) y ≡ x) (eqb (low r t) (high r t)) (λ _. number_tree r (low r t) (omega arith) (low_lt r t))
      (λ _. placed (node r t)))

placed : (n : ℕ) (ks : List Node) → Closed n ks → InRange ks → (k : Node) → T (has ks k) → tree_of (entries_of n ks) (node_number ks k) ≡ selector n k
unfolding Closed InRange has entries_of node_number tree_of
placed n [] c i k h = absurd h
placed n (x ∷ xs) c i k h =
    let es = entries_of n xs in
    let len = entries_length n xs in
    let b = c.0 in
    let zeros = low x.after x.table in
    let ones = high x.after x.table in
    let own = sel (n - x.after) (tree_of es (number_of xs x.after zeros)) (tree_of es (number_of xs x.after ones)) in
    let child = number_tree n xs (placed n xs c.1 i.1) x.after in
    let inside : x.after ≤ n = omega (arith, b.inside) in
    let z = child zeros inside (low_lt x.after x.table) b.zero_there in
    let o = child ones inside (high_lt x.after x.table i.0) b.one_there in
    cond_has (λ y. cond (eqb y (length es + 2)) own (tree_of es y) ≡ selector n k) (same k x)
    (λ s.
    eqb_yes (length xs + 2) (length es + 2) own (tree_of es (length xs + 2)) (ap (λ y. y + 2) (sym len))
    ∙ ap₂ (sel (n - x.after)) z o ∙ ap (selector n) (sym (same_eq k x s)))
    (λ s.
    eqb_not (node_number xs k) (length es + 2) own (tree_of es (node_number xs k)) (λ e. absurd (omega (arith, node_number_lt xs k)))
    ∙ placed n xs c.1 i.1 k (⊎_elim (λ y. absurd (T_not (same k x) s y)) (λ y. y) (or_cases (same k x) (has xs k) h)))

-- the entries are well formed
entries_fit : (n : ℕ) (ks : List Node) → Closed n ks → InRange ks → EntriesFit n (entries_of n ks)
unfolding Closed InRange EntriesFit entries_of
entries_fit n [] c i = tt
entries_fit n (k ∷ ks) c i =
    let b = c.0 in
    let r = k.after in
    let zeros_in = low_lt r k.table in
    let ones_in_lem = high_lt r k.table i.0 in
    let len = entries_length n ks in
    let above : (t : ℕ) → t < 2 ^ (2 ^ r) → T (numbered ks r t) → n - r < input_at n (entries_of n ks) (number_of ks r t) =
    λ t l h.
    input_above n (n - r) (entries_of n ks) (number_of ks r t) (omega arith)
    (rw (number_tree n ks (placed n ks c.1 i.1) r t (omega (arith, b.inside)) l h) (reduced_ordered n r (n - r) t (omega (arith, b.inside)) l)) in (
      record {
        least = omega (arith, b.inside);
        most = omega arith;
        zero_lower = omega (arith, len, number_lt ks r (low r k.table) zeros_in b.zero_there);
        one_lower = omega (arith, len, number_lt ks r (high r k.table) ones_in_lem b.one_there);
        zero_above = above (low r k.table) zeros_in b.zero_there;
        one_above = above (high r k.table) ones_in_lem b.one_there;
      },
      entries_fit n ks c.1 i.1,
    )

-- a table of n inputs has fewer than 2 ^ n nodes
pub listing_short : (n t : ℕ) → length (listing n t []) < 2 ^ n
listing_short n t = omega (arith, longer n t [])
  where
    longer : (r t : ℕ) (s : List Node) → length (listing r t s) < length s + 2 ^ r
    longer =
        visits (λ r t s o. length o < length s + 2 ^ r) (λ t s. omega arith)
        (λ r t s o e p. omega arith)
        (λ r t s d y. omega (arith, pow_pos (suc r)))
        (λ r t s m o d y p q. omega arith)

pub listing_few : (n t : ℕ) → n ≤ max_shared_inputs → length (listing n t []) ≤ most_nodes
listing_few n t s = omega (arith, listing_short n t, pow_mono {i = n} {j = max_shared_inputs} s)

module _ (n t : ℕ) (lt : t < 2 ^ (2 ^ n)) where
  pub reduced_formed : n ≤ max_inputs → WellFormed n (reduced_diagram n t)
  unfolding reduced_diagram
  reduced_formed s =
      let ks = listing n t [] in
      record {
        few = omega (arith, entries_length n ks, listing_short n t, patterns_most n s);
        fit = entries_fit n ks (listing_closed n t) (listing_in n t lt);
        top_there = omega (arith, entries_length n ks, number_lt ks n t lt (asked n t []));
      }

  -- it stands for the reduced tree
  pub reduced_tree : tree_of (reduced_diagram n t).entries (reduced_diagram n t).top ≡ reduced n 0 t
  unfolding reduced_diagram
  reduced_tree =
      let ks = listing n t [] in
      let z : n - n ≡ 0 = omega arith in
      number_tree n ks (placed n ks (listing_closed n t) (listing_in n t lt)) n t (omega arith) lt (asked n t []) ∙ ap (λ y. reduced n y t) z

  pub reduced_means : (p : ℕ) → p < 2 ^ n → follow_diagram n p (reduced_diagram n t) ≡ bit t p
  reduced_means p l =
      let d = reduced_diagram n t in
      follow_tree n p d.entries d.top ∙ ap (follow n p) reduced_tree ∙ reduced_follow n n 0 t p (zero-add n) lt ∙ ap (bit t) (mod-eq_of_lt l)

-- A table's number tells whether its reduced tree is a constant, and which: no node has the number of a constant.
abbrev Tells : ℕ → Tree → Type 0
Tells x (con b) = x ≡ b
Tells x (sel i z o) = 2 ≤ x

node_number_least : (ks : List Node) (k : Node) → T (has ks k) → 2 ≤ node_number ks k
unfolding has node_number
node_number_least [] k h = absurd h
node_number_least (x ∷ xs) k h =
    cond_has (λ y. 2 ≤ y) (same k x) (λ _. omega arith)
    (λ s. node_number_least xs k (⊎_elim (λ y. absurd (T_not (same k x) s y)) (λ y. y) (or_cases (same k x) (has xs k) h)))

number_tells : (ks : List Node) (r k t : ℕ) → T (numbered ks r t) → Tells (number_of ks r t) (reduced r k t)
unfolding numbered number_of reduced
number_tells ks zero k t = λ _. refl
number_tells ks (suc r) k t =
    cond_has₃ (λ a y x. T a → Tells y x) (eqb (low r t) (high r t)) (λ _. number_tells ks r (suc k) (low r t)) (λ _. node_number_least ks (node r t))

constant_number : (b x : ℕ) (z : Tree) → b < 2 → Tells x z → eqb x b ≡ is_con b z
unfolding is_con
constant_number b x (con a) l e = rw e
constant_number b x (sel i z o) l e = ne_eqb x b (λ q. omega (arith, e))

-- an entry costs what its node does, and so for all of them
price_same : (n : ℕ) (before : List Node) (k : Node) → Based n before k → entry_price (entry_of n before k) ≡ price k
unfolding entry_price price wired_entry wired_trees
price_same n before k b =
    let r = k.after in
    let t = k.table in
    ap selector_cells
    (ap₂ ◌&&◌ (constant_number 0 _ (reduced r 0 (low r t)) (omega arith) (number_tells before r 0 (low r t) b.zero_there))
    (constant_number 1 _ (reduced r 0 (high r t)) (omega arith) (number_tells before r 0 (high r t) b.one_there))
    ∙ wired_reduced r 0 t)

entries_price : (n : ℕ) (ks : List Node) → Closed n ks → entries_cells (entries_of n ks) ≡ weight price ks
unfolding Closed entries_cells entries_of weight
entries_price n [] c = refl
entries_price n (k ∷ ks) c = ap₂ ◌+◌ (price_same n ks k c.0) (entries_price n ks c.1)

pub reduced_cells : (n t : ℕ) → diagram_cells (reduced_diagram n t) ≡ nodes n t
unfolding reduced_diagram nodes
reduced_cells n t = entries_price n (listing n t []) (listing_closed n t)
