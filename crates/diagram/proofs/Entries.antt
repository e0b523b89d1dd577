-- Laws of entries: a number stands for a tree, which is ordered and followed alike.
use Prim.Native.Nat.{ℕ, suc, ◌+◌, ◌<◌, ◌≤◌}
use mathlib.Core.Path.{◌≡◌, refl, ◌∙◌}
use mathlib.Core.Bool.{cond, not}
use mathlib.Core.List.{List, [], ◌∷◌}
use native.Mathlib.Omega.{arith}
use lib.Dec.{T, T_not, eqb}
use lib.ListN.{length}
use Rattle.base.proofs.Tests.{cond_has, cond_has₂, eq_test, eqb_not}
use Rattle.table.specs.Tree.{Tree, con, sel, Ordered, follow}
use Rattle.table.proofs.Trees.{follow_lt}
use Rattle.diagram.specs.Diagram.{Entry, Diagram, next_number, input_at, follow_entry, follow_diagram, EntriesFit, WellFormed}

-- the tree that number x stands for
unfoldable pub tree_of : List Entry → ℕ → Tree
tree_of [] x = con x
tree_of (e ∷ before) x =
    cond (eqb x (next_number before)) (sel e.input (tree_of before e.on_zero) (tree_of before e.on_one)) (tree_of before x)

pub follow_tree : (n p : ℕ) (es : List Entry) (x : ℕ) → follow_entry n p es x ≡ follow n p (tree_of es x)
unfolding follow_entry tree_of follow
follow_tree n p [] x = refl
follow_tree n p (e ∷ es) x =
    let z = follow_tree n p es e.on_zero in
    let o = follow_tree n p es e.on_one in
    cond_has₂ (λ v y. v ≡ follow n p y) (eqb x (next_number es)) (λ _. cc) (λ _. follow_tree n p es x)

-- a number other than the latest entry's is lower
lower : (x k : ℕ) → x < suc k + 2 → T (not (eqb x (k + 2))) → x < k + 2
lower x k h s = let d : x ≡ k + 2 → ⊥ = λ e. T_not (eqb x (k + 2)) s (eq_test e) in omega arith

input_least : (n : ℕ) (es : List Entry) (x : ℕ) → EntriesFit n es → 0 < input_at n es x
unfolding input_at EntriesFit
input_least n [] x w = omega arith
input_least n (e ∷ es) x w = cond_has (λ i. 0 < i) (eqb x (next_number es)) (λ _. w.0.least) (λ _. input_least n es x w.1)

tree_ordered : (n k : ℕ) (es : List Entry) (x : ℕ) → EntriesFit n es → x < next_number es → k < input_at n es x → Ordered n k (tree_of es x)
unfolding input_at tree_of Ordered EntriesFit
tree_ordered n k [] x w l = λ _. l
tree_ordered n k (e ∷ es) x w l =
    let f = w.0 in
    cond_has₂ (λ i y. k < i → Ordered n k y) (eqb x (next_number es))
    (λ _ h. (
      h,
      f.most,
      tree_ordered n e.input es e.on_zero w.1 f.zero_lower f.zero_above,
      tree_ordered n e.input es e.on_one w.1 f.one_lower f.one_above,
    ))
    (λ s. tree_ordered n k es x w.1 (lower x (length es) l s))

-- a well-formed diagram stands for an ordered tree, and drives bits
pub diagram_ordered : (n : ℕ) (d : Diagram) → WellFormed n d → Ordered n 0 (tree_of d.entries d.top)
diagram_ordered n d w =
    tree_ordered n 0 d.entries d.top w.fit (omega (arith, w.top_there)) (input_least n d.entries d.top w.fit)

pub diagram_drives : (n : ℕ) (d : Diagram) → WellFormed n d → (p : ℕ) → follow_diagram n p d < 2
diagram_drives n d w p = rw (follow_tree n p d.entries d.top) (follow_lt n 0 (tree_of d.entries d.top) p (diagram_ordered n d w))

-- the input of a number whose tree is ordered
pub input_above : (n k : ℕ) (es : List Entry) (x : ℕ) → k ≤ n → Ordered n k (tree_of es x) → k < input_at n es x
unfolding input_at tree_of Ordered
input_above n k [] x l = λ _. omega arith
input_above n k (e ∷ es) x l =
    cond_has₂ (λ i y. Ordered n k y → k < i) (eqb x (next_number es)) (λ _ o. o.0) (λ _. input_above n k es x l)

pub constant_tree : (es : List Entry) (x : ℕ) → x < 2 → tree_of es x ≡ con x
unfolding tree_of
constant_tree [] x l = refl
constant_tree (e ∷ es) x l =
    eqb_not x (next_number es) (sel e.input (tree_of es e.on_zero) (tree_of es e.on_one)) (tree_of es x) (λ d. absurd (omega arith)) ∙ constant_tree es x l
