-- Laws of lists of nodes: one with no repeats counts for no more than one that has all that it has.
use Prim.Native.Nat.{ℕ, ◌+◌, ◌≤◌}
use mathlib.Core.Path.{◌≡◌, sym, ap, ap₂, subst, ◌∙◌}
use mathlib.Core.Logic.{◌⊎◌, inl, inr, ⊎_elim}
use mathlib.Core.Bool.{cond}
use mathlib.Core.List.{List, [], ◌∷◌}
use native.Mathlib.Omega.{arith}
use lib.Dec.{T, T_not, eqb, eqb→eq, eqb_refl}
use Rattle.base.proofs.Tests.{cond_has, and_intro, and_left, and_right, or_left, or_right, or_cases}
use Rattle.nodes.specs.Nodes.{Node, node, same, has, weight}
use Rattle.nodes.specs.Subfunctions.{Distinct}

pub same_eq : (a b : Node) → T (same a b) → a ≡ b
unfolding same
same_eq a b t =
    let l = eqb→eq a.after b.after (and_left (eqb a.after b.after) (eqb a.table b.table) t) in
    let r = eqb→eq a.table b.table (and_right (eqb a.after b.after) (eqb a.table b.table) t) in
    ap₂ node l r

pub same_self : (a : Node) → T (same a a)
unfolding same
same_self a = and_intro (eqb a.after a.after) (eqb a.table a.table) (eqb_refl a.after) (eqb_refl a.table)

pub has_none : (k : Node) → T (has [] k) → ⊥
unfolding has
has_none k h = h

pub has_head : (k : Node) (xs : List Node) → T (has (k ∷ xs) k)
unfolding has
has_head k xs = or_left (same k k) (has xs k) (same_self k)

pub has_later : (x k : Node) (xs : List Node) → T (has xs k) → T (has (x ∷ xs) k)
unfolding has
has_later x k xs h = or_right (same k x) (has xs k) h

pub has_cases : (x k : Node) (xs : List Node) → T (has (x ∷ xs) k) → (k ≡ x) ⊎ T (has xs k)
unfolding has
has_cases x k xs h = ⊎_elim (λ s. inl (same_eq k x s)) (λ r. inr r) (or_cases (same k x) (has xs k) h)

-- a list without the first that is k
remove : Node → List Node → List Node
remove k [] = []
remove k (x ∷ xs) = cond (same k x) xs (x ∷ remove k xs)

remove_weight : (price : Node → ℕ) (k : Node) (xs : List Node) → T (has xs k) → price k + weight price (remove k xs) ≤ weight price xs
unfolding has remove weight
remove_weight price k [] h = absurd h
remove_weight price k (x ∷ xs) h =
    cond_has (λ ys. price k + weight price ys ≤ price x + weight price xs) (same k x) {x = xs} {y = x ∷ remove k xs}
    (λ s. let e : price k ≡ price x = ap price (same_eq k x s) in omega arith)
    (λ s. omega (arith, remove_weight price k xs (⊎_elim (λ t. absurd (T_not (same k x) s t)) (λ r. r) (or_cases (same k x) (has xs k) h))))

remove_keeps : (k j : Node) (xs : List Node) → (j ≡ k → ⊥) → T (has xs j) → T (has (remove k xs) j)
unfolding remove
remove_keeps k j [] d h = h
remove_keeps k j (x ∷ xs) d h =
    let c = has_cases x j xs h in
    cond_has (λ ys. T (has ys j)) (same k x)
    (λ s. ⊎_elim (λ e. absurd (d (e ∙ sym (same_eq k x s)))) (λ r. r) c)
    (λ _. ⊎_elim (λ e. subst (λ y. T (has (y ∷ remove k xs) j)) e (has_head j (remove k xs))) (λ r. has_later x j (remove k xs) (remove_keeps k j xs d r)) c)

pub subset_weight : (price : Node → ℕ) (ks xs : List Node) → Distinct ks → ((k : Node) → T (has ks k) → T (has xs k)) → weight price ks ≤ weight price xs
unfolding Distinct weight
subset_weight price [] xs d h = omega arith
subset_weight price (k ∷ ks) xs d h =
    let rest = subset_weight price ks (remove k xs) d.1
    (λ j t. remove_keeps k j xs (λ e. T_not (has ks k) d.0 (subst (λ y. T (has ks y)) e t)) (h j (has_later k j ks t))) in
    omega (arith, rest, remove_weight price k xs (h k (has_head k ks)))
