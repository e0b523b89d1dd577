-- Laws of the listing: what it is for small tables; it keeps what it had, lists what it is asked for, and nothing twice.
use Prim.Native.Nat.{ℕ, zero, suc, ◌≤◌}
use mathlib.Core.Path.{◌≡◌, refl, ap}
use mathlib.Core.Logic.{⊎_elim}
use mathlib.Core.Bool.{not}
use mathlib.Core.List.{List, [], ◌∷◌}
use native.Mathlib.Omega.{arith}
use lib.Dec.{T, T_not, not_T, eqb, eqb→eq}
use lib.ListN.{length}
use Rattle.base.proofs.Tests.{cond_has, eq_test}
use Rattle.table.specs.Cells.{low, high, full, wired_table, selector_cells}
use Rattle.table.proofs.Wired.{selector_most}
use Rattle.nodes.specs.Nodes.{Node, node, same, has, listing, price, weight, nodes}
use Rattle.nodes.specs.Subfunctions.{Distinct}
use Rattle.nodes.proofs.Lists.{has_later, has_cases}

-- Worked rows, computed from the meanings.
unfoldable pub counting : ℕ
unfolding low high full wired_table selector_cells same has listing price weight nodes
counting = 0

-- the majority of three inputs: input 3; it and input 2; it or input 2; and the choice between these by input 1. The latest stands first
pub majority_listed : listing 3 0xE8 [] ≡ node 2 0xE8 ∷ node 1 0xE ∷ node 1 0x8 ∷ node 0 0x2 ∷ []
unfolding counting
majority_listed = refl

-- it counts for three, since input 3 itself is free
pub majority_nodes : nodes 3 0xE8 ≡ 3
unfolding counting
majority_nodes = refl

-- the parity of three inputs counts for four, its five nodes but for input 3 itself, and that of four inputs likewise for six of seven; input 2 of three
-- counts for none, its inverse for one, and a constant for none
pub parity_nodes : nodes 3 0x96 ≡ 4
unfolding counting
parity_nodes = refl

pub parity_four_nodes : nodes 4 0x6996 ≡ 6
unfolding counting
parity_four_nodes = refl

pub input_nodes : nodes 3 0xCC ≡ 0
unfolding counting
input_nodes = refl

pub inverse_nodes : nodes 3 0x33 ≡ 1
unfolding counting
inverse_nodes = refl

pub constant_nodes : nodes 4 0xFFFF ≡ 0
unfolding counting
constant_nodes = refl

-- what holds of every visit: by the four ways that a visit can go
module _
    (P : ℕ → ℕ → List Node → List Node → Type 0)
    (constant : (t : ℕ) (s : List Node) → P zero t s s)
    (passed : (r t : ℕ) (s o : List Node) → low r t ≡ high r t → P r (low r t) s o → P (suc r) t s o)
    (old : (r t : ℕ) (s : List Node) → (low r t ≡ high r t → ⊥) → T (has s (node r t)) → P (suc r) t s s)
    (new : (r t : ℕ) (s m o : List Node) → (low r t ≡ high r t → ⊥) → T (not (has s (node r t))) → P r (low r t) s m → P r (high r t) m o
    → P (suc r) t s (node r t ∷ o)) where
  pub visits : (r t : ℕ) (s : List Node) → P r t s (listing r t s)
  unfolding listing
  visits zero t s = constant t s
  visits (suc r) t s =
      let l = visits r (low r t) s in
      let h = visits r (high r t) (listing r (low r t) s) in
      cond_has (P (suc r) t s) (eqb (low r t) (high r t))
      (λ e. passed r t s (listing r (low r t) s) (eqb→eq (low r t) (high r t) e) l)
      (λ e.
      let d : low r t ≡ high r t → ⊥ = λ q. T_not (eqb (low r t) (high r t)) e (eq_test q) in
      cond_has (P (suc r) t s) (has s (node r t)) (λ y. old r t s d y)
      (λ y. new r t s (listing r (low r t) s) (listing r (high r t) (listing r (low r t) s)) d y l h))

-- A visit to a table of r inputs keeps what was listed, adds only what has fewer than r inputs after, and lists nothing twice.
pub record Grown (r : ℕ) (s o : List Node) : Type 0 where
  pub kept : (k : Node) → T (has s k) → T (has o k)
  pub fresh : (k : Node) → r ≤ k.after → T (has o k) → T (has s k)
  pub distinct : Distinct s → Distinct o

grown_same : (r : ℕ) (s : List Node) → Grown r s s
grown_same r s = record { kept = λ k h. h; fresh = λ k l h. h; distinct = λ d. d }

grown_passed : (r : ℕ) (s o : List Node) → Grown r s o → Grown (suc r) s o
grown_passed r s o p = record { kept = p.kept; fresh = λ k l h. p.fresh k (omega arith) h; distinct = p.distinct }

grown_new : (r t : ℕ) (s m o : List Node) → T (not (has s (node r t))) → Grown r s m → Grown r m o → Grown (suc r) s (node r t ∷ o)
unfolding Distinct
grown_new r t s m o y p q = record {
  kept = λ k h. has_later (node r t) k o (q.kept k (p.kept k h));
  fresh = λ k l h.
      ⊎_elim (λ (e : k ≡ node r t). let w : k.after ≡ r = ap (λ z. z.after) e in absurd (omega arith))
      (λ g. p.fresh k (omega arith) (q.fresh k (omega arith) g)) (has_cases (node r t) k o h);
  distinct = λ d. (
    not_T (has o (node r t)) (λ g. T_not (has s (node r t)) y (p.fresh (node r t) (omega arith) (q.fresh (node r t) (omega arith) g))),
    q.distinct (p.distinct d),
  );
}

pub listing_grown : (r t : ℕ) (s : List Node) → Grown r s (listing r t s)
listing_grown =
    visits (λ r t s o. Grown r s o) (λ t s. grown_same zero s)
    (λ r t s o e p. grown_passed r s o p)
    (λ r t s d y. grown_same (suc r) s) (λ r t s m o d y p q. grown_new r t s m o y p q)

-- what is listed for a table, each once
pub listing_once : (n t : ℕ) → Distinct (listing n t [])
unfolding Distinct
listing_once n t = (listing_grown n t []).distinct tt

-- no list counts for more than its nodes, so a table has no more cells than what is written of it has selectors
pub weight_few : (ks : List Node) → weight price ks ≤ length ks
unfolding weight price
weight_few [] = omega arith
weight_few (k ∷ ks) = omega (arith, selector_most (wired_table k.after k.table), weight_few ks)

pub nodes_listed : (n t : ℕ) → nodes n t ≤ length (listing n t [])
unfolding nodes
nodes_listed n t = weight_few (listing n t [])
