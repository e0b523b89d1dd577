-- Lists of nodes told by level: of those that test one input, each that a test picks out.
use Prim.Native.Nat.{ℕ, zero, suc, ◌+◌, ◌<◌}
use mathlib.Core.Path.{◌≡◌, sym, ap, subst}
use mathlib.Core.Logic.{◌⊎◌, inl, inr, ⊎_elim}
use mathlib.Core.Bool.{Bool, cond}
use mathlib.Core.List.{List, ◌∷◌}
use native.Mathlib.Omega.{arith}
use native.Mathlib.Nat.{not-suc-le-zero}
use lib.Dec.{T, T_not, not_T}
use Rattle.base.proofs.Tests.{cond_has, cond_has₂, below_suc}
use Rattle.table.specs.Bits.{sum}
use Rattle.nodes.specs.Nodes.{Node, node, has, weight}
use Rattle.nodes.specs.Subfunctions.{Distinct}
use Rattle.nodes.proofs.Lists.{has_head, has_later, has_cases}
use Rattle.nodes.proofs.Held.{Within}

-- before `rest`: of the nodes of the tables f 0, .., f (k - 1), with r inputs after, those that are picked out
module _ (r : ℕ) (own : ℕ → Bool) (f : ℕ → ℕ) (rest : List Node) where
  unfoldable pub gathered : ℕ → List Node
  gathered zero = rest
  gathered (suc k) = let ks = gathered k in cond (own k) (node r (f k) ∷ ks) ks

  pub gathered_weight : (cost : Node → ℕ) (k : ℕ)
      → weight cost (gathered k) ≡ sum k (λ i. cond (own i) (cost (node r (f i))) 0) + weight cost rest
  unfolding gathered weight sum
  gathered_weight cost zero = omega arith
  gathered_weight cost (suc k) =
      let e = gathered_weight cost k in
      cond_has₂ (λ ks x. weight cost ks ≡ sum k (λ i. cond (own i) (cost (node r (f i))) 0) + x + weight cost rest) (own k)
      {x = node r (f k) ∷ gathered k} {y = gathered k} {u = cost (node r (f k))} {v = 0} (λ _. omega arith) (λ _. omega arith)

  pub gathered_rest : (k : ℕ) → Within rest (gathered k)
  unfolding gathered
  gathered_rest zero x h = h
  gathered_rest (suc k) x h =
      cond_has (λ ks. T (has ks x)) (own k) (λ _. has_later (node r (f k)) x (gathered k) (gathered_rest k x h)) (λ _. gathered_rest k x h)

  pub gathered_has : (k i : ℕ) → i < k → T (own i) → T (has (gathered k) (node r (f i)))
  unfolding gathered
  gathered_has zero i l o = absurd (not-suc-le-zero l)
  gathered_has (suc k) i l o =
      ⊎_elim
      (λ (e : i ≡ k).
      let h : T (own k) = subst (λ j. T (own j)) e o in
      subst (λ j. T (has (cond (own k) (node r (f k) ∷ gathered k) (gathered k)) (node r (f j)))) (sym e)
      (cond_has (λ ks. T (has ks (node r (f k)))) (own k) (λ _. has_head (node r (f k)) (gathered k)) (λ n. absurd (T_not (own k) n h))))
      (λ b.
      let h = gathered_has k i b o in
      cond_has (λ ks. T (has ks (node r (f i)))) (own k) (λ _. has_later (node r (f k)) (node r (f i)) (gathered k) h) (λ _. h))
      (below_suc l)

  -- a node that stands there, or stood before
  Picked : ℕ → Node → Type 0
  Picked k x = (i : ℕ) × (i < k) × T (own i) × (x ≡ node r (f i))

  gathered_cases : (k : ℕ) (x : Node) → T (has (gathered k) x) → T (has rest x) ⊎ Picked k x
  unfolding gathered Picked
  gathered_cases zero x = λ h. inl h
  gathered_cases (suc k) x =
      let later : T (has rest x) ⊎ Picked k x → T (has rest x) ⊎ Picked (suc k) x =
      λ s. ⊎_elim (λ y. inl y) (λ (y : Picked k x). inr (y.0, omega (arith, y.1), y.2, y.3)) s in
      cond_has (λ ks. T (has ks x) → T (has rest x) ⊎ Picked (suc k) x) (own k)
      (λ o h. ⊎_elim (λ (e : x ≡ node r (f k)). inr (k, omega arith, o, e)) (λ g. later (gathered_cases k x g)) (has_cases (node r (f k)) x (gathered k) h))
      (λ _ h. later (gathered_cases k x h))

  pub gathered_within : (k : ℕ) (ks : List Node) → ((i : ℕ) → i < k → T (own i) → T (has ks (node r (f i)))) → Within rest ks → Within (gathered k) ks
  unfolding Picked
  gathered_within k ks h w x g =
      ⊎_elim (w x) (λ (p : Picked k x). subst (λ y. T (has ks y)) (sym p.3) (h p.0 p.1 p.2)) (gathered_cases k x g)

  -- nothing stands twice where the tables that are picked out differ and the rest has fewer inputs after
  module _ (below : (x : Node) → T (has rest x) → x.after < r) where
    pub gathered_below : (k : ℕ) (x : Node) → T (has (gathered k) x) → x.after < suc r
    unfolding Picked
    gathered_below k x h =
        ⊎_elim (λ g. omega (arith, below x g)) (λ (p : Picked k x). let e : x.after ≡ r = ap (λ z. z.after) p.3 in omega arith) (gathered_cases k x h)

    pub gathered_once : (k : ℕ) → Distinct rest → ((i j : ℕ) → i < k → j < i → T (own i) → T (own j) → f i ≡ f j → ⊥) → Distinct (gathered k)
    unfolding gathered Distinct Picked
    gathered_once zero d h = d
    gathered_once (suc k) d h =
        let s = gathered_once k d (λ i j l. h i j (omega arith)) in
        cond_has Distinct (own k)
        (λ o. (
          not_T (has (gathered k) (node r (f k)))
              (λ g. ⊎_elim (λ z. let b = below (node r (f k)) z in omega arith)
              (λ (p : Picked k (node r (f k))). h k p.0 (omega arith) p.1 o p.2 (ap (λ z. z.table) p.3))
              (gathered_cases k (node r (f k)) g)),
          s,
        ))
        (λ _. s)
