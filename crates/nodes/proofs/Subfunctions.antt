-- What is listed of a table: just its subfunctions that need a selector, each once.
use Prim.Native.Nat.{ℕ, zero, suc}
use mathlib.Core.Path.{◌≡◌, refl, sym, ap₂, subst}
use mathlib.Core.Logic.{◌⊎◌, inl, inr, ⊎_elim}
use mathlib.Core.List.{List, []}
use native.Mathlib.Omega.{arith}
use lib.Dec.{T}
use Rattle.table.specs.Cells.{low, high}
use Rattle.nodes.specs.Nodes.{Node, node, has, listing}
use Rattle.nodes.proofs.Lists.{has_none, has_cases}
use Rattle.nodes.proofs.Listing.{visits, listing_once}
use Rattle.nodes.proofs.Held.{Holds, listing_holds}
use Rattle.nodes.specs.Subfunctions.{PartOf, Needed, ListsNeeded}

-- a visit lists nothing else
listed_was : (n t : ℕ) (s : List Node) (k : Node) → T (has (listing n t s) k) → T (has s k) ⊎ Needed n t k
unfolding PartOf
listed_was =
    visits (λ n t s o. (k : Node) → T (has o k) → T (has s k) ⊎ Needed n t k)
    (λ t s k h. inl h)
    (λ r t s o e p k h. ⊎_elim (λ y. inl y) (λ y. inr (inr (inl y.0), y.1)) (p k h))
    (λ r t s d y k h. inl h)
    (λ r t s m o d y p q k h.
    ⊎_elim
    (λ (e : k ≡ node r t). inr (subst (Needed (suc r) t) (sym e) (inl (refl, refl), d)))
    (λ g. ⊎_elim (λ f. ⊎_elim (λ z. inl z) (λ z. inr (inr (inl z.0), z.1)) (p k f)) (λ z. inr (inr (inr z.0), z.1)) (q k g))
    (has_cases (node r t) k o h))

-- a list that holds a table has every part of it that needs a selector, and so has what is listed of it
needed_held : (ks : List Node) (n t : ℕ) → Holds ks n t → (k : Node) → Needed n t k → T (has ks k)
unfolding Holds PartOf
needed_held ks zero t h k d = let e : zero ≡ suc k.after = d.0.0 in absurd (omega arith)
needed_held ks (suc n) t h k d =
    ⊎_elim
    (λ (e : (suc n ≡ suc k.after) × (t ≡ k.table)).
    let w : n ≡ k.after = omega arith in
    subst (λ (y : Node). (low y.after y.table ≡ high y.after y.table → ⊥) → T (has ks y)) (ap₂ node w e.1) h.0 d.1)
    (λ q. ⊎_elim (λ z. needed_held ks n (low n t) h.1 k (z, d.1)) (λ z. needed_held ks n (high n t) h.2 k (z, d.1)) q)
    d.0

needed_listed : (n t : ℕ) (k : Node) → Needed n t k → T (has (listing n t []) k)
needed_listed n t = needed_held (listing n t []) n t (listing_holds n t)

pub lists_needed : (n t : ℕ) → ListsNeeded n t
lists_needed n t =
    record {
      just = λ k. (λ h. ⊎_elim (λ z. absurd (has_none k z)) (λ z. z) (listed_was n t [] k h), needed_listed n t k);
      once = listing_once n t;
    }
