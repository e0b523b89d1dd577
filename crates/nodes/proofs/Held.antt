-- What is listed for a table: just the nodes of its parts whose halves differ.
use Prim.Native.Nat.{ℕ, zero, suc}
use mathlib.Core.Path.{◌≡◌, sym, subst}
use mathlib.Core.Logic.{⊎_elim}
use mathlib.Core.List.{List, [], ◌∷◌}
use lib.Dec.{T}
use Rattle.table.specs.Cells.{low, high}
use Rattle.nodes.specs.Nodes.{Node, node, has, listing}
use Rattle.nodes.proofs.Lists.{has_none, has_head, has_later, has_cases}
use Rattle.nodes.proofs.Listing.{visits}

-- a list has all that another has
abbrev pub Within : List Node → List Node → Type 0
Within s o = (k : Node) → T (has s k) → T (has o k)

-- a list holds a table of r inputs: it has the node of every part whose halves differ
unfoldable pub Holds : List Node → ℕ → ℕ → Type 0
Holds ks zero t = Unit {0}
Holds ks (suc r) t = ((low r t ≡ high r t → ⊥) → T (has ks (node r t))) × Holds ks r (low r t) × Holds ks r (high r t)

holds_more : (s o : List Node) → Within s o → (r t : ℕ) → Holds s r t → Holds o r t
unfolding Holds
holds_more s o w zero t h = tt
holds_more s o w (suc r) t h = (λ d. w (node r t) (h.0 d), holds_more s o w r (low r t) h.1, holds_more s o w r (high r t) h.2)

-- a list that holds a table has all that is listed for it
pub listing_within : (ks : List Node) (r t : ℕ) (s : List Node) → Holds ks r t → Within s ks → Within (listing r t s) ks
unfolding Holds
listing_within ks =
    visits (λ r t s o. Holds ks r t → Within s ks → Within o ks)
    (λ t s h w. w)
    (λ r t s o e p h w. p h.1 w)
    (λ r t s d y h w. w)
    (λ r t s m o d y p q h w k g.
    ⊎_elim (λ (e : k ≡ node r t). subst (λ x. T (has ks x)) (sym e) (h.0 d)) (q h.2 (p h.1 w) k) (has_cases (node r t) k o g))

-- and what is listed for a table holds it, since a list that holds the halves of all its nodes still does so after a visit
abbrev Halves : List Node → Node → Type 0
Halves ks k = Holds ks k.after (low k.after k.table) × Holds ks k.after (high k.after k.table)

abbrev Closed : List Node → Type 0
Closed ks = (k : Node) → T (has ks k) → Halves ks k

record Visited (r t : ℕ) (s o : List Node) : Type 0 where
  kept : Within s o
  closed : Closed s → Closed o
  held : Closed s → Holds o r t

visited_new : (r t : ℕ) (s m o : List Node) → Visited r (low r t) s m → Visited r (high r t) m o → Visited (suc r) t s (node r t ∷ o)
unfolding Holds
visited_new r t s m o p q =
    let more : (x u : ℕ) → Holds o x u → Holds (node r t ∷ o) x u = holds_more o (node r t ∷ o) (λ k h. has_later (node r t) k o h) in
    let low_held : Closed s → Holds (node r t ∷ o) r (low r t) = λ c. more r (low r t) (holds_more m o q.kept r (low r t) (p.held c)) in
    let high_held : Closed s → Holds (node r t ∷ o) r (high r t) = λ c. more r (high r t) (q.held (p.closed c)) in
    record {
      kept = λ k h. has_later (node r t) k o (q.kept k (p.kept k h));
      closed = λ c k h.
          ⊎_elim (λ (e : k ≡ node r t). subst (Halves (node r t ∷ o)) (sym e) (low_held c, high_held c))
          (λ g.
          let b = q.closed (p.closed c) k g in
          (more k.after (low k.after k.table) b.0, more k.after (high k.after k.table) b.1))
          (has_cases (node r t) k o h);
      held = λ c. (λ _. has_head (node r t) o, low_held c, high_held c);
    }

visited : (r t : ℕ) (s : List Node) → Visited r t s (listing r t s)
unfolding Holds
visited =
    visits Visited (λ t s. record { kept = λ k h. h; closed = λ c. c; held = λ c. tt })
    (λ r t s o e p. record {
      kept = p.kept;
      closed = p.closed;
      held = λ c. (λ d. absurd (d e), p.held c, subst (Holds o r) e (p.held c));
    })
    (λ r t s d y. record { kept = λ k h. h; closed = λ c. c; held = λ c. (λ _. y, (c (node r t) y).0, (c (node r t) y).1) })
    (λ r t s m o d y p q. visited_new r t s m o p q)

pub listing_holds : (n t : ℕ) → Holds (listing n t []) n t
listing_holds n t = (visited n t []).held (λ k h. absurd (has_none k h))
