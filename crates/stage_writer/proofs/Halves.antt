-- Laws of what is written of a table by the table's halves: its reduced tree, how many selectors that has and how many bytes it takes, the nodes that are listed,
-- and its number among them.
use Prim.Native.Nat.{ℕ, zero, suc, ◌+◌, ◌^◌, ◌-◌}
use mathlib.Core.Path.{◌≡◌, refl, ap}
use mathlib.Core.Bool.{cond}
use mathlib.Core.List.{List, ◌∷◌}
use native.Mathlib.Omega.{arith}
use native.Mathlib.Numerals.{add-one}
use lib.Dec.{eqb}
use lib.ListN.{length, length-append}
use borrow.Author.Tests.{eq-eqb, ne_eqb}
use Rattle.table.specs.Cells.{low, high}
use Rattle.table.specs.Tree.{Tree, sel, selectors, reduced}
use Rattle.nodes.specs.Nodes.{Node, node, has, listing}
use Rattle.stage.specs.TreeBytes.{tree_bytes}
use Rattle.diagram.specs.Written.{node_number, number_of}
use Rattle.stage_writer.proofs.Nodes.{has_number}

-- what is told of a table by its halves, at every width but 0
halved : {A : Type 0} (f : ℕ → ℕ → A) (by : ℕ → ℕ → ℕ → ℕ → A) → ((v t : ℕ) → f (suc v) t ≡ by v t (low v t) (high v t))
    → (w t lo hi : ℕ) → (w ≡ 0 → ⊥) → lo ≡ low (w - 1) t → hi ≡ high (w - 1) t → f w t ≡ by (w - 1) t lo hi
halved f by step zero t lo hi h el eh = absurd (h refl)
halved f by step (suc v) t lo hi h el eh = let d : suc v - 1 ≡ v = omega arith in rw (el, eh, d) (step v t)

-- a table has the patterns of both its halves
pub both_patterns : (w : ℕ) → (w ≡ 0 → ⊥) → 2 ^ w ≡ 2 ^ (w - 1) + 2 ^ (w - 1)
both_patterns zero h = absurd (h refl)
both_patterns (suc v) h = let d : suc v - 1 ≡ v = omega arith in rw d (omega arith)

module _ (w t lo hi : ℕ) (h : w ≡ 0 → ⊥) (el : lo ≡ low (w - 1) t) (eh : hi ≡ high (w - 1) t) where
  module _ (k : ℕ) where
    -- the reduced tree by the trees of the halves
    reduced_step : reduced w k t ≡ cond (eqb lo hi) (reduced (w - 1) (k + 1) lo)
        (sel (k + 1) (reduced (w - 1) (k + 1) lo) (reduced (w - 1) (k + 1) hi))
    unfolding reduced
    reduced_step =
        halved (λ w t. reduced w k t) (λ v t a b. cond (eqb a b) (reduced v (k + 1) a) (sel (k + 1) (reduced v (k + 1) a) (reduced v (k + 1) b)))
        (λ v t. simp (add-one k)) w t lo hi h el eh

    pub reduced_same : lo ≡ hi → reduced w k t ≡ reduced (w - 1) (k + 1) lo
    reduced_same q = simp (reduced_step, eq-eqb _ _ q)

    pub reduced_two : (lo ≡ hi → ⊥) → reduced w k t ≡ sel (k + 1) (reduced (w - 1) (k + 1) lo) (reduced (w - 1) (k + 1) hi)
    reduced_two q = simp (reduced_step, ne_eqb _ _ q)

    pub same_selectors : lo ≡ hi → selectors (reduced w k t) ≡ selectors (reduced (w - 1) (k + 1) lo)
    same_selectors q = ap selectors (reduced_same q)

    pub two_selectors : (lo ≡ hi → ⊥)
        → selectors (reduced w k t) ≡ 1 + selectors (reduced (w - 1) (k + 1) lo) + selectors (reduced (w - 1) (k + 1) hi)
    unfolding selectors
    two_selectors q = omega (arith, ap selectors (reduced_two q))

    pub same_length : lo ≡ hi → length (tree_bytes (reduced w k t)) ≡ length (tree_bytes (reduced (w - 1) (k + 1) lo))
    same_length q = ap (λ (x : Tree). length (tree_bytes x)) (reduced_same q)

    pub two_length : (lo ≡ hi → ⊥)
        → length (tree_bytes (reduced w k t))
        ≡ 2 + length (tree_bytes (reduced (w - 1) (k + 1) lo)) + length (tree_bytes (reduced (w - 1) (k + 1) hi))
    unfolding tree_bytes
    two_length q =
        let z = tree_bytes (reduced (w - 1) (k + 1) lo) in
        let o = tree_bytes (reduced (w - 1) (k + 1) hi) in
        omega (arith, ap (λ (x : Tree). length (tree_bytes x)) (reduced_two q), length-append z o)

  module _ (seen : List Node) where
    listing_step : listing w t seen
        ≡ cond (eqb lo hi) (listing (w - 1) lo seen)
        (cond (has seen (node (w - 1) t)) seen (node (w - 1) t ∷ listing (w - 1) hi (listing (w - 1) lo seen)))
    unfolding listing
    listing_step =
        halved (λ w t. listing w t seen)
        (λ v t a b. cond (eqb a b) (listing v a seen) (cond (has seen (node v t)) seen (node v t ∷ listing v b (listing v a seen))))
        (λ v t. refl) w t lo hi h el eh

    pub listing_same : lo ≡ hi → listing w t seen ≡ listing (w - 1) lo seen
    listing_same q = simp (listing_step, eq-eqb _ _ q)

    module _ (differ : lo ≡ hi → ⊥) where
      pub listing_old : (node_number seen (node (w - 1) t) ≡ 0 → ⊥) → listing w t seen ≡ seen
      listing_old q = simp (listing_step, ne_eqb _ _ differ, has_number seen (node (w - 1) t), ne_eqb _ _ q)

      pub listing_new : node_number seen (node (w - 1) t) ≡ 0 → listing w t seen ≡ node (w - 1) t ∷ listing (w - 1) hi (listing (w - 1) lo seen)
      listing_new q = simp (listing_step, ne_eqb _ _ differ, has_number seen (node (w - 1) t), eq-eqb _ _ q)

  module _ (ks : List Node) where
    number_step : number_of ks w t ≡ cond (eqb lo hi) (number_of ks (w - 1) lo) (node_number ks (node (w - 1) t))
    unfolding number_of
    number_step = halved (number_of ks) (λ v t a b. cond (eqb a b) (number_of ks v a) (node_number ks (node v t))) (λ v t. refl) w t lo hi h el eh

    pub number_same : lo ≡ hi → number_of ks w t ≡ number_of ks (w - 1) lo
    number_same q = simp (number_step, eq-eqb _ _ q)

    pub number_node : (lo ≡ hi → ⊥) → number_of ks w t ≡ node_number ks (node (w - 1) t)
    number_node q = simp (number_step, ne_eqb _ _ q)
