-- The number of a node among those that are listed, by the place at which it is found from the end.
use Rattle.std.proofs.Common.{◌≡◌, ℕ, ◌+◌, ◌<◌, ◌≤◌, Bool, true, false, cond, ◌&&◌, eqb, ltb, List, [], ◌∷◌, map, reverse, length, Option, None, Some, refl, sym, arith}
use borrow.Author.Tests.{ltb-true, ltb-false}
use Rattle.std.specs.Option.{IsSomeAnd, MatchOption, is_some, unwrap_or}
use Rattle.std.specs.List.{position, position_or_len}
use Rattle.std.proofs.lemmas.List.{length-map, length-reverse}
use Rattle.nodes.specs.Nodes.{same}
use Rattle.diagram.specs.Written.{node_number}
use Rattle.stage_writer.specs.Inner.Listed.{as_node, nodes_of}
use Rattle.stage_writer.specs.declared.listed.Node.{Node as NodeKept}

-- whether there is a number
pub has_place : (z : ℕ) (r : Option ℕ) → MatchOption r (z ≡ 0) (λ k. (0 < k) × (k ≡ z)) → is_some r ≡ true → z ≡ 0 → ⊥
has_place z None m e = λ _. absurd cc
has_place z (Some k) m e = λ d. omega (arith, m, d)

pub lacks_place : (z : ℕ) (r : Option ℕ) → MatchOption r (z ≡ 0) (λ k. (0 < k) × (k ≡ z)) → is_some r ≡ false → z ≡ 0
lacks_place z None m e = m
lacks_place z (Some k) m e = absurd cc

pub number_or_zero : (z : ℕ) (r : Option ℕ) → MatchOption r (z ≡ 0) (λ k. (0 < k) × (k ≡ z)) → unwrap_or r 0 ≡ z
number_or_zero z None m = sym m
number_or_zero z (Some k) m = m.1

module _ (k : NodeKept) where
  -- the test of the search
  abbrev pub is_same : NodeKept → Bool
  is_same y = eqb k.after y.after && eqb k.table y.table

  number_among : List NodeKept → ℕ
  number_among ys = node_number (map as_node ys) (as_node k)

  Numbered : List NodeKept → ℕ → Type 0
  Numbered ys p = (p < length ys → p + number_among ys ≡ length ys + 1) × (length ys ≤ p → number_among ys ≡ 0)

  numbered : (ys : List NodeKept) → Numbered ys (position_or_len is_same ys)
  unfolding Numbered number_among node_number same
  numbered [] = (λ h. absurd (omega arith), λ h. refl)
  numbered (y ∷ ys) = by (is_same y) refl (numbered ys)
    where
      by : (b : Bool) → is_same y ≡ b → Numbered ys (position_or_len is_same ys) → Numbered (y ∷ ys) (position_or_len is_same (y ∷ ys))
      by true e q = rw e (let long = length-map ys as_node in (λ h. omega arith, λ h. absurd (omega arith)))
      by false e q = rw e ((λ h. omega (arith, q.0 (omega arith))), (λ h. q.1 (omega arith)))

  module _ (all : List NodeKept) where
    pub number_found : (i : ℕ) → IsSomeAnd (position is_same (reverse all)) (λ j. i + 1 + j ≡ length all) → 2 + i ≡ node_number (nodes_of all) (as_node k)
    unfolding Numbered number_among
    number_found i h =
        at (ltb (position_or_len is_same (reverse all)) (length (reverse all))) refl h
      where
        at : (b : Bool) → ltb (position_or_len is_same (reverse all)) (length (reverse all)) ≡ b
            → IsSomeAnd (cond b (Some (position_or_len is_same (reverse all))) None) (λ j. i + 1 + j ≡ length all) → 2 + i ≡ node_number (nodes_of all) (as_node k)
        at true t g = omega (arith, (numbered (reverse all)).0 (ltb-true _ _ t), g, length-reverse all)
        at false t g = absurd g

    pub no_number : position is_same (reverse all) ≡ None → node_number (nodes_of all) (as_node k) ≡ 0
    unfolding Numbered number_among
    no_number h = at (ltb (position_or_len is_same (reverse all)) (length (reverse all))) refl h
      where
        at : (b : Bool) → ltb (position_or_len is_same (reverse all)) (length (reverse all)) ≡ b
            → cond b (Some (position_or_len is_same (reverse all))) None ≡ None → node_number (nodes_of all) (as_node k) ≡ 0
        at true t g = absurd cc
        at false t g = (numbered (reverse all)).1 (ltb-false _ _ t)
