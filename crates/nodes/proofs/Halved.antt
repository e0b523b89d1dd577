-- The nodes of a table by its halves.
use Prim.Native.Nat.{ℕ, zero, suc, ◌+◌, ◌^◌, ◌<◌, ◌≤◌}
use mathlib.Core.Path.{◌≡◌, refl, sym, ap, ◌∙◌}
use mathlib.Core.Logic.{⊎_elim}
use mathlib.Core.List.{List, [], ◌∷◌}
use native.Mathlib.Omega.{arith}
use native.Mathlib.Nat.{le_refl, zero-mod, zero-div}
use lib.Pow.{pow_pos}
use Rattle.base.proofs.Tests.{decide, eqb_yes, eqb_not}
use Rattle.table.specs.Cells.{low, high, wired_table, selector_cells}
use Rattle.table.proofs.Halves.{same_halves}
use Rattle.table.proofs.Wired.{wired_halves, not_wired_one, selector_most}
use Rattle.table.proofs.Cells.{ByHalves}
use Rattle.nodes.specs.Nodes.{Node, node, has, listing, price, weight, nodes}
use Rattle.nodes.proofs.Listing.{visits}

-- what is listed counts for no less than what was listed before
listing_more : (r t : ℕ) (s : List Node) → weight price s ≤ weight price (listing r t s)
unfolding weight
listing_more =
    visits (λ r t s o. weight price s ≤ weight price o) (λ t s. le_refl (weight price s)) (λ r t s o e p. p) (λ r t s d y. le_refl (weight price s))
    (λ r t s m o d y p q. omega arith)

-- the nodes of a table, by its lower half
nodes_same : (r t : ℕ) → low r t ≡ high r t → nodes (suc r) t ≡ nodes r (low r t)
unfolding nodes listing has
nodes_same r t e = ap (weight price) (eqb_yes (low r t) (high r t) (listing r (low r t) []) _ e)

nodes_differ : (r t : ℕ) → (low r t ≡ high r t → ⊥)
    → (nodes (suc r) t ≡ selector_cells (wired_table r t) + weight price (listing r (high r t) (listing r (low r t) [])))
    × (nodes r (low r t) ≤ weight price (listing r (high r t) (listing r (low r t) [])))
unfolding nodes listing has weight price
nodes_differ r t d =
    let s = listing r (low r t) [] in
    (ap (weight price) (eqb_not (low r t) (high r t) s (node r t ∷ listing r (high r t) s) d), listing_more r (high r t) s)

pub nodes_halves : ByHalves nodes
nodes_halves =
    record {
      alike = nodes_same;
      fewer = λ r t. ⊎_elim (λ e. omega (arith, nodes_same r t e)) (λ d. let n = nodes_differ r t d in omega (arith, n.0, n.1)) (same_halves r t);
      smaller = λ r t g.
          ⊎_elim (λ e. omega arith)
          (λ d.
          ⊎_elim (λ w. omega (arith, (wired_halves r t w).0))
          (λ w. let n = nodes_differ r t d in absurd (omega (arith, g, n.0, n.1, not_wired_one (wired_table r t) w)))
          (decide (wired_table r t)))
          (same_halves r t);
    }

-- a table of zeros has none
pub nodes_zero : (n : ℕ) → nodes n 0 ≡ 0
unfolding nodes listing weight low high
nodes_zero zero = refl
nodes_zero (suc n) =
    let z : low n 0 ≡ 0 = zero-mod (2 ^ (2 ^ n)) in
    nodes_same n 0 (z ∙ sym (zero-div (2 ^ (2 ^ n)))) ∙ ap (nodes n) z ∙ nodes_zero n

-- a table of n inputs has fewer than it has patterns
listing_bound : (r t : ℕ) (s : List Node) → weight price (listing r t s) + 1 ≤ weight price s + 2 ^ r
unfolding weight price
listing_bound =
    visits (λ r t s o. weight price o + 1 ≤ weight price s + 2 ^ r) (λ t s. omega arith) (λ r t s o e p. omega (arith, p, pow_pos r))
    (λ r t s d y. omega (arith, pow_pos r))
    (λ r t s m o d y p q. omega (arith, p, q, selector_most (wired_table r t)))

pub nodes_lt : (n t : ℕ) → nodes n t < 2 ^ n
unfolding nodes weight
nodes_lt n t = omega (arith, listing_bound n t [])
