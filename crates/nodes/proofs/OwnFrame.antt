-- The nodes that a table of four inputs has at least: those told of quarters that differ and of its own literals.
use Prim.Native.Nat.{ℕ, zero, suc, ◌+◌, ◌<◌, ◌≤◌}
use mathlib.Core.Path.{◌≡◌, sym, subst}
use mathlib.Core.Logic.{⊎_elim}
use mathlib.Core.Bool.{Bool, false, cond, not}
use mathlib.Core.List.{List, []}
use native.Mathlib.Omega.{arith}
use lib.Dec.{T, T_not, eqb, eqb→eq}
use Rattle.base.proofs.Tests.{and_left, and_right, or_cases, eq_test}
use Rattle.table.specs.Bits.{sum, any, is_one}
use Rattle.table.specs.Cells.{low, high}
use Rattle.table.proofs.Below.{any_at}
use Rattle.nodes.specs.Nodes.{Node, node, has, listing, price, nodes}
use Rattle.nodes.specs.Inner.Tops.{top_price}
use Rattle.nodes.specs.Subfunctions.{Distinct}
use Rattle.nodes.proofs.Lists.{has_none, subset_weight}
use Rattle.nodes.proofs.Held.{Within, Holds, listing_holds}
use Rattle.nodes.proofs.Gathered.{gathered_within, gathered_below, gathered_once}
use Rattle.nodes.proofs.Quarters.{below4, below2, halves_of, quarters_of}
use Rattle.nodes.proofs.Framed.{apart, half_apart, frame_price, may, uses, owns, own1, own3, level0, level1, level2, framed, framed_weight}

-- the literals of the last input that a table has: 1 is the inverse, 2 the input
abbrev pub ends : ℕ → ℕ → Bool
ends t v = any 4 (λ j. uses v (quarters_of t j))

-- where r tells no selector that the table does not need, and none twice
module _ (r : ℕ → ℕ) (t : ℕ) (halves_differ : T (apart r) → low 3 t ≡ high 3 t → ⊥)
    (quarters_differ : (k : ℕ) → k < 2 → T (half_apart r k) → low 2 (halves_of t k) ≡ high 2 (halves_of t k) → ⊥)
    (firsts_differ : (j k : ℕ) → j < 4 → k < j → T (owns r (quarters_of t j) j) → T (owns r (quarters_of t k) k) → quarters_of t j ≡ quarters_of t k → ⊥) where
  abbrev i : Bool
  i = ends t 1

  abbrev listed : List Node
  listed = listing 4 t []

  held : Holds listed 4 t
  held = listing_holds 4 t

  quarter_listed : (j : ℕ) → j < 4 → Holds listed 2 (quarters_of t j)
  unfolding Holds
  quarter_listed = below4 (λ j. Holds listed 2 (quarters_of t j)) held.1.1 held.1.2 held.2.1 held.2.2

  -- a half v of some quarter is listed, where its own halves differ
  end_held_listed : (v : ℕ) → (low 0 v ≡ high 0 v → ⊥) → T (ends t v) → T (has listed (node 0 v))
  unfolding Holds uses
  end_held_listed v d u =
      let s = any_at 4 (λ j. uses v (quarters_of t j)) u in
      let x = quarters_of t s.0 in
      let h = quarter_listed s.0 s.1 in
      let at : (e : ℕ) → Holds listed 1 e → T (eqb e v) → T (has listed (node 0 v)) =
      λ e g b. let z = eqb→eq e v b in subst (λ y. T (has listed (node 0 y))) z (g.0 (subst (λ y. low 0 y ≡ high 0 y → ⊥) (sym z) d)) in
      ⊎_elim (at (low 1 x) h.1) (at (high 1 x) h.2) (or_cases (eqb (low 1 x) v) (eqb (high 1 x) v) s.2)

  end_listed : (k : ℕ) → k < 2 → T (may i false k) → T (has listed (node 0 (suc k)))
  unfolding low high
  end_listed = below2 (λ k. T (may i false k) → T (has listed (node 0 (suc k)))) (end_held_listed 1 (λ e. omega arith)) (λ n. absurd n)

  first_listed : (j : ℕ) → j < 4 → T (own1 r i false t j) → T (has listed (node 1 (quarters_of t j)))
  unfolding Holds owns
  first_listed j l o =
      let x = quarters_of t j in
      (quarter_listed j l).0 (λ e. T_not (eqb (low 1 x) (high 1 x)) (and_right (eqb (r j) j) (not (eqb (low 1 x) (high 1 x))) o) (eq_test e))

  half_listed : (k : ℕ) → k < 2 → T (half_apart r k) → T (has listed (node 2 (halves_of t k)))
  unfolding Holds
  half_listed =
      below2 (λ k. T (half_apart r k) → T (has listed (node 2 (halves_of t k)))) (λ o. held.1.0 (quarters_differ 0 (omega arith) o))
      (λ o. held.2.0 (quarters_differ 1 (omega arith) o))

  framed_within : Within (framed r i false t) listed
  unfolding Holds
  framed_within =
      gathered_within 3 (own3 r i false t) (λ _. t) (level2 r i false t) 1 listed (λ k l o. held.0 (halves_differ o))
      (gathered_within 2 (half_apart r) (halves_of t) (level1 r i false t) 2 listed half_listed
      (gathered_within 1 (own1 r i false t) (quarters_of t) (level0 r i false t) 4 listed first_listed
      (gathered_within 0 (may i false) suc [] 2 listed end_listed (λ k g. absurd (has_none k g)))))

  halves_once : (j k : ℕ) → j < 2 → k < j → T (half_apart r j) → T (half_apart r k) → halves_of t j ≡ halves_of t k → ⊥
  unfolding half_apart
  halves_once zero k l m o n e = omega arith
  halves_once (suc j) zero l m o n e = halves_differ (and_left (apart r) (not (eqb (r 2) (r 3))) o) (sym e)
  halves_once (suc j) (suc k) l m o n e = omega arith

  framed_once : Distinct (framed r i false t)
  unfolding Distinct
  framed_once =
      let none : (x : Node) → T (has [] x) → x.after < 0 = λ x g. absurd (has_none x g) in
      let b0 = gathered_below 0 (may i false) suc [] none 2 in
      let b1 = gathered_below 1 (own1 r i false t) (quarters_of t) (level0 r i false t) b0 4 in
      let b2 = gathered_below 2 (half_apart r) (halves_of t) (level1 r i false t) b1 2 in
      gathered_once 3 (own3 r i false t) (λ _. t) (level2 r i false t) b2 1
      (gathered_once 2 (half_apart r) (halves_of t) (level1 r i false t) b1 2
      (gathered_once 1 (own1 r i false t) (quarters_of t) (level0 r i false t) b0 4
      (gathered_once 0 (may i false) suc [] none 2 tt (λ j k l m o n e. omega arith)) firsts_differ) halves_once)
      (λ j k l m. absurd (omega arith))

  pub nodes_least : frame_price r t + sum 4 (λ j. cond (eqb (r j) j) (top_price (quarters_of t j)) 0) + is_one i ≤ nodes 4 t
  unfolding nodes
  nodes_least = omega (arith, subset_weight price (framed r i false t) listed framed_once framed_within, framed_weight r i false t)
