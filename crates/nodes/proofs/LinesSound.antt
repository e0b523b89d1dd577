-- Lines that are soldered through: each gives no less than the rank of the pick.
use Prim.Native.Nat.{ℕ, suc, ◌+◌, ◌*◌, ◌^◌, ◌<◌, ◌≤◌}
use mathlib.Core.Path.{◌≡◌, refl, sym, ap, subst, ◌∙◌}
use mathlib.Core.Bool.{Bool, true, false, cond}
use mathlib.Core.List.{List, [], ◌∷◌}
use mathlib.Core.Option.{Option, some}
use native.Mathlib.Omega.{arith}
use lib.Dec.{T, eqb, eqb→eq}
use Rattle.base.proofs.Tests.{cond_has, and_left, and_right, eqb_yes}
use Rattle.table.specs.Bits.{sum, is_one}
use Rattle.table.specs.Cells.{low, high, full, wired_table}
use Rattle.table.specs.Pick.{Proj, suits, or_zero}
use Rattle.table.specs.Inner.Pairs.{block_space}
use Rattle.table.specs.Inner.Ranks.{rank}
use Rattle.table.proofs.Least.{Least}
use Rattle.table.proofs.Wired.{halves_wired}
use Rattle.nodes.specs.Nodes.{nodes}
use Rattle.nodes.specs.Inner.Tops.{top_price}
use Rattle.nodes.specs.Inner.Ways.{one_node, ones_quarter, no_line, four, places, one, two}
use Rattle.nodes.proofs.Listing.{counting}
use Rattle.nodes.proofs.Quarters.{below4, below2, halves_of, quarters_of, suits_quarters, made}
use Rattle.nodes.proofs.Framed.{apart, half_apart, frame, frame_lined, uses, within}
use Rattle.nodes.proofs.Classes.{is_shape, shape_inside, shape_again, tree_way, tree_shape, members, stands, best, line_stands, shown, class_value, line_value}
use Rattle.nodes.proofs.Sound.{fit_in, nodes_few, rank_least, sound, best_stands}

-- which half a quarter is in, and the quarter of a line at its place
abbrev half_of : ℕ → ℕ
half_of = four 0 0 1 1

abbrev line_quarter : ℕ → ℕ
line_quarter = four 0 ones_quarter 0 ones_quarter

line_quarter_lem : (i : Bool) (j : ℕ) → j < 4 → (line_quarter j < block_space) × T (within i (line_quarter j))
unfolding within uses low high
line_quarter_lem i = below4 (λ j. (line_quarter j < block_space) × T (within i (line_quarter j))) (omega arith, tt) (omega arith, tt) (omega arith, tt) (omega arith, tt)

module _ (P : Proj) (t : ℕ) (pick : Least (nodes 4) (suits 4 P) (2 ^ (2 ^ 4)) (some t)) where
  abbrev fit : ℕ → ℕ → Bool
  fit = fit_in P

  abbrev L : (zeros ones : List ℕ) → ℕ
  L = line_value fit

  -- a line that does not suit gives more than any table
  line_above : (js ks : List ℕ) (rest : ℕ) → (T (stands fit js 0) → T (stands fit ks ones_quarter) → rank (nodes 4) t ≤ rest + places ks * ones_quarter)
      → rank (nodes 4) t ≤ rest + L js ks
  unfolding rank
  line_above js ks rest h =
      cond_has (λ x. rank (nodes 4) t ≤ rest + x) (line_stands fit js ks) {x = places ks * ones_quarter} {y = no_line}
      (λ y. h (and_left (stands fit js 0) (stands fit ks ones_quarter) y) (and_right (stands fit js 0) (stands fit ks ones_quarter) y))
      (λ _. omega (arith, nodes_few t pick.0, pick.0))

  -- a table that is an input itself
  free_above : (s : ℕ) → s < 2 ^ (2 ^ 4) → nodes 4 s ≡ 0 → ((j : ℕ) → j < 4 → T (fit j (quarters_of s j))) → rank (nodes 4) t ≤ s
  unfolding rank
  free_above s l e f = omega (arith, e, rank_least P t pick s l (suits_quarters P s f))

  pub first_line_above : rank (nodes 4) t ≤ L (1 ∷ 0 ∷ []) (3 ∷ 2 ∷ [])
  unfolding counting stands
  first_line_above =
      let h = line_above (1 ∷ 0 ∷ []) (3 ∷ 2 ∷ []) 0
      (λ a b.
      omega (
        arith,
        free_above 0xFF00 (omega arith) refl
            (below4 (λ j. T (fit j (quarters_of 0xFF00 j))) (and_left (fit 0 0) (fit 1 0) a) (and_right (fit 0 0) (fit 1 0) a)
            (and_left (fit 2 ones_quarter) (fit 3 ones_quarter) b) (and_right (fit 2 ones_quarter) (fit 3 ones_quarter) b)),
      )) in
      omega (arith, h)

  second_line_least : T (fit 0 0) → T (fit 1 ones_quarter) → T (fit 2 0) → T (fit 3 ones_quarter) → rank (nodes 4) t ≤ 0xF0F0
  unfolding counting
  second_line_least a b c d = free_above 0xF0F0 (omega arith) refl (below4 (λ j. T (fit j (quarters_of 0xF0F0 j))) a b c d)

  pub second_line_above : rank (nodes 4) t ≤ L (2 ∷ 0 ∷ []) (3 ∷ 1 ∷ [])
  unfolding stands
  second_line_above =
      let h = line_above (2 ∷ 0 ∷ []) (3 ∷ 1 ∷ []) 0
      (λ a b.
      omega (
        arith,
        second_line_least (and_left (fit 0 0) (fit 2 0) a) (and_left (fit 1 ones_quarter) (fit 3 ones_quarter) b) (and_right (fit 0 0) (fit 2 0) a)
            (and_right (fit 1 ones_quarter) (fit 3 ones_quarter) b),
      )) in
      omega (arith, h)

  pub both_lines_above : rank (nodes 4) t ≤ L (0 ∷ []) (1 ∷ []) + L (2 ∷ []) (3 ∷ [])
  unfolding stands
  both_lines_above =
      line_above (2 ∷ []) (3 ∷ []) (L (0 ∷ []) (1 ∷ []))
      (λ c d. omega (arith, line_above (0 ∷ []) (1 ∷ []) 0xF000 (λ a b. omega (arith, second_line_least a b c d))))

  -- one half is a line, and shares no quarter with the other, which has its best quarters
  module _ (i : Bool) (k : ℕ) (r : ℕ → ℕ) where
    abbrev o : ℕ → Option ℕ
    o j = cond (eqb (half_of j) k) (some (line_quarter j)) (best fit i (members r j 4))

    abbrev total : ℕ
    total = sum 4 (λ j. cond (eqb (r j) j) (shown (o j) (places (members r j 4))) 0)

    abbrev s : ℕ
    s = made (λ j. or_zero (o (r j)))

    module _ (half : k < 2) (shape : T (is_shape r)) (apart_there : T (half_apart r k))
        (kept : (j : ℕ) → j < 4 → half_of (r j) ≡ half_of j) (alone : (j : ℕ) → j < 4 → half_of j ≡ k → r j ≡ j)
        (line_fits : (j : ℕ) → j < 4 → half_of j ≡ k → T (fit j (line_quarter j))) where
      may_stand : (j y : ℕ) → j < 4 → o (r j) ≡ some y → (y < block_space) × T (fit j y) × T (within i y)
      unfolding or_zero
      may_stand j y l =
          cond_has (λ z. z ≡ some y → (y < block_space) × T (fit j y) × T (within i y)) (eqb (half_of (r j)) k)
          {x = some (line_quarter (r j))} {y = best fit i (members r (r j) 4)}
          (λ b e.
          let h = sym (kept j l) ∙ eqb→eq (half_of (r j)) k b in
          let d : line_quarter j ≡ y = ap line_quarter (sym (alone j l h)) ∙ ap or_zero e in
          subst (λ z. (z < block_space) × T (fit j z) × T (within i z)) d ((line_quarter_lem i j l).0, line_fits j l h, (line_quarter_lem i j l).1))
          (λ _. best_stands P t pick r i j y l)

      line_at : (j : ℕ) → j < 4 → half_of j ≡ k → or_zero (o (r j)) ≡ line_quarter j
      unfolding or_zero
      line_at j l h =
          ap (λ m. or_zero (o m)) (alone j l h) ∙ ap or_zero (eqb_yes (half_of j) k (some (line_quarter j)) (best fit i (members r j 4)) h)

      wired : ((j : ℕ) → j < 4 → quarters_of s j ≡ or_zero (o (r j))) → (m : ℕ) → m < 2 → m ≡ k → T (wired_table 2 (halves_of s m))
      unfolding full
      wired is =
          below2 (λ m. m ≡ k → T (wired_table 2 (halves_of s m)))
          (λ e. halves_wired 2 (low 3 s) (is 0 (omega arith) ∙ line_at 0 (omega arith) e) (is 1 (omega arith) ∙ line_at 1 (omega arith) e))
          (λ e. halves_wired 2 (high 3 s) (is 2 (omega arith) ∙ line_at 2 (omega arith) e) (is 3 (omega arith) ∙ line_at 3 (omega arith) e))

      lined : (f : ℕ) → frame r ≡ suc f
          → rank (nodes 4) t ≤ (is_one i + f) * one_node + total
      lined f e =
          sound P t pick r (shape_inside r shape) (shape_again r shape) i o may_stand f
          (λ is. omega (arith, e, frame_lined r s k half apart_there (wired is k half refl)))

  abbrev F : Bool → List ℕ → ℕ
  F i = class_value fit i

  tree_half : (a b : Bool) (j : ℕ) → j < 4 → half_of (tree_way a b j) ≡ half_of j
  tree_half a b =
      below4 (λ j. half_of (tree_way a b j) ≡ half_of j) refl (cond_has (λ x. half_of x ≡ 0) a (λ _. refl) (λ _. refl)) refl
      (cond_has (λ x. half_of x ≡ 1) b (λ _. refl) (λ _. refl))

  lower_lined : (i b : Bool) → T (fit 0 0) → T (fit 1 ones_quarter)
      → rank (nodes 4) t ≤ (is_one i + (is_one (apart (tree_way false b)) + is_one (half_apart (tree_way false b) 1))) * one_node + total i 0 (tree_way false b)
  unfolding half_apart is_one
  lower_lined i b x y =
      let r = tree_way false b in
      lined i 0 r (omega arith) (tree_shape false b) tt (tree_half false b)
      (below4 (λ j. half_of j ≡ 0 → r j ≡ j) (λ _. refl) (λ _. refl) (λ e. absurd (omega arith)) (λ e. absurd (omega arith)))
      (below4 (λ j. half_of j ≡ 0 → T (fit j (line_quarter j))) (λ _. x) (λ _. y) (λ e. absurd (omega arith)) (λ e. absurd (omega arith)))
      (is_one (apart r) + is_one (half_apart r 1)) (omega arith)

  upper_lined : (i a : Bool) → T (fit 2 0) → T (fit 3 ones_quarter)
      → rank (nodes 4) t ≤ (is_one i + (is_one (apart (tree_way a false)) + is_one (half_apart (tree_way a false) 0))) * one_node + total i 1 (tree_way a false)
  unfolding apart half_apart is_one
  upper_lined i a x y =
      let r = tree_way a false in
      lined i 1 r (omega arith) (tree_shape a false) tt (tree_half a false)
      (below4 (λ j. half_of j ≡ 1 → r j ≡ j) (λ e. absurd (omega arith)) (λ e. absurd (omega arith)) (λ _. refl) (λ _. refl))
      (below4 (λ j. half_of j ≡ 1 → T (fit j (line_quarter j))) (λ e. absurd (omega arith)) (λ e. absurd (omega arith)) (λ _. x) (λ _. y))
      (is_one (apart r) + is_one (half_apart r 0)) (omega arith)

  pub lower_line_above : (i : Bool)
      → (rank (nodes 4) t ≤ is_one i * one_node + one_node + two (F i) 2 3 + L (0 ∷ []) (1 ∷ []))
      × (rank (nodes 4) t ≤ is_one i * one_node + 2 * one_node + (one (F i) 2 + one (F i) 3) + L (0 ∷ []) (1 ∷ []))
  unfolding apart half_apart is_one sum members stands shown top_price low high
  lower_line_above i = (
    line_above (0 ∷ []) (1 ∷ []) (is_one i * one_node + one_node + two (F i) 2 3) (λ x y. omega (arith, lower_lined i true x y)),
    line_above (0 ∷ []) (1 ∷ []) (is_one i * one_node + 2 * one_node + (one (F i) 2 + one (F i) 3)) (λ x y. omega (arith, lower_lined i false x y)),
  )

  pub upper_line_above : (i : Bool)
      → (rank (nodes 4) t ≤ is_one i * one_node + one_node + two (F i) 0 1 + L (2 ∷ []) (3 ∷ []))
      × (rank (nodes 4) t ≤ is_one i * one_node + 2 * one_node + (one (F i) 0 + one (F i) 1) + L (2 ∷ []) (3 ∷ []))
  unfolding apart half_apart is_one sum members stands shown top_price low high
  upper_line_above i = (
    line_above (2 ∷ []) (3 ∷ []) (is_one i * one_node + one_node + two (F i) 0 1) (λ x y. omega (arith, upper_lined i true x y)),
    line_above (2 ∷ []) (3 ∷ []) (is_one i * one_node + 2 * one_node + (one (F i) 0 + one (F i) 1)) (λ x y. omega (arith, upper_lined i false x y)),
  )
