-- The least over the ways in which four quarters coincide and over the lines: no greater than any of them, and no less than what is below all of them.
use Prim.Native.Nat.{ℕ, zero, suc, ◌+◌, ◌*◌, ◌≤◌, min}
use mathlib.Core.Path.{◌≡◌, ap, ap₂, ◌∙◌}
use mathlib.Core.List.{List, [], ◌∷◌}
use native.Mathlib.Omega.{arith}
use lib.Dec.{T}
use Rattle.table.specs.Bits.{sum, all, is_one}
use Rattle.nodes.specs.Inner.Ways.{one_node, four, one, two, first_line, second_line, halves_alike, tree_like, three_alike, crossed_alike, beside_alike, least_way}
use Rattle.nodes.proofs.Framed.{apart, half_apart}
use Rattle.nodes.proofs.Classes.{is_shape, members, value}

module _ (F : List ℕ → ℕ) (L : (zeros ones : List ℕ) → ℕ) where
  groups : (least_way F L ≤ halves_alike F L) × (least_way F L ≤ tree_like F L) × (least_way F L ≤ three_alike F)
      × (least_way F L ≤ 3 * one_node + crossed_alike F) × (least_way F L ≤ 3 * one_node + beside_alike F) × (least_way F L ≤ first_line F L)
  unfolding least_way
  groups = parts (halves_alike F L) (tree_like F L) (three_alike F) (crossed_alike F) (beside_alike F) (first_line F L)
    where
      parts : (h t r c b f : ℕ)
          → (min (min (min h f) t) (min r (3 * one_node + min c b)) ≤ h)
          × (min (min (min h f) t) (min r (3 * one_node + min c b)) ≤ t)
          × (min (min (min h f) t) (min r (3 * one_node + min c b)) ≤ r)
          × (min (min (min h f) t) (min r (3 * one_node + min c b)) ≤ 3 * one_node + c)
          × (min (min (min h f) t) (min r (3 * one_node + min c b)) ≤ 3 * one_node + b)
          × (min (min (min h f) t) (min r (3 * one_node + min c b)) ≤ f)
      parts h t r c b f = (omega arith, omega arith, omega arith, omega arith, omega arith, omega arith)

  -- the lines of the first input and of the second, and halves that share no quarter
  pub first_line_most : least_way F L ≤ first_line F L
  first_line_most = groups.5

  pub second_line_most : least_way F L ≤ second_line F L
  second_line_most = omega (arith, groups.0)

  pub tree_most : least_way F L ≤ tree_like F L
  tree_most = groups.1

  -- a class is told by its first quarter: b, c and d are the classes of the second, the third and the fourth, and fifteen of these clauses are ways
  pub way_most : (b c d : ℕ) → b ≤ 1 → c ≤ 2 → d ≤ 3 → four 0 b c d b ≡ b → four 0 b c d c ≡ c → four 0 b c d d ≡ d → least_way F L ≤ value (four 0 b c d) F
  unfolding apart half_apart is_one sum members
  way_most zero zero zero lb lc ld eb ec ed = omega (arith, groups.0)
  way_most zero zero (suc zero) lb lc ld eb ec ed = absurd (omega arith)
  way_most zero zero (suc (suc zero)) lb lc ld eb ec ed = absurd (omega arith)
  way_most zero zero (suc (suc (suc zero))) lb lc ld eb ec ed = omega (arith, groups.2)
  way_most zero zero (suc (suc (suc (suc d)))) lb lc ld eb ec ed = absurd (omega arith)
  way_most zero (suc zero) d lb lc ld eb ec ed = absurd (omega arith)
  way_most zero (suc (suc zero)) zero lb lc ld eb ec ed = omega (arith, groups.2)
  way_most zero (suc (suc zero)) (suc zero) lb lc ld eb ec ed = absurd (omega arith)
  way_most zero (suc (suc zero)) (suc (suc zero)) lb lc ld eb ec ed = omega (arith, groups.1)
  way_most zero (suc (suc zero)) (suc (suc (suc zero))) lb lc ld eb ec ed = omega (arith, groups.1)
  way_most zero (suc (suc zero)) (suc (suc (suc (suc d)))) lb lc ld eb ec ed = absurd (omega arith)
  way_most zero (suc (suc (suc c))) d lb lc ld eb ec ed = absurd (omega arith)
  way_most (suc zero) zero zero lb lc ld eb ec ed = omega (arith, groups.2)
  way_most (suc zero) zero (suc zero) lb lc ld eb ec ed = omega (arith, groups.0)
  way_most (suc zero) zero (suc (suc zero)) lb lc ld eb ec ed = absurd (omega arith)
  way_most (suc zero) zero (suc (suc (suc zero))) lb lc ld eb ec ed = omega (arith, groups.4)
  way_most (suc zero) zero (suc (suc (suc (suc d)))) lb lc ld eb ec ed = absurd (omega arith)
  way_most (suc zero) (suc zero) zero lb lc ld eb ec ed = omega (arith, groups.3)
  way_most (suc zero) (suc zero) (suc zero) lb lc ld eb ec ed = omega (arith, groups.2)
  way_most (suc zero) (suc zero) (suc (suc zero)) lb lc ld eb ec ed = absurd (omega arith)
  way_most (suc zero) (suc zero) (suc (suc (suc zero))) lb lc ld eb ec ed = omega (arith, groups.3)
  way_most (suc zero) (suc zero) (suc (suc (suc (suc d)))) lb lc ld eb ec ed = absurd (omega arith)
  way_most (suc zero) (suc (suc zero)) zero lb lc ld eb ec ed = omega (arith, groups.3)
  way_most (suc zero) (suc (suc zero)) (suc zero) lb lc ld eb ec ed = omega (arith, groups.4)
  way_most (suc zero) (suc (suc zero)) (suc (suc zero)) lb lc ld eb ec ed = omega (arith, groups.1)
  way_most (suc zero) (suc (suc zero)) (suc (suc (suc zero))) lb lc ld eb ec ed = omega (arith, groups.1)
  way_most (suc zero) (suc (suc zero)) (suc (suc (suc (suc d)))) lb lc ld eb ec ed = absurd (omega arith)
  way_most (suc zero) (suc (suc (suc c))) d lb lc ld eb ec ed = absurd (omega arith)
  way_most (suc (suc b)) c d lb lc ld eb ec ed = absurd (omega arith)

-- what is no greater than any way's value, and no greater than what a line makes with a half in either form
module _ (F : List ℕ → ℕ) (L : (zeros ones : List ℕ) → ℕ) (w z : ℕ) (h : (r : ℕ → ℕ) → T (is_shape r) → z ≤ w + value r F)
    (first : z ≤ first_line F L) (second : z ≤ second_line F L) (both : z ≤ L (0 ∷ []) (1 ∷ []) + L (2 ∷ []) (3 ∷ []))
    (lower : (z ≤ w + one_node + two F 2 3 + L (0 ∷ []) (1 ∷ [])) × (z ≤ w + 2 * one_node + (one F 2 + one F 3) + L (0 ∷ []) (1 ∷ [])))
    (upper : (z ≤ w + one_node + two F 0 1 + L (2 ∷ []) (3 ∷ [])) × (z ≤ w + 2 * one_node + (one F 0 + one F 1) + L (2 ∷ []) (3 ∷ []))) where
  halves_above : z ≤ w + halves_alike F L
  unfolding is_shape all apart half_apart is_one sum members
  halves_above = omega (arith, h (four 0 0 0 0) tt, h (four 0 1 0 1) tt, second)

  tree_above : z ≤ w + tree_like F L
  unfolding is_shape all apart half_apart is_one sum members
  tree_above =
      omega (arith, h (four 0 0 2 2) tt, h (four 0 0 2 3) tt, h (four 0 1 2 2) tt, h (four 0 1 2 3) tt, both, lower.0, lower.1, upper.0, upper.1)

  three_above : z ≤ w + three_alike F
  unfolding is_shape all apart half_apart is_one sum members
  three_above = omega (arith, h (four 0 0 0 3) tt, h (four 0 0 2 0) tt, h (four 0 1 0 0) tt, h (four 0 1 1 1) tt)

  crossed_above : z ≤ w + (3 * one_node + crossed_alike F)
  unfolding is_shape all apart half_apart is_one sum members
  crossed_above = omega (arith, h (four 0 1 1 0) tt, h (four 0 1 2 0) tt, h (four 0 1 1 3) tt)

  beside_above : z ≤ w + (3 * one_node + beside_alike F)
  unfolding is_shape all apart half_apart is_one sum members
  beside_above = omega (arith, h (four 0 1 0 3) tt, h (four 0 1 2 1) tt)

  pub way_least : z ≤ w + least_way F L
  unfolding least_way
  way_least =
      least (halves_alike F L) (tree_like F L) (three_alike F) (crossed_alike F) (beside_alike F) (first_line F L) halves_above tree_above three_above crossed_above
      beside_above (omega (arith, first))
    where
      least : (a b c d e f : ℕ) → z ≤ w + a → z ≤ w + b → z ≤ w + c → z ≤ w + (3 * one_node + d) → z ≤ w + (3 * one_node + e) → z ≤ w + f
          → z ≤ w + min (min (min a f) b) (min c (3 * one_node + min d e))
      least a b c d e f ha hb hc hd he hf = omega arith

-- the least of one class, a line, and two classes with a selector, from what is found of each: no greater than the class
pub least_found : (m : ℕ) {x y q s r x' y' q' : ℕ} → s ≡ min x y → r ≡ min s (one_node + q) → x ≡ x' → y ≡ y' → q ≡ q' → x ≤ m
    → (r ≡ min (min x' y') (one_node + q')) × (r ≤ m)
least_found m es er ex ey eq l = (er ∙ ap₂ min (es ∙ ap₂ min ex ey) (ap (λ z. one_node + z) eq), omega (arith, es, er))
