-- Every table that has a line on input 1 or 2 is met by a combination with that line that gives no more than its rank.
use Prim.Native.Nat.{ℕ, zero, suc, ◌+◌, ◌*◌, ◌^◌, ◌<◌, ◌≤◌, min}
use mathlib.Core.Path.{◌≡◌, refl, sym, ap, ◌∙◌}
use mathlib.Core.Logic.{◌⊎◌, ⊎_elim}
use mathlib.Core.Bool.{Bool, true, false, cond, not}
use mathlib.Core.List.{List, [], ◌∷◌}
use native.Mathlib.Omega.{arith}
use lib.Dec.{T, T_not, eqb, eqb→eq}
use Rattle.base.proofs.Tests.{cond_has, and_intro, and_left, and_right, decide, eq_test}
use Rattle.table.specs.Bits.{sum, is_one}
use Rattle.table.specs.Cells.{low, high, full, wired_table}
use Rattle.table.specs.Pick.{Proj, suits}
use Rattle.table.specs.Inner.Ranks.{rank}
use Rattle.table.proofs.Wired.{wired_halves, not_wired_one}
use Rattle.nodes.specs.Nodes.{node, price, nodes}
use Rattle.nodes.specs.Inner.Ways.{one_node, ones_quarter, all_places, places, one, two, tree_like}
use Rattle.nodes.proofs.Quarters.{below4, below2, halves_of, quarters_of, made_sum, made_again}
use Rattle.nodes.proofs.Framed.{apart, half_apart, frame_price, within, owns}
use Rattle.nodes.proofs.OwnFrame.{ends, nodes_least}
use Rattle.nodes.proofs.Classes.{shape_inside, shape_again, tree_way, tree_shape, members, stands, class_value, line_value}
use Rattle.nodes.proofs.Sound.{fit_in}
use Rattle.nodes.proofs.Complete.{at_places, own_rank, own_least, stands_own, line_le, class_le}

-- a half that is a line has constant quarters, which need no selector of their own
line_flat : (h : ℕ) → T (wired_table 2 h) → (low 1 (low 2 h) ≡ high 1 (low 2 h)) × (low 1 (high 2 h) ≡ high 1 (high 2 h))
unfolding low high full
line_flat h w = let e = wired_halves 2 h w in (ap (low 1) e.0 ∙ sym (ap (high 1) e.0), ap (low 1) e.1 ∙ sym (ap (high 1) e.1))

-- halves that differ and share no quarter that needs a selector
module _ (t : ℕ) (a b : Bool)
    (lower : T a → quarters_of t 0 ≡ quarters_of t 1) (lower_not : T (not a) → quarters_of t 0 ≡ quarters_of t 1 → ⊥)
    (upper : T b → quarters_of t 2 ≡ quarters_of t 3) (upper_not : T (not b) → quarters_of t 2 ≡ quarters_of t 3 → ⊥)
    (differ : low 3 t ≡ high 3 t → ⊥)
    (flat : (j k : ℕ) → j < 4 → 2 ≤ j → k < 2 → quarters_of t j ≡ quarters_of t k → low 1 (quarters_of t j) ≡ high 1 (quarters_of t j)) where
  abbrev q : ℕ → ℕ
  q = quarters_of t

  abbrev r : ℕ → ℕ
  r = tree_way a b

  abbrev needs_own : ℕ → Bool
  needs_own j = not (eqb (low 1 (q j)) (high 1 (q j)))

  across : (j k : ℕ) → j < 4 → 2 ≤ j → k < 2 → T (owns r (q j) j) → q j ≡ q k → ⊥
  unfolding owns
  across j k l h m o e = T_not (eqb (low 1 (q j)) (high 1 (q j))) (and_right (eqb (r j) j) (needs_own j) o) (eq_test (flat j k l h m e))

  firsts : (j k : ℕ) → j < 4 → k < j → T (owns r (q j) j) → T (owns r (q k) k) → q j ≡ q k → ⊥
  unfolding owns
  firsts zero k l m o n e = omega arith
  firsts (suc zero) zero l m o n e =
      cond_has (λ x. T (eqb x 1) → ⊥) a {x = 0} {y = 1} (λ _ y. y) (λ y _. lower_not y (sym e)) (and_left (eqb (r 1) 1) (needs_own 1) o)
  firsts (suc zero) (suc k) l m o n e = omega arith
  firsts (suc (suc zero)) k l m o n e = across 2 k l (omega arith) m o e
  firsts (suc (suc (suc zero))) zero l m o n e = across 3 0 l (omega arith) (omega arith) o e
  firsts (suc (suc (suc zero))) (suc zero) l m o n e = across 3 1 l (omega arith) (omega arith) o e
  firsts (suc (suc (suc zero))) (suc (suc zero)) l m o n e =
      cond_has (λ x. T (eqb x 3) → ⊥) b {x = 2} {y = 3} (λ _ y. y) (λ y _. upper_not y (sym e)) (and_left (eqb (r 3) 3) (needs_own 3) o)
  firsts (suc (suc (suc zero))) (suc (suc (suc k))) l m o n e = omega arith
  firsts (suc (suc (suc (suc j)))) k l m o n e = omega arith

  tree_rank : (is_one (ends t 1) + frame_price r t) * one_node + sum 4 (λ j. cond (eqb (r j) j) (at_places t j (places (members r j 4))) 0) ≤ rank (nodes 4) t
  unfolding half_apart
  tree_rank =
      own_rank t r (shape_inside r (tree_shape a b)) (shape_again r (tree_shape a b))
      (below4 (λ j. q (r j) ≡ q j) refl (cond_has (λ x. q x ≡ q 1) a lower (λ _. refl)) refl (cond_has (λ x. q x ≡ q 3) b upper (λ _. refl)))
      (nodes_least r t (λ _. differ)
      (below2 (λ k. T (half_apart r k) → low 2 (halves_of t k) ≡ high 2 (halves_of t k) → ⊥)
      (cond_has (λ x. T (not (eqb 0 x)) → q 0 ≡ q 1 → ⊥) a (λ _ n. absurd n) (λ n _. lower_not n))
      (λ o. cond_has (λ x. T (not (eqb 2 x)) → q 2 ≡ q 3 → ⊥) b (λ _ n. absurd n) (λ n _. upper_not n) (and_right (apart r) (not (eqb 2 (r 3))) o)))
      firsts)

module _ (P : Proj) (t : ℕ) (lt : t < 2 ^ (2 ^ 4)) (fits : T (suits 4 P t)) where
  abbrev fit : ℕ → ℕ → Bool
  fit = fit_in P

  abbrev L : (zeros ones : List ℕ) → ℕ
  L = line_value fit

  abbrev at : (j x : ℕ) → j < 4 → quarters_of t j ≡ x → T (fit j x)
  at = stands_own P t lt fits

  -- the table is an input itself
  line_met : (js ks : List ℕ) → T (stands fit js 0) → T (stands fit ks ones_quarter) → t ≡ places ks * ones_quarter
      → is_one (ends t 1) * one_node + L js ks ≤ rank (nodes 4) t
  unfolding rank
  line_met js ks a b e = omega (arith, line_le P t lt fits js ks a b, own_least t, e)

  pub first_line_met : T (wired_table 3 t) → is_one (ends t 1) * one_node + L (1 ∷ 0 ∷ []) (3 ∷ 2 ∷ []) ≤ rank (nodes 4) t
  unfolding low high full stands sum
  first_line_met w =
      let e = wired_halves 3 t w in
      let a : quarters_of t 0 ≡ 0 = ap (low 2) e.0 in
      let b : quarters_of t 1 ≡ 0 = ap (high 2) e.0 in
      let c : quarters_of t 2 ≡ ones_quarter = ap (low 2) e.1 in
      let d : quarters_of t 3 ≡ ones_quarter = ap (high 2) e.1 in
      line_met (1 ∷ 0 ∷ []) (3 ∷ 2 ∷ []) (and_intro (fit 0 0) (fit 1 0) (at 0 0 (omega arith) a) (at 1 0 (omega arith) b))
      (and_intro (fit 2 ones_quarter) (fit 3 ones_quarter) (at 2 ones_quarter (omega arith) c) (at 3 ones_quarter (omega arith) d))
      (omega (arith, made_sum (quarters_of t), made_again t, a, b, c, d))

  pub second_line_met : T (wired_table 2 (low 3 t)) → low 3 t ≡ high 3 t → is_one (ends t 1) * one_node + L (2 ∷ 0 ∷ []) (3 ∷ 1 ∷ []) ≤ rank (nodes 4) t
  unfolding full stands sum
  second_line_met w s =
      let e = wired_halves 2 (low 3 t) w in
      let a : quarters_of t 0 ≡ 0 = e.0 in
      let b : quarters_of t 1 ≡ ones_quarter = e.1 in
      let c : quarters_of t 2 ≡ 0 = sym (ap (low 2) s) ∙ a in
      let d : quarters_of t 3 ≡ ones_quarter = sym (ap (high 2) s) ∙ b in
      line_met (2 ∷ 0 ∷ []) (3 ∷ 1 ∷ []) (and_intro (fit 0 0) (fit 2 0) (at 0 0 (omega arith) a) (at 2 0 (omega arith) c))
      (and_intro (fit 1 ones_quarter) (fit 3 ones_quarter) (at 1 ones_quarter (omega arith) b) (at 3 ones_quarter (omega arith) d))
      (omega (arith, made_sum (quarters_of t), made_again t, a, b, c, d))

  -- one half is a line
  module _ (i : Bool) (allowed : (j : ℕ) → j < 4 → T (within i (quarters_of t j))) where
    abbrev F : List ℕ → ℕ
    F = class_value fit i

    abbrev class_most : (js : List ℕ) (j : ℕ) → j < 4 → T (stands fit js (quarters_of t j)) → places js ≤ all_places → F js ≤ at_places t j (places js)
    class_most = class_le P t lt fits i allowed

    -- the quarters m and n of a half: they coincide, or they do not and it may be a line
    joined_half : (m n : ℕ) → m < 4 → n < 4 → places (n ∷ m ∷ []) ≤ all_places → quarters_of t m ≡ quarters_of t n → two F m n ≤ at_places t m (places (n ∷ m ∷ []))
    unfolding stands
    joined_half m n lm ln p e =
        let x = quarters_of t m in
        class_most (n ∷ m ∷ []) m lm (and_intro (fit m x) (fit n x) (at m x lm refl) (at n x ln (sym e))) p

    apart_half : (m n h : ℕ) → m < 4 → n < 4 → places (m ∷ []) ≤ all_places → places (n ∷ []) ≤ all_places → quarters_of t m ≡ low 2 h → quarters_of t n ≡ high 2 h
        → min (L (m ∷ []) (n ∷ [])) (one_node + (one F m + one F n))
        ≤ price (node 2 h) * one_node + (at_places t m (places (m ∷ [])) + at_places t n (places (n ∷ [])))
    unfolding stands price full
    apart_half m n h lm ln pm pn em en =
        ⊎_elim
        (λ w.
        let e = wired_halves 2 h w in
        let d : quarters_of t n ≡ ones_quarter = en ∙ e.1 in
        omega (arith, line_le P t lt fits (m ∷ []) (n ∷ []) (at m 0 lm (em ∙ e.0)) (at n ones_quarter ln d), ap (λ x. x * places (n ∷ [])) d))
        (λ w.
        omega (
          arith,
          not_wired_one (wired_table 2 h) w,
          class_most (m ∷ []) m lm (at m (quarters_of t m) lm refl) pm,
          class_most (n ∷ []) n ln (at n (quarters_of t n) ln refl) pn,
        ))
        (decide (wired_table 2 h))

    lower_apart : min (L (0 ∷ []) (1 ∷ [])) (one_node + (one F 0 + one F 1)) ≤ price (node 2 (low 3 t)) * one_node + (at_places t 0 0x1 + at_places t 1 0x10)
    lower_apart = apart_half 0 1 (low 3 t) (omega arith) (omega arith) (omega arith) (omega arith) refl refl

    upper_apart : min (L (2 ∷ []) (3 ∷ [])) (one_node + (one F 2 + one F 3)) ≤ price (node 2 (high 3 t)) * one_node + (at_places t 2 0x100 + at_places t 3 0x1000)
    upper_apart = apart_half 2 3 (high 3 t) (omega arith) (omega arith) (omega arith) (omega arith) refl refl

    tree_le : (a b : Bool) → (T a → quarters_of t 0 ≡ quarters_of t 1) → (T b → quarters_of t 2 ≡ quarters_of t 3) → price (node 3 t) ≡ 1
        → tree_like F L ≤ frame_price (tree_way a b) t * one_node + sum 4 (λ j. cond (eqb (tree_way a b j) j) (at_places t j (places (members (tree_way a b) j 4))) 0)
    unfolding apart half_apart sum members
    tree_le true true x y e =
        omega (arith, e, joined_half 0 1 (omega arith) (omega arith) (omega arith) (x tt), joined_half 2 3 (omega arith) (omega arith) (omega arith) (y tt))
    tree_le true false x y e = omega (arith, e, joined_half 0 1 (omega arith) (omega arith) (omega arith) (x tt), upper_apart)
    tree_le false true x y e = omega (arith, e, lower_apart, joined_half 2 3 (omega arith) (omega arith) (omega arith) (y tt))
    tree_le false false x y e = omega (arith, e, lower_apart, upper_apart)

    tree_met : (low 3 t ≡ high 3 t → ⊥) → T (not (wired_table 3 t))
        → ((j k : ℕ) → j < 4 → 2 ≤ j → k < 2 → quarters_of t j ≡ quarters_of t k → low 1 (quarters_of t j) ≡ high 1 (quarters_of t j))
        → is_one (ends t 1) * one_node + tree_like F L ≤ rank (nodes 4) t
    unfolding price
    tree_met d w flat =
        let q = quarters_of t in
        let yes : (x y : ℕ) → T (eqb x y) → x ≡ y = λ x y h. eqb→eq x y h in
        let no : (x y : ℕ) → T (not (eqb x y)) → x ≡ y → ⊥ = λ x y n e. T_not (eqb x y) n (eq_test e) in
        let a = eqb (q 0) (q 1) in
        let b = eqb (q 2) (q 3) in
        let m = tree_rank t a b (yes (q 0) (q 1)) (no (q 0) (q 1)) (yes (q 2) (q 3)) (no (q 2) (q 3)) d flat in
        omega (arith, m, tree_le a b (yes (q 0) (q 1)) (yes (q 2) (q 3)) (not_wired_one (wired_table 3 t) w))

    pub half_line_met : (low 3 t ≡ high 3 t → ⊥) → T (not (wired_table 3 t)) → T (wired_table 2 (low 3 t)) ⊎ T (wired_table 2 (high 3 t))
        → is_one (ends t 1) * one_node + tree_like F L ≤ rank (nodes 4) t
    half_line_met d w s =
        tree_met d w
        (⊎_elim
        (λ h j k l g m e.
        let f : low 1 (quarters_of t k) ≡ high 1 (quarters_of t k) =
        below2 (λ k. low 1 (quarters_of t k) ≡ high 1 (quarters_of t k)) (line_flat (low 3 t) h).0 (line_flat (low 3 t) h).1 k m in
        ap (low 1) e ∙ f ∙ sym (ap (high 1) e))
        (λ h j k l g m e. upper_flat h j l g)
        s)
      where
        upper_flat : T (wired_table 2 (high 3 t)) → (j : ℕ) → j < 4 → 2 ≤ j → low 1 (quarters_of t j) ≡ high 1 (quarters_of t j)
        upper_flat h =
            below4 (λ j. 2 ≤ j → low 1 (quarters_of t j) ≡ high 1 (quarters_of t j)) (λ g. absurd (omega arith)) (λ g. absurd (omega arith))
            (λ _. (line_flat (high 3 t) h).0) (λ _. (line_flat (high 3 t) h).1)
