-- Every table is met by a combination that gives no more than its rank: its own coincidences, and its own literals of the last input.
use Prim.Native.Nat.{ℕ, ◌+◌, ◌*◌, ◌^◌, ◌<◌, ◌≤◌}
use mathlib.Core.Path.{◌≡◌, refl, sym, ap, subst, ◌∙◌}
use mathlib.Core.Logic.{⊎_elim}
use mathlib.Core.Bool.{Bool, true, false, cond, not, ◌&&◌}
use mathlib.Core.List.{List}
use native.Mathlib.Omega.{arith}
use native.Mathlib.Nat.{le_antisymm}
use lib.Dec.{T, T_not, eqb, ltb, ltb→lt, nltb→le, eqb→eq}
use Rattle.base.specs.Lowest.{lowest}
use Rattle.base.proofs.Lowest.{lowest_le, lowest_is, lowest_below}
use Rattle.base.proofs.Tests.{cond_has, cond_has₂, and_intro, and_left, and_right, decide, eq_test}
use Rattle.table.specs.Bits.{sum, is_one}
use Rattle.table.specs.Cells.{low, high, wired_table}
use Rattle.table.specs.Pick.{Proj, suits}
use Rattle.table.specs.Inner.Ranks.{rank}
use Rattle.table.proofs.Below.{any_intro}
use Rattle.table.proofs.Bits.{sum_cong, sum_le}
use Rattle.nodes.specs.Nodes.{nodes}
use Rattle.nodes.specs.Inner.Tops.{top_price}
use Rattle.nodes.specs.Inner.Ways.{one_node, place_of, all_places, ones_quarter, no_line, places}
use Rattle.nodes.proofs.Quarters.{below2, halves_of, quarters_of, quarters_lt, quarters_suit, made_sum, made_again}
use Rattle.nodes.proofs.Framed.{apart, half_apart, frame_price, frame_whole, uses, within, owns}
use Rattle.nodes.proofs.OwnFrame.{ends, nodes_least}
use Rattle.nodes.proofs.Classes.{members, stands, all_stands, ok, line_stands, class_value, line_value, shown_le, value, places_most, exchange, sum_apart}
use Rattle.nodes.proofs.Sound.{fit_in}

-- the first place that has what place i has
unfoldable pub first : (ℕ → ℕ) → ℕ → ℕ
first f i = lowest i (λ j. eqb (f j) (f i))

module _ (f : ℕ → ℕ) where
  pub first_le : (i : ℕ) → first f i ≤ i
  unfolding first
  first_le i = lowest_le i (λ j. eqb (f j) (f i))

  first_same : (i : ℕ) → f (first f i) ≡ f i
  unfolding first
  first_same i =
      let k = lowest i (λ j. eqb (f j) (f i)) in
      ⊎_elim (λ t. eqb→eq (f k) (f i) (lowest_is i (λ j. eqb (f j) (f i)) (ltb→lt k i t)))
      (λ t. ap f (le_antisymm (first_le i) (nltb→le k i t))) (decide (ltb k i))

  first_below : (i j : ℕ) → f j ≡ f i → first f i ≤ j
  unfolding first
  first_below i j e =
      ⊎_elim (λ t. lowest_below i (λ j. eqb (f j) (f i)) j (ltb→lt j i t) (eq_test e)) (λ t. omega (arith, first_le i, nltb→le j i t)) (decide (ltb j i))

  first_eq : (i j : ℕ) → f i ≡ f j → first f i ≡ first f j
  first_eq i j e = le_antisymm (first_below i (first f j) (first_same j ∙ sym e)) (first_below j (first f i) (first_same i ∙ e))

  pub first_again : (i : ℕ) → first f (first f i) ≡ first f i
  first_again i = first_eq (first f i) i (first_same i)

-- A way whose classes have equal quarters, and which tells no selector that the table does not need: by it the table's rank is at least its selectors and
-- its own quarters in their places.
module _ (t : ℕ) where
  abbrev q : ℕ → ℕ
  q = quarters_of t

  -- a quarter at some places, with its own selector
  abbrev pub at_places : ℕ → ℕ → ℕ
  at_places j m = top_price (q j) * one_node + q j * m

  module _ (r : ℕ → ℕ) (inside : (j : ℕ) → j < 4 → r j < 4) (again : (j : ℕ) → j < 4 → r (r j) ≡ r j) (alike : (j : ℕ) → j < 4 → q (r j) ≡ q j)
      (counted : frame_price r t + sum 4 (λ j. cond (eqb (r j) j) (top_price (q j)) 0) + is_one (ends t 1) ≤ nodes 4 t) where
    pub own_rank : (is_one (ends t 1) + frame_price r t) * one_node + sum 4 (λ j. cond (eqb (r j) j) (at_places j (places (members r j 4))) 0) ≤ rank (nodes 4) t
    unfolding rank
    own_rank =
        let g : ℕ → ℕ = λ j. cond (eqb (r j) j) (at_places j (places (members r j 4))) 0 in
        let w = sum_apart g (λ j. cond (eqb (r j) j) (top_price (q j)) 0) (λ j. cond (eqb (r j) j) (q j * places (members r j 4)) 0)
        (λ j l. split (eqb (r j) j) (top_price (q j)) (q j * places (members r j 4))) in
        let s = sum_cong 4 (λ j. q (r j) * place_of j) (λ j. q j * place_of j) (λ j l. ap (λ y. y * place_of j) (alike j l)) in
        omega (arith, w, exchange r q inside again, s, counted, made_sum q, made_again t)
      where
        split : (b : Bool) (x y : ℕ) → cond b (x * one_node + y) 0 ≡ cond b x 0 * one_node + cond b y 0
        split true x y = refl
        split false x y = refl

  -- its own coincidences
  abbrev r : ℕ → ℕ
  r = first q

  differ : (j k : ℕ) → T (not (eqb (r j) (r k))) → q j ≡ q k → ⊥
  differ j k n e = T_not (eqb (r j) (r k)) n (eq_test (first_eq q j k e))

  pub own_least : frame_price r t + sum 4 (λ j. cond (eqb (r j) j) (top_price (q j)) 0) + is_one (ends t 1) ≤ nodes 4 t
  unfolding apart half_apart owns
  own_least =
      nodes_least r t
      (λ n e.
      T_not (eqb (r 0) (r 2) && eqb (r 1) (r 3)) n
      (and_intro (eqb (r 0) (r 2)) (eqb (r 1) (r 3)) (eq_test (first_eq q 0 2 (ap (low 2) e))) (eq_test (first_eq q 1 3 (ap (high 2) e)))))
      (below2 (λ k. T (half_apart r k) → low 2 (halves_of t k) ≡ high 2 (halves_of t k) → ⊥) (differ 0 1)
      (λ o. differ 2 3 (and_right (apart r) (not (eqb (r 2) (r 3))) o)))
      (λ j k l m o n e.
      omega (
        arith,
        first_eq q j k e,
        eqb→eq (r j) j (and_left (eqb (r j) j) (not (eqb (low 1 (q j)) (high 1 (q j)))) o),
        eqb→eq (r k) k (and_left (eqb (r k) k) (not (eqb (low 1 (q k)) (high 1 (q k)))) n),
      ))

-- the inverse of the last input occurs where the table has it
pub own : (t j : ℕ) → j < 4 → T (within (ends t 1) (quarters_of t j))
unfolding within
own t j l = cond_has T (uses 1 (quarters_of t j)) (λ u. any_intro 4 (λ j. uses 1 (quarters_of t j)) j l u) (λ _. tt)

-- no class, and no line, gives more than the table's own quarters in its places
module _ (P : Proj) (t : ℕ) (lt : t < 2 ^ (2 ^ 4)) (fits : T (suits 4 P t)) where
  abbrev fit : ℕ → ℕ → Bool
  fit = fit_in P

  abbrev L : (zeros ones : List ℕ) → ℕ
  L = line_value fit

  pub stands_own : (j x : ℕ) → j < 4 → q t j ≡ x → T (fit j x)
  stands_own j x l e = subst (λ y. T (fit j y)) e (quarters_suit P t fits j l)

  pub line_le : (js ks : List ℕ) → T (stands fit js 0) → T (stands fit ks ones_quarter) → L js ks ≤ places ks * ones_quarter
  line_le js ks a b =
      cond_has (λ x. x ≤ places ks * ones_quarter) (line_stands fit js ks) {x = places ks * ones_quarter} {y = no_line} (λ _. omega arith)
      (λ n. absurd (T_not (line_stands fit js ks) n (and_intro (stands fit js 0) (stands fit ks ones_quarter) a b)))

  -- where the inverse may occur as it does in the table
  module _ (i : Bool) (allowed : (j : ℕ) → j < 4 → T (within i (q t j))) where
    abbrev F : List ℕ → ℕ
    F = class_value fit i

    pub class_le : (js : List ℕ) (j : ℕ) → j < 4 → T (stands fit js (q t j)) → places js ≤ all_places → F js ≤ at_places t j (places js)
    class_le js j l s = shown_le (ok fit i js) (q t j) (places js) (quarters_lt t lt j l) (and_intro (stands fit js (q t j)) (within i (q t j)) s (allowed j l))

    -- the table's own coincidences, where no selector on the first two inputs is soldered through
    pub own_met : T (not (wired_table 3 t)) → T (not (wired_table 2 (low 3 t))) → T (not (wired_table 2 (high 3 t)))
        → is_one (ends t 1) * one_node + value (r t) F ≤ rank (nodes 4) t
    own_met a b c =
        let f : ℕ → ℕ = λ j. cond (eqb (r t j) j) (F (members (r t) j 4)) 0 in
        let g : ℕ → ℕ = λ j. cond (eqb (r t j) j) (at_places t j (places (members (r t) j 4))) 0 in
        let s = sum_le 4 f g (λ j l. cond_has₂ (λ x y. x ≤ y) (eqb (r t j) j) (λ _. own_le j l) (λ _. omega arith)) in
        let n = own_rank t (r t) (λ j l. omega (arith, first_le (q t) j)) (λ j l. first_again (q t) j) (λ j l. first_same (q t) j) (own_least t) in
        omega (arith, s, n, frame_whole (r t) t a b c)
      where
        own_le : (j : ℕ) → j < 4 → F (members (r t) j 4) ≤ at_places t j (places (members (r t) j 4))
        own_le j l =
            class_le (members (r t) j 4) j l
            (all_stands fit (r t) j (q t j) 4 (λ k b e. stands_own k (q t j) b (sym (first_same (q t) k) ∙ ap (q t) e)))
            (places_most (r t) j)
