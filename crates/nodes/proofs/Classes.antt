-- Classes of quarters: what stands in all quarters of a class, the best of it, and the rank that the classes make together.
use Prim.Native.Nat.{ℕ, zero, suc, ◌+◌, ◌*◌, ◌<◌, ◌≤◌}
use mathlib.Core.Path.{◌≡◌, refl, sym, ap, subst, ◌∙◌}
use mathlib.Core.Logic.{⊎_elim}
use mathlib.Core.Bool.{Bool, true, false, cond, ◌&&◌}
use mathlib.Core.List.{List, [], ◌∷◌}
use mathlib.Core.Option.{Option, none, some}
use native.Mathlib.Omega.{arith}
use native.Mathlib.Nat.{mul-le-mul_right, mul-add, not-suc-le-zero}
use lib.Dec.{T, T_not, eqb, ltb, ltb→lt, nltb→le, eqb→eq}
use Rattle.base.proofs.Tests.{cond_has, cond_has₂, and_intro, and_left, and_right, below_suc, decide, eq_test, eqb_yes, eqb_not}
use Rattle.table.specs.Bits.{sum, all}
use Rattle.table.specs.Pick.{least}
use Rattle.table.specs.Inner.Blocks.{no_table}
use Rattle.table.specs.Inner.Pairs.{block_space}
use Rattle.table.proofs.Below.{all_at}
use Rattle.table.proofs.Bits.{sum_cong, sum_le, sum_but_one}
use Rattle.table.proofs.Least.{Least, least_is}
use Rattle.nodes.specs.Inner.Tops.{top_price}
use Rattle.nodes.specs.Inner.Ways.{one_node, place_of, all_places, ones_quarter, no_line, four, places}
use Rattle.nodes.proofs.Framed.{within, frame}

-- a way in which quarters coincide: each is of the class of a quarter that is of its own
unfoldable pub is_shape : (ℕ → ℕ) → Bool
is_shape r = all 4 (λ j. ltb (r j) 4 && eqb (r (r j)) (r j))

module _ (r : ℕ → ℕ) (shape : T (is_shape r)) where
  pub shape_inside : (j : ℕ) → j < 4 → r j < 4
  unfolding is_shape
  shape_inside j l =
      ltb→lt (r j) 4 (and_left (ltb (r j) 4) (eqb (r (r j)) (r j)) (all_at 4 (λ j. ltb (r j) 4 && eqb (r (r j)) (r j)) shape j l))

  pub shape_again : (j : ℕ) → j < 4 → r (r j) ≡ r j
  unfolding is_shape
  shape_again j l =
      eqb→eq (r (r j)) (r j) (and_right (ltb (r j) 4) (eqb (r (r j)) (r j)) (all_at 4 (λ j. ltb (r j) 4 && eqb (r (r j)) (r j)) shape j l))

-- the halves share no quarter, and the quarters of the lower and of the upper coincide or not
abbrev pub tree_way : (lower upper : Bool) → ℕ → ℕ
tree_way a b = four 0 (cond a 0 1) 2 (cond b 2 3)

pub tree_shape : (a b : Bool) → T (is_shape (tree_way a b))
unfolding is_shape all
tree_shape true true = tt
tree_shape true false = tt
tree_shape false true = tt
tree_shape false false = tt

-- the members of the class i among the first k quarters, where quarter j is of the class r j
unfoldable pub members : (r : ℕ → ℕ) (i k : ℕ) → List ℕ
members r i zero = []
members r i (suc k) = let js = members r i k in cond (eqb (r k) i) (k ∷ js) js

-- x can stand in quarter j where `fit j x`: in all of a class
module _ (fit : ℕ → ℕ → Bool) where
  unfoldable pub stands : List ℕ → ℕ → Bool
  stands [] x = true
  stands (j ∷ js) x = stands js x && fit j x

  module _ (r : ℕ → ℕ) (i x : ℕ) where
    pub stands_all : (k : ℕ) → T (stands (members r i k) x) → (j : ℕ) → j < k → r j ≡ i → T (fit j x)
    unfolding stands members
    stands_all zero = λ s j l. absurd (not-suc-le-zero l)
    stands_all (suc k) =
        cond_has (λ js. T (stands js x) → (j : ℕ) → j < suc k → r j ≡ i → T (fit j x)) (eqb (r k) i)
        (λ _ s j l e.
        ⊎_elim (λ (d : j ≡ k). subst (λ m. T (fit m x)) (sym d) (and_right (stands (members r i k) x) (fit k x) s))
        (λ b. stands_all k (and_left (stands (members r i k) x) (fit k x) s) j b e) (below_suc l))
        (λ n s j l e.
        ⊎_elim (λ (d : j ≡ k). absurd (T_not (eqb (r k) i) n (eq_test (ap r (sym d) ∙ e)))) (λ b. stands_all k s j b e) (below_suc l))

    pub all_stands : (k : ℕ) → ((j : ℕ) → j < k → r j ≡ i → T (fit j x)) → T (stands (members r i k) x)
    unfolding stands members
    all_stands zero h = tt
    all_stands (suc k) h =
        let s = all_stands k (λ j l. h j (omega arith)) in
        cond_has (λ js. T (stands js x)) (eqb (r k) i)
        (λ e. and_intro (stands (members r i k) x) (fit k x) s (h k (omega arith) (eqb→eq (r k) i e))) (λ _. s)

  -- the best quarter of a class, of those that may occur
  abbrev pub ok : (inverted : Bool) → List ℕ → ℕ → Bool
  ok i js x = stands js x && within i x

  abbrev pub best : (inverted : Bool) → List ℕ → Option ℕ
  best i js = least top_price (ok i js) block_space

  -- constant 0 in the quarters of one class, constant 1 in those of another: the line of an input
  abbrev pub line_stands : (zeros ones : List ℕ) → Bool
  line_stands js ks = stands js 0 && stands ks ones_quarter

-- a quarter at the places of its class, with its own selector counted; more than any table has where there is none
unfoldable pub shown : Option ℕ → ℕ → ℕ
shown none m = no_table * one_node
shown (some x) m = top_price x * one_node + x * m

abbrev pub class_value : (ℕ → ℕ → Bool) → (inverted : Bool) → List ℕ → ℕ
class_value fit i js = shown (best fit i js) (places js)

-- what a line gives: more than any table has where it may not stand
abbrev pub line_value : (ℕ → ℕ → Bool) → (zeros ones : List ℕ) → ℕ
line_value fit js ks = cond (line_stands fit js ks) (places ks * ones_quarter) no_line

-- no other quarter is better at the same places
pub shown_le : (fit : ℕ → Bool) (y m : ℕ) → y < block_space → T (fit y) → m ≤ all_places → shown (least top_price fit block_space) m ≤ top_price y * one_node + y * m
unfolding shown
shown_le fit y m l f b = go (least top_price fit block_space) (least_is top_price fit block_space)
  where
    go : (o : Option ℕ) → Least top_price fit block_space o → shown o m ≤ top_price y * one_node + y * m
    go none h = absurd (h y l f)
    go (some x) h =
        let a = h.2 y l f in
        ⊎_elim
        (λ t. let c = ltb→lt (top_price x) (top_price y) t in let k : x ≤ 15 = omega (arith, h.0) in omega (arith, mul-le-mul_right m k))
        (λ t. omega (arith, mul-le-mul_right m (h.3 y l f (nltb→le (top_price x) (top_price y) t)))) (decide (ltb (top_price x) (top_price y)))

-- the value of a way: what its classes give together, and the selectors on the first two inputs
abbrev pub value : (ℕ → ℕ) → (List ℕ → ℕ) → ℕ
value r F = frame r * one_node + sum 4 (λ j. cond (eqb (r j) j) (F (members r j 4)) 0)

module _ (r : ℕ → ℕ) where
  pub places_sum : (i k : ℕ) → places (members r i k) ≡ sum k (λ j. cond (eqb (r j) i) (place_of j) 0)
  unfolding members sum
  places_sum i zero = refl
  places_sum i (suc k) =
      let e = places_sum i k in
      cond_has₂ (λ js x. places js ≡ sum k (λ j. cond (eqb (r j) i) (place_of j) 0) + x) (eqb (r k) i)
      {x = k ∷ members r i k} {y = members r i k} {u = place_of k} {v = 0} (λ _. omega arith) (λ _. omega arith)

  pub places_most : (i : ℕ) → places (members r i 4) ≤ all_places
  unfolding sum
  places_most i =
      let s = sum_le 4 (λ j. cond (eqb (r j) i) (place_of j) 0) place_of
      (λ j l. cond_has (λ x. x ≤ place_of j) (eqb (r j) i) {x = place_of j} {y = 0} (λ _. omega arith) (λ _. omega arith)) in
      omega (arith, s, places_sum i 4)

  -- the best quarters of the classes, each at the places of its class, are the table of the quarters
  module _ (x : ℕ → ℕ) (inside : (j : ℕ) → j < 4 → r j < 4) (again : (j : ℕ) → j < 4 → r (r j) ≡ r j) where
    abbrev at : ℕ → ℕ → ℕ
    at k j = cond (eqb (r j) j) (x j * sum k (λ m. cond (eqb (r m) j) (place_of m) 0)) 0

    exchanged : (k : ℕ) → k ≤ 4 → sum 4 (at k) ≡ sum k (λ j. x (r j) * place_of j)
    unfolding sum
    exchanged zero l = none
      where
        none : sum 4 (at zero) ≡ zero
        none = omega (arith, zero_at 0, zero_at 1, zero_at 2, zero_at 3)
          where
            zero_at : (j : ℕ) → at zero j ≡ 0
            zero_at j = cond_has (λ y. y ≡ 0) (eqb (r j) j) {x = x j * 0} {y = 0} (λ _. omega arith) (λ _. refl)
    exchanged (suc k) l =
        let i = r k in
        let b = sum_but_one (at k) (at (suc k)) 4 i (inside k (omega arith))
        (λ j d. ap (λ y. cond (eqb (r j) j) (x j * y) 0) (let e = eqb_not (r k) j (place_of k) 0 (λ e. d (sym e)) in omega arith)) in
        let o = again k (omega arith) in
        let s = sum k (λ m. cond (eqb (r m) i) (place_of m) 0) in
        let f : at k i ≡ x i * s = eqb_yes (r i) i (x i * s) 0 o in
        let g : at (suc k) i ≡ x i * (s + place_of k) =
        eqb_yes (r i) i (x i * sum (suc k) (λ m. cond (eqb (r m) i) (place_of m) 0)) 0 o
        ∙ ap (λ y. x i * (s + y)) (eqb_yes (r k) i (place_of k) 0 refl) in
        omega (arith, b, f, g, mul-add (x i) s (place_of k), exchanged k (omega arith))

    pub exchange : sum 4 (λ j. cond (eqb (r j) j) (x j * places (members r j 4)) 0) ≡ sum 4 (λ j. x (r j) * place_of j)
    exchange =
        sum_cong 4 (λ j. cond (eqb (r j) j) (x j * places (members r j 4)) 0) (at 4) (λ j l. ap (λ y. cond (eqb (r j) j) (x j * y) 0) (places_sum j 4))
        ∙ exchanged 4 (omega arith)

-- selectors and places summed apart
pub sum_apart : (f g h : ℕ → ℕ) → ((j : ℕ) → j < 4 → f j ≡ g j * one_node + h j) → sum 4 f ≡ sum 4 g * one_node + sum 4 h
unfolding sum
sum_apart f g h e = omega (arith, e 0 (omega arith), e 1 (omega arith), e 2 (omega arith), e 3 (omega arith))
