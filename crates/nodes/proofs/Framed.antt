-- The nodes that a table of four inputs has at most, by which of its quarters coincide and which literals of the last input they have.
use Prim.Native.Nat.{ℕ, zero, suc, ◌+◌, ◌^◌, ◌<◌, ◌≤◌}
use mathlib.Core.Path.{◌≡◌, refl, sym, ap, subst, ◌∙◌}
use mathlib.Core.Logic.{⊎_elim}
use mathlib.Core.Bool.{Bool, true, false, cond, not, ◌&&◌, ◌||◌}
use mathlib.Core.List.{List, []}
use native.Mathlib.Omega.{arith}
use lib.Dec.{T, T_not, not_T, eqb, eqb→eq, eqb_refl}
use Rattle.base.proofs.Tests.{and_intro, and_left, and_right, or_left, or_right, cond_has, decide, eq_test}
use Rattle.table.specs.Bits.{sum, is_one}
use Rattle.table.specs.Cells.{low, high, full, wired_table, selector_cells}
use Rattle.table.proofs.Bits.{sum_cong}
use Rattle.table.proofs.Halves.{low_lt, high_lt}
use Rattle.table.proofs.Wired.{wired_none, not_wired_one, selector_most}
use Rattle.nodes.specs.Nodes.{Node, node, has, listing, price, weight, nodes}
use Rattle.nodes.specs.Inner.Tops.{top_price}
use Rattle.nodes.proofs.Lists.{has_none, subset_weight}
use Rattle.nodes.proofs.Listing.{listing_once}
use Rattle.nodes.proofs.Held.{Holds, listing_within}
use Rattle.nodes.proofs.Gathered.{gathered, gathered_weight, gathered_rest, gathered_has}
use Rattle.nodes.proofs.Quarters.{below2, halves_of, quarters_of, quarters_lt, halves_equal}

-- Which selectors on the first two inputs there are, where quarter j is of the class r j: on the first input, and on the second in each half; a half that is
-- the other half has none of its own.
unfoldable pub apart : (ℕ → ℕ) → Bool
apart r = not (eqb (r 0) (r 2) && eqb (r 1) (r 3))

unfoldable pub half_apart : (ℕ → ℕ) → ℕ → Bool
half_apart r zero = not (eqb (r 0) (r 1))
half_apart r (suc i) = apart r && not (eqb (r 2) (r 3))

abbrev pub frame : (ℕ → ℕ) → ℕ
frame r = is_one (apart r) + is_one (half_apart r 0) + is_one (half_apart r 1)

-- what they count for in a table, less by those that are soldered through
abbrev pub half_price : (ℕ → ℕ) → (t k : ℕ) → ℕ
half_price r t k = cond (half_apart r k) (price (node 2 (halves_of t k))) 0

abbrev pub frame_price : (ℕ → ℕ) → ℕ → ℕ
frame_price r t = cond (apart r) (price (node 3 t)) 0 + half_price r t 0 + half_price r t 1

-- each counts for one at most
cond_most : (b : Bool) (k : Node) → cond b (price k) 0 ≤ is_one b
unfolding price is_one
cond_most true k = selector_most (wired_table k.after k.table)
cond_most false k = omega arith

pub frame_most : (r : ℕ → ℕ) (t : ℕ) → frame_price r t ≤ frame r
frame_most r t =
    omega (arith, cond_most (apart r) (node 3 t), cond_most (half_apart r 0) (node 2 (low 3 t)), cond_most (half_apart r 1) (node 2 (high 3 t)))

-- and one that is soldered through for none
pub frame_lined : (r : ℕ → ℕ) (t k : ℕ) → k < 2 → T (half_apart r k) → T (wired_table 2 (halves_of t k)) → suc (frame_price r t) ≤ frame r
unfolding price is_one
frame_lined r t =
    below2 (λ k. T (half_apart r k) → T (wired_table 2 (halves_of t k)) → suc (frame_price r t) ≤ frame r)
    (λ o w. omega (arith, cond_most (apart r) (node 3 t), free (half_apart r 0) (wired_table 2 (low 3 t)) o w, cond_most (half_apart r 1) (node 2 (high 3 t))))
    (λ o w. omega (arith, cond_most (apart r) (node 3 t), cond_most (half_apart r 0) (node 2 (low 3 t)), free (half_apart r 1) (wired_table 2 (high 3 t)) o w))
  where
    free : (a b : Bool) → T a → T b → suc (cond a (selector_cells b) 0) ≤ is_one a
    free true b o w = omega (arith, wired_none b w)
    free false b o w = absurd o

-- where no selector is soldered through, each counts for one
pub frame_whole : (r : ℕ → ℕ) (t : ℕ) → T (not (wired_table 3 t)) → T (not (wired_table 2 (low 3 t))) → T (not (wired_table 2 (high 3 t))) → frame r ≤ frame_price r t
unfolding price is_one
frame_whole r t a b c =
    omega (arith, whole (apart r) (wired_table 3 t) a, whole (half_apart r 0) (wired_table 2 (low 3 t)) b, whole (half_apart r 1) (wired_table 2 (high 3 t)) c)
  where
    whole : (o w : Bool) → T (not w) → is_one o ≤ cond o (selector_cells w) 0
    whole true w n = omega (arith, not_wired_one w n)
    whole false w n = omega arith

-- A half of a quarter is a function of the last input: 1 is the inverse, 2 the input itself, its literals. Which of them are told, and which a quarter has:
abbrev pub may : (inverted plain : Bool) → ℕ → Bool
may i p zero = i
may i p (suc k) = p

unfoldable pub uses : ℕ → ℕ → Bool
uses v x = eqb (low 1 x) v || eqb (high 1 x) v

-- the inverse counts for a selector, so that it may occur or not; the input is free
unfoldable pub within : (inverted : Bool) → ℕ → Bool
within i x = cond (uses 1 x) i true

-- the first quarter of its class, where it needs a selector
unfoldable pub owns : (ℕ → ℕ) → ℕ → ℕ → Bool
owns r x j = eqb (r j) j && not (eqb (low 1 x) (high 1 x))

-- the nodes that are told so, by how many inputs stand after the one that they test
module _ (r : ℕ → ℕ) (i p : Bool) (t : ℕ) where
  abbrev pub q : ℕ → ℕ
  q = quarters_of t

  abbrev pub own1 : ℕ → Bool
  own1 j = owns r (q j) j

  abbrev pub own3 : ℕ → Bool
  own3 j = apart r

  abbrev pub level0 : List Node
  level0 = gathered 0 (may i p) suc [] 2

  abbrev pub level1 : List Node
  level1 = gathered 1 own1 q level0 4

  abbrev pub level2 : List Node
  level2 = gathered 2 (half_apart r) (halves_of t) level1 2

  abbrev pub framed : List Node
  framed = gathered 3 own3 (λ _. t) level2 1

  tops_owned : sum 4 (λ j. cond (own1 j) (price (node 1 (q j))) 0) ≡ sum 4 (λ j. cond (eqb (r j) j) (top_price (q j)) 0)
  unfolding owns top_price
  tops_owned =
      sum_cong 4 (λ j. cond (own1 j) (price (node 1 (q j))) 0) (λ j. cond (eqb (r j) j) (top_price (q j)) 0)
      (λ j l. both (eqb (r j) j) (eqb (low 1 (q j)) (high 1 (q j))) (price (node 1 (q j))))
    where
      both : (a b : Bool) (x : ℕ) → cond (a && not b) x 0 ≡ cond a (cond b 0 x) 0
      both true true x = refl
      both true false x = refl
      both false b x = refl

  pub framed_weight : weight price framed ≡ frame_price r t + sum 4 (λ j. cond (eqb (r j) j) (top_price (q j)) 0) + is_one i
  unfolding weight price sum is_one low high full wired_table selector_cells
  framed_weight =
      let a = gathered_weight 3 own3 (λ _. t) level2 price 1 in
      let b = gathered_weight 2 (half_apart r) (halves_of t) level1 price 2 in
      let c = gathered_weight 1 own1 q level0 price 4 in
      let d = gathered_weight 0 (may i p) suc [] price 2 in
      omega (arith, a, b, c, d, tops_owned, inverse i, input p)
    where
      inverse : (b : Bool) → cond b (price (node 0 1)) 0 ≡ is_one b
      inverse true = refl
      inverse false = refl

      input : (b : Bool) → cond b (price (node 0 2)) 0 ≡ 0
      input true = refl
      input false = refl

  first_has : (j : ℕ) → j < 4 → T (own1 j) → T (has framed (node 1 (q j)))
  first_has j l o =
      gathered_rest 3 own3 (λ _. t) level2 1 (node 1 (q j))
      (gathered_rest 2 (half_apart r) (halves_of t) level1 2 (node 1 (q j)) (gathered_has 1 own1 q level0 4 j l o))

  end_has : (k : ℕ) → k < 2 → T (may i p k) → T (has framed (node 0 (suc k)))
  end_has k l o =
      let x = node 0 (suc k) in
      gathered_rest 3 own3 (λ _. t) level2 1 x
      (gathered_rest 2 (half_apart r) (halves_of t) level1 2 x (gathered_rest 1 own1 q level0 4 x (gathered_has 0 (may i p) suc [] 2 k l o)))

  half_has : (k : ℕ) → k < 2 → T (half_apart r k) → T (has framed (node 2 (halves_of t k)))
  half_has k l o = gathered_rest 3 own3 (λ _. t) level2 1 (node 2 (halves_of t k)) (gathered_has 2 (half_apart r) (halves_of t) level1 2 k l o)

  -- where quarters of one class are the same, and have the inverse only where it may occur, the table has no more nodes than these, the input told too
  module _ (inside : (j : ℕ) → j < 4 → r j < 4) (again : (j : ℕ) → j < 4 → r (r j) ≡ r j) (alike : (j : ℕ) → j < 4 → q (r j) ≡ q j)
      (few : (j : ℕ) → j < 4 → T (within i (q j))) (told : T p) (lt : t < 2 ^ (2 ^ 4)) where
    same : (j k : ℕ) → j < 4 → k < 4 → T (eqb (r j) (r k)) → q j ≡ q k
    same j k lj lk e = sym (alike j lj) ∙ ap q (eqb→eq (r j) (r k) e) ∙ alike k lk

    joined : T (eqb (r 0) (r 2) && eqb (r 1) (r 3)) → low 3 t ≡ high 3 t
    joined b =
        halves_equal t (same 0 2 (omega arith) (omega arith) (and_left (eqb (r 0) (r 2)) (eqb (r 1) (r 3)) b))
        (same 1 3 (omega arith) (omega arith) (and_right (eqb (r 0) (r 2)) (eqb (r 1) (r 3)) b))

    lower_held : (q 0 ≡ q 1 → ⊥) → T (has framed (node 2 (low 3 t)))
    unfolding half_apart
    lower_held d = half_has 0 (omega arith) (not_T (eqb (r 0) (r 1)) (λ b. d (same 0 1 (omega arith) (omega arith) b)))

    upper_held : (q 2 ≡ q 3 → ⊥) → T (has framed (node 2 (high 3 t)))
    unfolding half_apart apart
    upper_held d =
        ⊎_elim
        (λ b.
        let e = joined b in
        subst (λ x. T (has framed (node 2 x))) e (lower_held (λ g. d (ap (low 2) (sym e) ∙ g ∙ ap (high 2) e))))
        (λ b. half_has 1 (omega arith) (and_intro (apart r) (not (eqb (r 2) (r 3))) b (not_T (eqb (r 2) (r 3)) (λ c. d (same 2 3 (omega arith) (omega arith) c)))))
        (decide (eqb (r 0) (r 2) && eqb (r 1) (r 3)))

    inverse_may : (x : ℕ) → T (within i x) → T (uses 1 x) → T i
    unfolding within
    inverse_may x w u = cond_has (λ b. T b → T i) (uses 1 x) {x = i} {y = true} (λ _ y. y) (λ n. absurd (T_not (uses 1 x) n u)) w

    -- the halves of a quarter: constants, and literals
    end_held : (x e : ℕ) → T (within i x) → T (uses e x) → e < 4 → Holds framed 1 e
    unfolding Holds low high
    end_held x zero w u l = (λ d. absurd (d refl), tt, tt)
    end_held x (suc zero) w u l = (λ d. end_has 0 (omega arith) (inverse_may x w u), tt, tt)
    end_held x (suc (suc zero)) w u l = (λ d. end_has 1 (omega arith) told, tt, tt)
    end_held x (suc (suc (suc zero))) w u l = (λ d. absurd (d refl), tt, tt)
    end_held x (suc (suc (suc (suc e)))) w u l = absurd (omega arith)

    quarter_held : (j : ℕ) → j < 4 → Holds framed 2 (q j)
    unfolding Holds uses owns
    quarter_held j l =
        let x = q j in
        let k = r j in (
          λ d. subst (λ y. T (has framed (node 1 y))) (alike j l)
              (first_has k (inside j l)
              (and_intro (eqb (r k) k) (not (eqb (low 1 (q k)) (high 1 (q k)))) (eq_test (again j l))
              (not_T (eqb (low 1 (q k)) (high 1 (q k))) (λ b. d (subst (λ y. low 1 y ≡ high 1 y) (alike j l) (eqb→eq (low 1 (q k)) (high 1 (q k)) b)))))),
          end_held x (low 1 x) (few j l) (or_left (eqb (low 1 x) (low 1 x)) (eqb (high 1 x) (low 1 x)) (eqb_refl (low 1 x))) (low_lt 1 x),
          end_held x (high 1 x) (few j l) (or_right (eqb (low 1 x) (high 1 x)) (eqb (high 1 x) (high 1 x)) (eqb_refl (high 1 x))) (high_lt 1 x (quarters_lt t lt j l)),
        )

    framed_holds : Holds framed 4 t
    unfolding Holds apart
    framed_holds = (
      λ d. gathered_has 3 own3 (λ _. t) level2 1 0 (omega arith) (not_T (eqb (r 0) (r 2) && eqb (r 1) (r 3)) (λ b. d (joined b))),
      (lower_held, quarter_held 0 (omega arith), quarter_held 1 (omega arith)),
      (upper_held, quarter_held 2 (omega arith), quarter_held 3 (omega arith)),
    )

    pub nodes_most : nodes 4 t ≤ frame_price r t + sum 4 (λ j. cond (eqb (r j) j) (top_price (q j)) 0) + is_one i
    unfolding nodes
    nodes_most =
        let h = subset_weight price (listing 4 t []) framed (listing_once 4 t) (listing_within framed 4 t [] framed_holds (λ k g. absurd (has_none k g))) in
        omega (arith, h, framed_weight)
