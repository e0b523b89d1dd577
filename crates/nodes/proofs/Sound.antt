-- Quarters for the classes of a way in which quarters coincide, with the inverse of the last input or without it, give no less than the rank of the pick.
use Prim.Native.Nat.{ℕ, zero, suc, ◌+◌, ◌*◌, ◌^◌, ◌<◌, ◌≤◌}
use mathlib.Core.Path.{◌≡◌, refl, sym, ap, subst, ◌∙◌}
use mathlib.Core.Logic.{⊎_elim}
use mathlib.Core.Bool.{Bool, true, false, cond, ◌&&◌}
use mathlib.Core.Option.{Option, none, some}
use native.Mathlib.Omega.{arith}
use native.Mathlib.Nat.{not-suc-le-zero}
use lib.Dec.{T, T_not, eqb, ltb, ltb→lt, nltb→le, eqb→eq}
use Rattle.base.specs.Lowest.{lowest}
use Rattle.base.proofs.Lowest.{lowest_is, lowest_or}
use Rattle.base.proofs.Tests.{cond_has, cond_has₂, and_intro, and_left, and_right, below_suc, decide, eq_test, eqb_yes}
use Rattle.table.specs.Bits.{sum, is_one}
use Rattle.table.specs.Pick.{Proj, suits, or_zero}
use Rattle.table.specs.Inner.Blocks.{no_table}
use Rattle.table.specs.Inner.Pairs.{block_space}
use Rattle.table.specs.Inner.Ranks.{rank}
use Rattle.table.proofs.Bits.{sum_cong, sum_bound}
use Rattle.table.proofs.Least.{Least, least_is}
use Rattle.nodes.specs.Nodes.{nodes}
use Rattle.nodes.specs.Inner.Tops.{top_price}
use Rattle.nodes.specs.Inner.Ways.{one_node, places}
use Rattle.nodes.proofs.Quarters.{quarters_of, quarter_proj, suits_quarters, made, made_sum, made_lt, made_quarters}
use Rattle.nodes.proofs.Framed.{apart, half_apart, frame, frame_price, frame_most, uses, within, nodes_most}
use Rattle.nodes.proofs.QuarterEntries.{top_price_le}
use Rattle.nodes.proofs.Classes.{is_shape, shape_inside, shape_again, members, stands, stands_all, ok, best, shown, class_value, value, exchange, sum_apart}

-- a part of a sum
sum_has : (f : ℕ → ℕ) (k i : ℕ) → i < k → f i ≤ sum k f
unfolding sum
sum_has f zero i h = absurd (not-suc-le-zero h)
sum_has f (suc k) i h = ⊎_elim (λ (e : i ≡ k). let d : f i ≡ f k = ap f e in omega arith) (λ l. omega (arith, sum_has f k i l)) (below_suc h)

one_le : (b : Bool) → is_one b ≤ 1
unfolding is_one
one_le true = omega arith
one_le false = omega arith

-- the inverse may occur
pub within_all : (x : ℕ) → T (within true x)
unfolding within
within_all x = cond_has T (uses 1 x) (λ _. tt) (λ _. tt)

-- no table has as many nodes as stand for no table
pub nodes_few : (t : ℕ) → t < 2 ^ (2 ^ 4) → nodes 4 t < no_table
nodes_few t l =
    let m = nodes_most (λ j. j) true true t (λ j b. b) (λ j b. refl) (λ j b. refl) (λ j b. within_all (quarters_of t j)) tt l in
    let s = sum_bound 4 1 (λ j. cond (eqb j j) (top_price (quarters_of t j)) 0)
    (λ j b. cond_has (λ y. y ≤ 1) (eqb j j) (λ _. top_price_le (quarters_of t j)) (λ _. omega arith)) in
    omega (arith, m, s, frame_most (λ j. j) t, one_le (apart (λ j. j)), one_le (half_apart (λ j. j) 0), one_le (half_apart (λ j. j) 1), one_le true)

-- what may stand in a quarter
abbrev pub fit_in : Proj → ℕ → ℕ → Bool
fit_in P j x = suits 2 (quarter_proj P j) x

is_none : Option ℕ → Bool
is_none none = true
is_none (some x) = false

module _ (P : Proj) (t : ℕ) (pick : Least (nodes 4) (suits 4 P) (2 ^ (2 ^ 4)) (some t)) where
  -- the pick has the least rank
  pub rank_least : (s : ℕ) → s < 2 ^ (2 ^ 4) → T (suits 4 P s) → rank (nodes 4) t ≤ rank (nodes 4) s
  unfolding rank
  rank_least s l f =
      let a = pick.0 in
      let b = pick.2 s l f in
      ⊎_elim (λ c. let d = ltb→lt (nodes 4 t) (nodes 4 s) c in omega arith)
      (λ c. let d = pick.3 s l f (nltb→le (nodes 4 t) (nodes 4 s) c) in omega arith) (decide (ltb (nodes 4 t) (nodes 4 s)))

  -- quarters chosen for the classes of r, if any: what is chosen for a class may stand in each of its quarters
  module _ (r : ℕ → ℕ) (inside : (j : ℕ) → j < 4 → r j < 4) (again : (j : ℕ) → j < 4 → r (r j) ≡ r j) (i : Bool) (o : ℕ → Option ℕ)
      (may_stand : (j y : ℕ) → j < 4 → o (r j) ≡ some y → (y < block_space) × T (fit_in P j y) × T (within i y)) where
    abbrev x : ℕ → ℕ
    x j = or_zero (o j)

    abbrev q : ℕ → ℕ
    q j = x (r j)

    abbrev s : ℕ
    s = made q

    abbrev total : ℕ
    total = sum 4 (λ j. cond (eqb (r j) j) (shown (o j) (places (members r j 4))) 0)

    missing : (j : ℕ) → j < 4 → r j ≡ j → T (is_none (o j)) → no_table * one_node ≤ total
    unfolding shown is_none
    missing j l e n =
        let f : ℕ → ℕ = λ j. cond (eqb (r j) j) (shown (o j) (places (members r j 4))) 0 in
        let s : f j ≤ sum 4 f = sum_has f 4 j l in
        let d : f j ≡ shown (o j) (places (members r j 4)) = eqb_yes (r j) j (shown (o j) (places (members r j 4))) 0 e in
        let g : shown (o j) (places (members r j 4)) ≡ no_table * one_node = is (o j) n in
        omega (arith, s, d, g)
      where
        is : (y : Option ℕ) → T (is_none y) → shown y (places (members r j 4)) ≡ no_table * one_node
        is none h = refl
        is (some z) h = absurd h

    -- every class has a quarter: together they are a table that suits
    module _ (has : (j : ℕ) → j < 4 → r j ≡ j → o j ≡ some (x j)) where
      taken : (j : ℕ) → j < 4 → (q j < block_space) × T (fit_in P j (q j)) × T (within i (q j))
      taken j l = may_stand j (q j) l (has (r j) (inside j l) (again j l))

      is : (j : ℕ) → j < 4 → quarters_of s j ≡ q j
      is = made_quarters q (λ j l. (taken j l).0)

      suited : T (suits 4 P s)
      suited = suits_quarters P s (λ j l. rw (is j l) (taken j l).1)

      few : (j : ℕ) → j < 4 → T (within i (quarters_of s j))
      few j l = rw (is j l) (taken j l).2

      tops : sum 4 (λ j. cond (eqb (r j) j) (top_price (quarters_of s j)) 0) ≡ sum 4 (λ j. cond (eqb (r j) j) (top_price (x j)) 0)
      tops =
          sum_cong 4 (λ j. cond (eqb (r j) j) (top_price (quarters_of s j)) 0) (λ j. cond (eqb (r j) j) (top_price (x j)) 0)
          (λ j l. cond_has₂ (λ y z. y ≡ z) (eqb (r j) j) (λ e. ap top_price (is j l ∙ ap x (eqb→eq (r j) j e))) (λ _. refl))

      weighed : (j : ℕ) → j < 4
          → cond (eqb (r j) j) (shown (o j) (places (members r j 4))) 0
          ≡ cond (eqb (r j) j) (top_price (x j)) 0 * one_node + cond (eqb (r j) j) (x j * places (members r j 4)) 0
      unfolding shown
      weighed j l = go (eqb (r j) j) (λ e. ap (λ y. shown y (places (members r j 4))) (has j l (eqb→eq (r j) j e)))
        where
          go : (b : Bool) → (T b → shown (o j) (places (members r j 4)) ≡ top_price (x j) * one_node + x j * places (members r j 4))
              → cond b (shown (o j) (places (members r j 4))) 0 ≡ cond b (top_price (x j)) 0 * one_node + cond b (x j * places (members r j 4)) 0
          go true h = h tt
          go false h = refl

      found : rank (nodes 4) t ≤ (is_one i + frame_price r s) * one_node + total
      unfolding rank
      found =
          let l = made_lt q (λ j l. (taken j l).0) in
          let m = nodes_most r i true s inside again (λ j l. is (r j) (inside j l) ∙ ap x (again j l) ∙ sym (is j l)) few tt l in
          let w = sum_apart (λ j. cond (eqb (r j) j) (shown (o j) (places (members r j 4))) 0) (λ j. cond (eqb (r j) j) (top_price (x j)) 0)
          (λ j. cond (eqb (r j) j) (x j * places (members r j 4)) 0) weighed in
          omega (arith, rank_least s l suited, m, tops, w, exchange r x inside again, made_sum q)

    -- with a bound on the selectors of the first two inputs
    pub sound : (f : ℕ) → (((j : ℕ) → j < 4 → quarters_of s j ≡ q j) → frame_price r s ≤ f) → rank (nodes 4) t ≤ (is_one i + f) * one_node + total
    unfolding rank is_none or_zero
    sound f most =
        let g : ℕ → Bool = λ j. eqb (r j) j && is_none (o j) in
        let n = nodes_few t pick.0 in
        let b = pick.0 in
        ⊎_elim
        (λ (l : lowest 4 g < 4).
        let j = lowest 4 g in
        let y = lowest_is 4 g l in
        omega (arith, n, b, missing j l (eqb→eq (r j) j (and_left (eqb (r j) j) (is_none (o j)) y)) (and_right (eqb (r j) j) (is_none (o j)) y)))
        (λ h.
        let has : (j : ℕ) → j < 4 → r j ≡ j → o j ≡ some (x j) =
        λ j l e. some_of (o j) (λ y. T_not (g j) (h j l) (and_intro (eqb (r j) j) (is_none (o j)) (eq_test e) y)) in
        omega (arith, found has, most (is has)))
        (lowest_or 4 g)
      where
        some_of : (y : Option ℕ) → (T (is_none y) → ⊥) → y ≡ some (or_zero y)
        some_of none h = absurd (h tt)
        some_of (some z) h = refl

  -- the best quarter of a class may stand in each of its quarters
  pub best_stands : (r : ℕ → ℕ) (i : Bool) (j y : ℕ) → j < 4 → best (fit_in P) i (members r (r j) 4) ≡ some y
      → (y < block_space) × T (fit_in P j y) × T (within i y)
  best_stands r i j y l e =
      let f = ok (fit_in P) i (members r (r j) 4) in
      let h = subst (Least top_price f block_space) e (least_is top_price f block_space) in
      let s = stands (fit_in P) (members r (r j) 4) y in
      (h.0, stands_all (fit_in P) r (r j) y 4 (and_left s (within i y) h.1) j l refl, and_right s (within i y) h.1)

  pub way_sound : (r : ℕ → ℕ) → T (is_shape r) → (i : Bool) → rank (nodes 4) t ≤ is_one i * one_node + value r (class_value (fit_in P) i)
  way_sound r shape i =
      let o : ℕ → Option ℕ = λ j. best (fit_in P) i (members r j 4) in
      let s = sound r (shape_inside r shape) (shape_again r shape) i o (best_stands r i) (frame r) (λ _. frame_most r (made (λ j. or_zero (o (r j))))) in
      omega (arith, s)
