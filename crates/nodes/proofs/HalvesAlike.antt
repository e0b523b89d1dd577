-- Where both halves of a pair have the same masks, equal halves are the best of the fifteen ways and the lines.
use Prim.Native.Nat.{ℕ, zero, suc, ◌+◌, ◌*◌, ◌/◌, ◌%◌, ◌<◌, ◌≤◌, min}
use mathlib.Core.Path.{◌≡◌, refl, sym, ap, ap₂, subst, ◌∙◌, fun_ext}
use mathlib.Core.Bool.{Bool, true, false, cond, ◌&&◌}
use mathlib.Core.List.{List, [], ◌∷◌}
use mathlib.Core.Option.{Option, none, some}
use native.Mathlib.Omega.{arith}
use native.Mathlib.Nat.{mul-add, mul-le-mul_right, mod-eq_of_lt}
use lib.Arith.{mod-mul}
use lib.Dec.{T, ltb, ltb→lt}
use Rattle.base.proofs.Tests.{cond_has, cond_has₂, and_intro, and_left, and_right}
use Rattle.table.specs.Cells.{low, high}
use Rattle.table.specs.Pick.{least}
use Rattle.table.specs.Inner.Pairs.{block_space, zeros_in, ones_in}
use Rattle.table.specs.Inner.Ranks.{masked, narrow_space}
use Rattle.table.specs.Inner.Blocks.{entries}
use Rattle.table.proofs.Least.{Least, least_is}
use Rattle.nodes.specs.Inner.Tops.{top_price}
use Rattle.nodes.specs.Inner.Ways.{one_node, all_places, ones_quarter, no_line, places, quarter_bytes, class_in, line_in, halves_alike, first_line, tree_like, three_alike, across_alike, least_way, way_of}
use Rattle.nodes.proofs.Quarters.{below4}
use Rattle.nodes.proofs.Framed.{within}
use Rattle.nodes.proofs.Classes.{stands, best, ok, line_stands, shown, shown_le, class_value, line_value}
use Rattle.nodes.proofs.Restricted.{in_four}
use Rattle.nodes.proofs.Sound.{fit_in, within_all}
use Rattle.nodes.proofs.Linked.{bytes_alike, all_linked, all_halves}

-- a quarter at more places: no more than at some and at the others, and than at some with a selector
module _ (o : Option ℕ) (i j : ℕ) where
  shown_join : shown o (i + j) ≤ shown o i + shown o j
  unfolding shown
  shown_join = go o
    where
      go : (o : Option ℕ) → shown o (i + j) ≤ shown o i + shown o j
      go none = omega arith
      go (some x) = omega (arith, mul-add x i j)

module _ (fit : ℕ → Bool) (i j : ℕ) (l : j ≤ all_places) where
  shown_more : shown (least top_price fit block_space) (i + j) ≤ shown (least top_price fit block_space) i + one_node
  unfolding shown
  shown_more = go (least top_price fit block_space) (least_is top_price fit block_space)
    where
      go : (o : Option ℕ) → Least top_price fit block_space o → shown o (i + j) ≤ shown o i + one_node
      go none h = omega arith
      go (some x) h = let b : x ≤ 15 = omega (arith, h.0) in omega (arith, mul-add x i j, mul-le-mul_right j b)

-- where the third quarter may be what the first may, and the fourth what the second may
module _ (fit : ℕ → ℕ → Bool) (third : (x : ℕ) → fit 2 x ≡ fit 0 x) (fourth : (x : ℕ) → fit 3 x ≡ fit 1 x) where
  abbrev either : (a b : Bool) → ℕ → Bool
  either a b zero = a
  either a b (suc zero) = b
  either a b (suc (suc zero)) = a
  either a b (suc (suc (suc j))) = b

  abbrev told : (a b : Bool) → List ℕ → Bool
  told a b js = stands (λ j x. either a b j) js 0

  stands_told : (x : ℕ) (js : List ℕ) → T (in_four js) → stands fit js x ≡ told (fit 0 x) (fit 1 x) js
  unfolding stands in_four
  stands_told x [] f = refl
  stands_told x (j ∷ js) f =
      ap₂ (λ a b. a && b) (stands_told x js (and_right (ltb j 4) (in_four js) f))
      (below4 (λ j. fit j x ≡ either (fit 0 x) (fit 1 x) j) refl refl (third x) (fourth x) j (ltb→lt j 4 (and_left (ltb j 4) (in_four js) f)))

  abbrev at : List ℕ → ℕ → ℕ
  at js m = shown (best fit true js) m

  -- two lists of quarters that ask for the same
  abbrev Same : (js ks : List ℕ) → Type 0
  Same js ks = (told true true js ≡ told true true ks) × (told true false js ≡ told true false ks)
      × (told false true js ≡ told false true ks) × (told false false js ≡ told false false ks)

  told_same : (js ks : List ℕ) → Same js ks → (a b : Bool) → told a b js ≡ told a b ks
  told_same js ks s true true = s.0
  told_same js ks s true false = s.1
  told_same js ks s false true = s.2
  told_same js ks s false false = s.3

  stands_same : (js ks : List ℕ) → T (in_four js) → T (in_four ks) → Same js ks → (x : ℕ) → stands fit js x ≡ stands fit ks x
  stands_same js ks f g s x = stands_told x js f ∙ told_same js ks s (fit 0 x) (fit 1 x) ∙ sym (stands_told x ks g)

  at_same : (js ks : List ℕ) → T (in_four js) → T (in_four ks) → Same js ks → (m : ℕ) → at js m ≡ at ks m
  at_same js ks f g s m =
      ap (λ c. shown (least top_price c block_space) m) (fun_ext (λ x. ap (λ b. b && within true x) (stands_same js ks f g s x)))

  abbrev A : ℕ → ℕ
  A = at (0 ∷ [])

  abbrev B : ℕ → ℕ
  B = at (1 ∷ [])

  abbrev AB : ℕ → ℕ
  AB = at (1 ∷ 0 ∷ [])

  abbrev G : List ℕ → ℕ
  G = class_value fit true

  as_a : (js : List ℕ) → T (in_four js) → Same js (0 ∷ []) → G js ≡ A (places js)
  unfolding in_four
  as_a js f s = at_same js (0 ∷ []) f tt s (places js)

  as_b : (js : List ℕ) → T (in_four js) → Same js (1 ∷ []) → G js ≡ B (places js)
  unfolding in_four
  as_b js f s = at_same js (1 ∷ []) f tt s (places js)

  as_ab : (js : List ℕ) → T (in_four js) → Same js (1 ∷ 0 ∷ []) → G js ≡ AB (places js)
  unfolding in_four
  as_ab js f s = at_same js (1 ∷ 0 ∷ []) f tt s (places js)

  -- one class of all four, from a class of some with a selector
  one_class : (m k : ℕ) → m + k ≡ all_places → AB all_places ≤ AB m + one_node
  one_class m k e = subst (λ y. AB y ≤ AB m + one_node) e (shown_more (ok fit true (1 ∷ 0 ∷ [])) m k (omega arith))

  all4 : G (3 ∷ 2 ∷ 1 ∷ 0 ∷ []) ≡ AB all_places
  unfolding in_four stands
  all4 = as_ab (3 ∷ 2 ∷ 1 ∷ 0 ∷ []) tt (refl, refl, refl, refl)

  -- from a class that asks for the first quarter and for the second
  one_from : (js : List ℕ) (k : ℕ) → T (in_four js) → Same js (1 ∷ 0 ∷ []) → places js + k ≡ all_places → G (3 ∷ 2 ∷ 1 ∷ 0 ∷ []) ≤ G js + one_node
  one_from js k f s e = omega (arith, all4, as_ab js f s, one_class (places js) k e)

  -- the first quarter and the third, the second and the fourth
  join_a : G (2 ∷ 0 ∷ []) ≤ G (0 ∷ []) + G (2 ∷ [])
  unfolding in_four stands
  join_a =
      omega (arith, as_a (2 ∷ 0 ∷ []) tt (refl, refl, refl, refl), as_a (2 ∷ []) tt (refl, refl, refl, refl), shown_join (best fit true (0 ∷ [])) 0x1 0x100)

  join_b : G (3 ∷ 1 ∷ []) ≤ G (1 ∷ []) + G (3 ∷ [])
  unfolding in_four stands
  join_b =
      omega (arith, as_b (3 ∷ 1 ∷ []) tt (refl, refl, refl, refl), as_b (3 ∷ []) tt (refl, refl, refl, refl), shown_join (best fit true (1 ∷ [])) 0x10 0x1000)

  -- lines: with constant 0 in the first quarter or the third, or both, and constant 1 beside it
  abbrev M : (zeros ones : List ℕ) → ℕ
  M = line_value fit

  abbrev lined : ℕ → ℕ
  lined v = cond (line_stands fit (0 ∷ []) (1 ∷ [])) v no_line

  as_line : (js ks : List ℕ) → T (in_four js) → T (in_four ks) → Same js (0 ∷ []) → Same ks (1 ∷ []) → M js ks ≡ lined (places ks * ones_quarter)
  unfolding in_four
  as_line js ks f g s u =
      ap₂ (λ a b. cond (a && b) (places ks * ones_quarter) no_line) (stands_same js (0 ∷ []) f tt s 0) (stands_same ks (1 ∷ []) g tt u ones_quarter)

  second_line_lem : M (2 ∷ 0 ∷ []) (3 ∷ 1 ∷ []) ≡ lined 0xF0F0
  unfolding in_four stands
  second_line_lem = as_line (2 ∷ 0 ∷ []) (3 ∷ 1 ∷ []) tt tt (refl, refl, refl, refl) (refl, refl, refl, refl)

  upper_line : M (2 ∷ []) (3 ∷ []) ≡ lined 0xF000
  unfolding in_four stands
  upper_line = as_line (2 ∷ []) (3 ∷ []) tt tt (refl, refl, refl, refl) (refl, refl, refl, refl)

  -- at all places a line gives no more than at some with a selector, and no more than one that does not suit
  lined_le : (v : ℕ) → (lined 0xF0F0 ≤ one_node + lined v) × (lined 0xF0F0 ≤ no_line)
  lined_le v =
      cond_has₂ (λ x y. (x ≤ one_node + y) × (x ≤ no_line)) (line_stands fit (0 ∷ []) (1 ∷ [])) {x = 0xF0F0} {y = no_line} {u = v} {v = no_line}
      (λ _. (omega arith, omega arith)) (λ _. (omega arith, omega arith))

  not_tree : halves_alike G M ≤ tree_like G M
  unfolding in_four stands
  not_tree =
      small (G (3 ∷ 2 ∷ 1 ∷ 0 ∷ [])) (G (2 ∷ 0 ∷ [])) (G (3 ∷ 1 ∷ [])) (G (1 ∷ 0 ∷ [])) (G (3 ∷ 2 ∷ [])) (G (0 ∷ [])) (G (1 ∷ [])) (G (2 ∷ [])) (G (3 ∷ []))
      (M (2 ∷ 0 ∷ []) (3 ∷ 1 ∷ [])) (M (0 ∷ []) (1 ∷ [])) (M (2 ∷ []) (3 ∷ []))
      (omega (arith, all4, as_ab (3 ∷ 2 ∷ []) tt (refl, refl, refl, refl), shown_join (best fit true (1 ∷ 0 ∷ [])) 0x11 0x1100))
      (one_from (1 ∷ 0 ∷ []) 0x1100 tt (refl, refl, refl, refl) refl) (one_from (3 ∷ 2 ∷ []) 0x11 tt (refl, refl, refl, refl) refl)
      join_a join_b (omega (arith, second_line_lem, (lined_le 0xF0).0)) (omega (arith, second_line_lem, upper_line, (lined_le 0xF000).0))
    where
      small : (abcd ac bd ab cd a b c d l l0 l1 : ℕ) → abcd ≤ ab + cd → abcd ≤ ab + one_node → abcd ≤ cd + one_node → ac ≤ a + c → bd ≤ b + d
          → l ≤ one_node + l0 → l ≤ one_node + l1
          → min (min abcd l) (one_node + (ac + bd)) ≤ one_node + min (min ab l0) (one_node + (a + b)) + min (min cd l1) (one_node + (c + d))
      small abcd ac bd ab cd a b c d l l0 l1 h i j k m n o = omega arith

  -- the line of the first input has constant 0 in the first two quarters, so that it may stand in all
  not_first : halves_alike G M ≤ first_line G M
  unfolding in_four stands top_price low high
  not_first =
      let js : List ℕ = 3 ∷ 2 ∷ 1 ∷ 0 ∷ [] in
      cond_has (λ x. halves_alike G M ≤ x) (line_stands fit (1 ∷ 0 ∷ []) (3 ∷ 2 ∷ [])) {x = 0xFF00} {y = no_line}
      (λ y.
      let z = and_left (stands fit (1 ∷ 0 ∷ []) 0) (stands fit (3 ∷ 2 ∷ []) ones_quarter) y in
      let u = subst T (sym (stands_same js (1 ∷ 0 ∷ []) tt tt (refl, refl, refl, refl) 0)) z in
      omega (arith, shown_le (ok fit true js) 0 all_places (omega arith) (and_intro (stands fit js 0) (within true 0) u (within_all 0)) (omega arith)))
      (λ _. omega (arith, second_line_lem, (lined_le 0).1))

  not_three : halves_alike G M ≤ three_alike G
  unfolding in_four stands
  not_three =
      small (G (3 ∷ 2 ∷ 1 ∷ 0 ∷ [])) (M (2 ∷ 0 ∷ []) (3 ∷ 1 ∷ [])) (G (2 ∷ 0 ∷ []) + G (3 ∷ 1 ∷ [])) (G (2 ∷ 1 ∷ 0 ∷ [])) (G (3 ∷ 1 ∷ 0 ∷ []))
      (G (3 ∷ 2 ∷ 0 ∷ [])) (G (3 ∷ 2 ∷ 1 ∷ []))
      (G (3 ∷ [])) (G (2 ∷ [])) (G (1 ∷ [])) (G (0 ∷ [])) (one_from (2 ∷ 1 ∷ 0 ∷ []) 0x1000 tt (refl, refl, refl, refl) refl)
      (one_from (3 ∷ 1 ∷ 0 ∷ []) 0x100 tt (refl, refl, refl, refl) refl) (one_from (3 ∷ 2 ∷ 0 ∷ []) 0x10 tt (refl, refl, refl, refl) refl)
      (one_from (3 ∷ 2 ∷ 1 ∷ []) 0x1 tt (refl, refl, refl, refl) refl)
    where
      small : (h l i w x y z d c b a : ℕ) → h ≤ w + one_node → h ≤ x + one_node → h ≤ y + one_node → h ≤ z + one_node
          → min (min h l) (one_node + i) ≤ 2 * one_node + min (min (w + d) (x + c)) (min (y + b) (z + a))
      small h l i w x y z d c b a p q r s = omega arith

  not_across : halves_alike G M ≤ across_alike G
  unfolding in_four stands
  not_across =
      small (G (3 ∷ 2 ∷ 1 ∷ 0 ∷ [])) (M (2 ∷ 0 ∷ []) (3 ∷ 1 ∷ [])) (G (2 ∷ 0 ∷ [])) (G (3 ∷ 1 ∷ [])) (G (3 ∷ 0 ∷ [])) (G (2 ∷ 1 ∷ [])) (G (0 ∷ []))
      (G (1 ∷ [])) (G (2 ∷ [])) (G (3 ∷ []))
      (one_from (3 ∷ 0 ∷ []) 0x110 tt (refl, refl, refl, refl) refl) (one_from (2 ∷ 1 ∷ []) 0x1001 tt (refl, refl, refl, refl) refl) join_a join_b
    where
      small : (h l ac bd ad bc a b c d : ℕ) → h ≤ ad + one_node → h ≤ bc + one_node → ac ≤ a + c → bd ≤ b + d
          → min (min h l) (one_node + (ac + bd)) ≤ 3 * one_node + min (min (ad + min bc (b + c)) (bc + (a + d))) (min (ac + (b + d)) (bd + (a + c)))
      small h l ac bd ad bc a b c d p q r s = omega arith

  halves_best : least_way G M ≡ halves_alike G M
  unfolding least_way
  halves_best = least (halves_alike G M) (first_line G M) (tree_like G M) (three_alike G) (across_alike G) not_first not_tree not_three not_across
    where
      least : (a f b c d : ℕ) → a ≤ f → a ≤ b → a ≤ c → a ≤ d → min (min (min a f) b) (min c d) ≡ a
      least a f b c d x y z w = omega arith

-- the bytes of a number whose halves are equal
third_first : (w : ℕ) → w % narrow_space ≡ w / narrow_space → w / narrow_space % entries ≡ w % entries
third_first w e = sym (ap (λ y. y % entries) e) ∙ omega (arith, mod-mul w {m = entries} {c = entries} (omega arith) (omega arith))

fourth_second : (w : ℕ) → w % narrow_space ≡ w / narrow_space → w / (narrow_space * entries) % entries ≡ w / entries % entries
fourth_second w e =
    let d : w / (narrow_space * entries) ≡ w / narrow_space / entries = omega arith in
    ap (λ y. y % entries) (d ∙ sym (ap (λ y. y / entries) e)) ∙ inner
  where
    digit : (y q r : ℕ) → y ≡ q * entries + r → q < entries → r < entries → y / entries % entries ≡ q
    digit y q r e l m = let d : y / entries ≡ q = omega arith in rw d (mod-eq_of_lt l)

    inner : w % narrow_space / entries % entries ≡ w / entries % entries
    inner =
        digit (w % narrow_space) (w / entries % entries) (w % entries) (mod-mul w {m = entries} {c = entries} (omega arith) (omega arith)) (omega arith)
        (omega arith)

pub repeated_way : (w : ℕ) → w % narrow_space ≡ w / narrow_space → way_of w ≡ halves_alike (class_in (quarter_bytes w)) (line_in (quarter_bytes w))
repeated_way w e =
    all_linked w
    ∙ halves_best (fit_in (masked (zeros_in w) (ones_in w))) (λ x. bytes_alike w 2 0 x (omega arith) (omega arith) (third_first w e))
    (λ x. bytes_alike w 3 1 x (omega arith) (omega arith) (fourth_second w e))
    ∙ sym (all_halves w)
