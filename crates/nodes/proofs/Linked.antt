-- What `class` gives is the best quarter of its class, and on restricted masks the best without the inverse of the last input; what `line_rank` gives.
use Prim.Native.Nat.{ℕ, ◌+◌, ◌*◌, ◌^◌, ◌/◌, ◌%◌, ◌<◌}
use mathlib.Core.Path.{◌≡◌, refl, sym, ap, ap₂, ◌∙◌, fun_ext}
use mathlib.Core.Bool.{Bool, true, false, cond, not, ◌&&◌}
use mathlib.Core.List.{List, [], ◌∷◌}
use mathlib.Core.Option.{Option, none, some}
use native.Mathlib.Omega.{arith}
use lib.Arith.{mod-mul}
use lib.Bits.{bit_and, and_shr, and_mod}
use lib.Dec.{T, eqb, ltb, ltb→lt, eqb→eq}
use Rattle.base.proofs.Tests.{and_intro, and_left, and_right, and_true, test_ext, test_yes, eq_test}
use Rattle.table.specs.Bits.{bit, all}
use Rattle.table.specs.Cells.{low, high, full, wired_table, selector_cells}
use Rattle.table.specs.Pick.{Proj, suits, nearer, least, least_of}
use Rattle.table.specs.Inner.Ranks.{masked}
use Rattle.table.specs.Inner.Pairs.{block_patterns, block_space, byte_bits, zeros_in, ones_in}
use Rattle.table.specs.Inner.Blocks.{entries, three_space, block_entry, best_block}
use Rattle.table.proofs.Below.{all_at, all_intro, all_cong}
use Rattle.table.proofs.Bits.{bit_mod, bit_div, test_and}
use Rattle.table.proofs.Least.{Least, least_is}
use Rattle.table.proofs.Masks.{mask_cong}
use Rattle.table.proofs.Pairs.{Place, from_block, byte_place, first_place}
use Rattle.table.proofs.Suited.{upper}
use Rattle.nodes.specs.Nodes.{price}
use Rattle.nodes.specs.Inner.Tops.{top_price, quarter_entry}
use Rattle.nodes.specs.Inner.Ways.{quarter_entry_at, class_at, line_at, ones_quarter, no_line, places, together, class_in, line_in, quarter_bytes, halves_alike, least_way, way_of, all_nodes, no_inverted}
use Rattle.nodes.proofs.Quarters.{below4}
use Rattle.nodes.proofs.Framed.{uses, within}
use Rattle.nodes.proofs.Classes.{stands, ok, shown, class_value, line_value}
use Rattle.nodes.proofs.Sound.{fit_in, within_all}
use Rattle.nodes.proofs.Restricted.{in_four, together_cut}

-- what may stand in a quarter whose masks are a byte
fit_at : ℕ → ℕ → Bool
fit_at at x = suits 2 (masked (at / block_space) (at % block_space)) x

-- two bytes together tell what may stand in both
masked_and : (a b p v : ℕ)
    → masked (bit_and a b / block_space) (bit_and a b % block_space) p v
    ≡ masked (a / block_space) (a % block_space) p v && masked (b / block_space) (b % block_space) p v
unfolding masked
masked_and a b p v = rw (and_shr a b block_patterns, and_mod a b block_patterns) (go (eqb v 0))
  where
    go : (c : Bool)
        → eqb (bit (cond c (bit_and (a / block_space) (b / block_space)) (bit_and (a % block_space) (b % block_space))) p) 1
        ≡ eqb (bit (cond c (a / block_space) (a % block_space)) p) 1 && eqb (bit (cond c (b / block_space) (b % block_space)) p) 1
    go true = test_and (a / block_space) (b / block_space) p
    go false = test_and (a % block_space) (b % block_space) p

all_and : (k : ℕ) (f g : ℕ → Bool) → all k (λ i. f i && g i) ≡ all k f && all k g
all_and k f g =
    test_ext (all k (λ i. f i && g i)) (all k f && all k g)
    (λ t. and_intro (all k f) (all k g) (all_intro k f (λ i l. and_left (f i) (g i) (all_at k (λ i. f i && g i) t i l)))
    (all_intro k g (λ i l. and_right (f i) (g i) (all_at k (λ i. f i && g i) t i l))))
    (λ t. all_intro k (λ i. f i && g i)
    (λ i l. and_intro (f i) (g i) (all_at k f (and_left (all k f) (all k g) t) i l) (all_at k g (and_right (all k f) (all k g) t) i l)))

fit_and : (a b x : ℕ) → fit_at (bit_and a b) x ≡ fit_at a x && fit_at b x
unfolding fit_at suits
fit_and a b x =
    simp masked_and (all_and 4 (λ p. masked (a / block_space) (a % block_space) p (bit x p)) (λ p. masked (b / block_space) (b % block_space) p (bit x p)))

-- the bytes of a pair tell what may stand in its quarters
module _ (w : ℕ) where
  abbrev P : Proj
  P = masked (zeros_in w) (ones_in w)

  placed : (at z o x : ℕ) (Q : Proj) → Place at z o → ((p v : ℕ) → p < 4 → masked z o p v ≡ Q p v) → fit_at at x ≡ suits 2 Q x
  unfolding fit_at suits
  placed at z o x Q e h =
      all_cong 4 (λ p. masked (at / block_space) (at % block_space) p (bit x p)) (λ p. Q p (bit x p))
      (λ p l.
      mask_cong (at / block_space) (at % block_space) z o p p (bit x p)
      (ap (λ y. bit y p) e.0 ∙ bit_mod z {k = block_patterns} l) (ap (λ y. bit y p) e.1 ∙ bit_mod o {k = block_patterns} l)
      ∙ h p (bit x p) l)

  moved : (k p q v : ℕ) → block_patterns * k + p ≡ q → masked (from_block k (zeros_in w)) (from_block k (ones_in w)) p v ≡ masked (zeros_in w) (ones_in w) q v
  moved k p q v e =
      mask_cong (from_block k (zeros_in w)) (from_block k (ones_in w)) (zeros_in w) (ones_in w) p q v
      (bit_div (zeros_in w) (block_patterns * k) p ∙ ap (bit (zeros_in w)) e) (bit_div (ones_in w) (block_patterns * k) p ∙ ap (bit (ones_in w)) e)

  byte_fits : (x j : ℕ) → j < 4 → fit_at (quarter_bytes w j % entries) x ≡ fit_in P j x
  unfolding upper
  byte_fits x =
      below4 (λ j. fit_at (quarter_bytes w j % entries) x ≡ fit_in P j x) (placed (w % entries) (zeros_in w) (ones_in w) x P (first_place w) (λ p v l. refl))
      (placed (quarter_bytes w 1 % entries) (from_block 1 (zeros_in w)) (from_block 1 (ones_in w)) x (upper 2 P) (byte_place w 1 (omega arith))
      (λ p v l. moved 1 p (p + 1 * 2 ^ 2) v (omega arith)))
      (placed (quarter_bytes w 2 % entries) (from_block 2 (zeros_in w)) (from_block 2 (ones_in w)) x (upper 3 P) (byte_place w 2 (omega arith))
      (λ p v l. moved 2 p (p + 1 * 2 ^ 3) v (omega arith)))
      (placed (quarter_bytes w 3 % entries) (from_block 3 (zeros_in w)) (from_block 3 (ones_in w)) x (upper 2 (upper 3 P)) (byte_place w 3 (omega arith))
      (λ p v l. moved 3 p (p + 1 * 2 ^ 2 + 1 * 2 ^ 3) v (omega arith)))

  -- quarters of the same masks
  pub bytes_alike : (j k x : ℕ) → j < 4 → k < 4 → quarter_bytes w j % entries ≡ quarter_bytes w k % entries → fit_in P j x ≡ fit_in P k x
  bytes_alike j k x lj lk e = sym (byte_fits x j lj) ∙ ap (λ y. fit_at y x) e ∙ byte_fits x k lk

  class_fits : (x j : ℕ) (js : List ℕ) → T (in_four (j ∷ js)) → fit_at (together (quarter_bytes w) (j ∷ js) % entries) x ≡ stands (fit_in P) (j ∷ js) x
  unfolding in_four stands
  class_fits x j [] f = byte_fits x j (ltb→lt j 4 (and_left (ltb j 4) true f))
  class_fits x j (k ∷ js) f =
      let a = together (quarter_bytes w) (k ∷ js) in
      ap (λ y. fit_at y x) (and_mod a (quarter_bytes w j) byte_bits) ∙ fit_and (a % entries) (quarter_bytes w j % entries) x
      ∙ ap₂ (λ b c. b && c) (class_fits x k js (and_right (ltb j 4) (in_four (k ∷ js)) f))
      (byte_fits x j (ltb→lt j 4 (and_left (ltb j 4) (in_four (k ∷ js)) f)))

-- the entry of a quarter of a byte, of those that pass a test
best_entry : (ℕ → Bool) → ℕ
best_entry f = quarter_entry (least top_price f block_space)

-- a byte restricted has the entry of the byte where the inverse of the last input may not occur, and constants may stand as before: tested for every byte
unfoldable agrees : (ℕ → ℕ) → (inverted : Bool) → Bool
agrees R i = all entries (λ at. eqb (best_entry (fit_at (R at))) (best_entry (λ x. fit_at at x && within i x)))

unfoldable same_test : Bool → Bool → Bool
same_test a b = cond a b (not b)

same_test_lem : (a b : Bool) → T (same_test a b) → a ≡ b
unfolding same_test
same_test_lem true true t = refl
same_test_lem true false t = absurd t
same_test_lem false true t = absurd t
same_test_lem false false t = refl

unfoldable keeps_constants : (ℕ → ℕ) → Bool
keeps_constants R =
    all entries
    (λ at. same_test (eqb (R at / block_space) ones_quarter) (fit_at at 0) && same_test (eqb (R at % block_space) ones_quarter) (fit_at at ones_quarter))

abbrev no_inverted_byte : ℕ → ℕ
no_inverted_byte at = no_inverted at % entries

inverted_agrees : T (agrees no_inverted_byte false)
unfolding agrees best_entry fit_at within uses top_price block_entry price least nearer suits masked all bit low high full wired_table selector_cells
inverted_agrees = tt

all_agrees : T (agrees (λ at. at) true)
unfolding agrees
all_agrees =
    all_intro entries (λ at. eqb (best_entry (fit_at at)) (best_entry (λ x. fit_at at x && within true x)))
    (λ at l. eq_test (ap best_entry (fun_ext (λ x. sym (ap (λ b. fit_at at x && b) (test_yes (within true x) (within_all x)) ∙ and_true (fit_at at x))))))

inverted_keeps : T (keeps_constants no_inverted_byte)
unfolding keeps_constants same_test fit_at suits masked all bit
inverted_keeps = tt

all_keeps : T (keeps_constants (λ at. at))
unfolding keeps_constants same_test fit_at suits masked all bit
all_keeps = tt

-- the test for a line is one for the upper half of one byte and the lower half of another
unfoldable full_both : Bool
full_both = all block_space (λ a. all block_space (λ b. same_test (eqb (bit_and a b) ones_quarter) (eqb a ones_quarter && eqb b ones_quarter)))

full_both_lem : T full_both
unfolding full_both same_test all
full_both_lem = tt

line_test : (x y : ℕ) → eqb (bit_and (x / block_space) y % block_space) ones_quarter ≡ eqb (x % entries / block_space) ones_quarter && eqb (y % entries % block_space) ones_quarter
unfolding full_both
line_test x y =
    let a = x / block_space % block_space in
    let b = y % block_space in
    let d : a ≡ x % entries / block_space = omega (arith, mod-mul x {m = block_space} {c = block_space} (omega arith) (omega arith)) in
    let e : b ≡ y % entries % block_space = omega (arith, mod-mul y {m = block_space} {c = block_space} (omega arith) (omega arith)) in
    ap (λ z. eqb z ones_quarter) (and_mod (x / block_space) y block_patterns)
    ∙ same_test_lem (eqb (bit_and a b) ones_quarter) (eqb a ones_quarter && eqb b ones_quarter)
    (all_at block_space (λ b. same_test (eqb (bit_and a b) ones_quarter) (eqb a ones_quarter && eqb b ones_quarter))
    (all_at block_space (λ a. all block_space (λ b. same_test (eqb (bit_and a b) ones_quarter) (eqb a ones_quarter && eqb b ones_quarter))) full_both_lem a (omega arith)) b (omega arith))
    ∙ ap₂ (λ a b. eqb a ones_quarter && eqb b ones_quarter) d e

-- the entry at the places of a class: tested for every entry
abbrev class_of : (entry places : ℕ) → ℕ
class_of x m = bit_and (x * three_space + x % three_space) (all_nodes + m * 15)

unfoldable cuts : ℕ → Bool
cuts m =
    eqb (class_of (quarter_entry none) m) (shown none m) && all block_space (λ x. eqb (class_of (quarter_entry (some x)) m) (shown (some x) m))

cut : (f : ℕ → Bool) (m : ℕ) → T (cuts m) → class_of (best_entry f) m ≡ shown (least top_price f block_space) m
unfolding cuts best_entry
cut f m t = go (least top_price f block_space) (least_is top_price f block_space)
  where
    go : (o : Option ℕ) → Least top_price f block_space o → class_of (quarter_entry o) m ≡ shown o m
    go none h = eqb→eq (class_of (quarter_entry none) m) (shown none m) (and_left (eqb (class_of (quarter_entry none) m) (shown none m)) _ t)
    go (some x) h =
        eqb→eq (class_of (quarter_entry (some x)) m) (shown (some x) m)
        (all_at block_space (λ x. eqb (class_of (quarter_entry (some x)) m) (shown (some x) m)) (and_right (eqb (class_of (quarter_entry none) m) (shown none m)) _ t) x h.0)

-- a class of quarters at places that can be cut out
unfoldable is_class : List ℕ → Bool
is_class js = (in_four js && ltb 0 (places js)) && cuts (places js)

-- the pair v has the bytes of the pair w, each as R makes it
module _ (w v : ℕ) (R : ℕ → ℕ) (i : Bool) (agreed : T (agrees R i)) (kept : T (keeps_constants R))
    (e : (j : ℕ) (js : List ℕ) → T (in_four (j ∷ js)) → together (quarter_bytes v) (j ∷ js) % entries ≡ R (together (quarter_bytes w) (j ∷ js) % entries)) where
  abbrev fit : ℕ → ℕ → Bool
  fit = fit_in (masked (zeros_in w) (ones_in w))

  class_linked : (js : List ℕ) → T (is_class js) → class_in (quarter_bytes v) js ≡ class_value fit i js
  unfolding is_class agrees class_at quarter_entry_at best_block least_of best_entry fit_at in_four
  class_linked [] t = absurd (and_left false (cuts 0) t)
  class_linked (j ∷ js) t =
      let f = and_left (in_four (j ∷ js)) (ltb 0 (places (j ∷ js))) (and_left (in_four (j ∷ js) && ltb 0 (places (j ∷ js))) (cuts (places (j ∷ js))) t) in
      let y = together (quarter_bytes w) (j ∷ js) % entries in
      ap (λ x. class_of x (places (j ∷ js)))
      (ap (λ x. best_entry (fit_at x)) (e j js f)
      ∙ eqb→eq (best_entry (fit_at (R y))) (best_entry (λ x. fit_at y x && within i x))
      (all_at entries (λ at. eqb (best_entry (fit_at (R at))) (best_entry (λ x. fit_at at x && within i x))) agreed y (omega arith))
      ∙ ap best_entry (fun_ext (λ x. ap (λ b. b && within i x) (class_fits w x j js f))))
      ∙ cut (ok fit i (j ∷ js)) (places (j ∷ js)) (and_right (in_four (j ∷ js) && ltb 0 (places (j ∷ js))) (cuts (places (j ∷ js))) t)

  kept_at : (at : ℕ) → at < entries
      → (eqb (R at / block_space) ones_quarter ≡ fit_at at 0) × (eqb (R at % block_space) ones_quarter ≡ fit_at at ones_quarter)
  unfolding keeps_constants
  kept_at at l =
      let a = same_test (eqb (R at / block_space) ones_quarter) (fit_at at 0) in
      let b = same_test (eqb (R at % block_space) ones_quarter) (fit_at at ones_quarter) in
      let h = all_at entries (λ at. same_test (eqb (R at / block_space) ones_quarter) (fit_at at 0) && same_test (eqb (R at % block_space) ones_quarter) (fit_at at ones_quarter)) kept at l in
      (same_test_lem _ _ (and_left a b h), same_test_lem _ _ (and_right a b h))

  line_linked : (j k : ℕ) (js ks : List ℕ) → T (in_four (j ∷ js)) → T (in_four (k ∷ ks))
      → line_in (quarter_bytes v) (j ∷ js) (k ∷ ks) ≡ line_value fit (j ∷ js) (k ∷ ks)
  unfolding line_at
  line_linked j k js ks f g =
      let x = together (quarter_bytes w) (j ∷ js) % entries in
      let y = together (quarter_bytes w) (k ∷ ks) % entries in
      ap (λ c. cond c (places (k ∷ ks) * ones_quarter) no_line)
      (line_test (together (quarter_bytes v) (j ∷ js)) (together (quarter_bytes v) (k ∷ ks))
      ∙ ap₂ (λ a b. a && b)
      (ap (λ z. eqb (z / block_space) ones_quarter) (e j js f) ∙ (kept_at x (omega arith)).0 ∙ class_fits w 0 j js f)
      (ap (λ z. eqb (z % block_space) ones_quarter) (e k ks g) ∙ (kept_at y (omega arith)).1 ∙ class_fits w ones_quarter k ks g))

  -- so the pair has the same least way
  way_linked : way_of v ≡ least_way (class_value fit i) (line_value fit)
  unfolding least_way is_class cuts in_four all shown block_entry top_price price low high full wired_table selector_cells
  way_linked =
      rw (
        class_linked (0 ∷ []) tt,
        class_linked (1 ∷ []) tt,
        class_linked (2 ∷ []) tt,
        class_linked (3 ∷ []) tt,
        class_linked (1 ∷ 0 ∷ []) tt,
        class_linked (2 ∷ 0 ∷ []) tt,
        class_linked (3 ∷ 0 ∷ []) tt,
        class_linked (2 ∷ 1 ∷ []) tt,
        class_linked (3 ∷ 1 ∷ []) tt,
        class_linked (3 ∷ 2 ∷ []) tt,
        class_linked (2 ∷ 1 ∷ 0 ∷ []) tt,
        class_linked (3 ∷ 1 ∷ 0 ∷ []) tt,
        class_linked (3 ∷ 2 ∷ 0 ∷ []) tt,
        class_linked (3 ∷ 2 ∷ 1 ∷ []) tt,
        class_linked (3 ∷ 2 ∷ 1 ∷ 0 ∷ []) tt,
        line_linked 0 1 [] [] tt tt,
        line_linked 2 3 [] [] tt tt,
        line_linked 2 3 (0 ∷ []) (1 ∷ []) tt tt,
        line_linked 1 3 (0 ∷ []) (2 ∷ []) tt tt,
      )

  halves_linked : halves_alike (class_in (quarter_bytes v)) (line_in (quarter_bytes v)) ≡ halves_alike (class_value fit i) (line_value fit)
  unfolding is_class cuts in_four all shown block_entry top_price price low high full wired_table selector_cells
  halves_linked =
      rw (class_linked (2 ∷ 0 ∷ []) tt, class_linked (3 ∷ 1 ∷ []) tt, class_linked (3 ∷ 2 ∷ 1 ∷ 0 ∷ []) tt, line_linked 2 3 (0 ∷ []) (1 ∷ []) tt tt)

-- with the inverse of the last input, and without it
module _ (w : ℕ) where
  abbrev pub way_in : (inverted : Bool) → ℕ
  way_in i = least_way (class_value (fit_in (masked (zeros_in w) (ones_in w))) i) (line_value (fit_in (masked (zeros_in w) (ones_in w))))

  pub all_linked : way_of w ≡ way_in true
  all_linked = way_linked w w (λ at. at) true all_agrees all_keeps (λ j js f. refl)

  pub all_halves : halves_alike (class_in (quarter_bytes w)) (line_in (quarter_bytes w))
      ≡ halves_alike (class_value (fit_in (masked (zeros_in w) (ones_in w))) true) (line_value (fit_in (masked (zeros_in w) (ones_in w))))
  all_halves = halves_linked w w (λ at. at) true all_agrees all_keeps (λ j js f. refl)

  pub inverted_linked : way_of (no_inverted w) ≡ way_in false
  inverted_linked = way_linked w (no_inverted w) no_inverted_byte false inverted_agrees inverted_keeps (together_cut w)
