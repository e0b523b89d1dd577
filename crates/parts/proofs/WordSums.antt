-- The words of all wires: they are put together pattern by pattern, each section by itself.
use Prim.Native.Nat.{ℕ, suc, ◌+◌, ◌*◌, ◌-◌, ◌/◌, ◌%◌, ◌^◌, ◌<◌, ◌≤◌}
use mathlib.Core.Path.{◌≡◌, refl, sym, ap, ap₂, ◌∙◌}
use mathlib.Core.Logic.{⊎_elim}
use mathlib.Core.Bool.{cond}
use mathlib.Core.List.{List}
use native.Mathlib.Omega.{arith}
use native.Mathlib.Nat.{le_refl, mul-le-mul_right}
use lib.Dec.{T, T_not, eqb, eqb→eq, ltb, ltb→lt, leb, leb→le, nleb→lt}
use lib.ListN.{get_or, set}
use borrow.Author.Tests.{lt-ltb, le-ltb}
use Rattle.base.proofs.Tests.{cond_has, decide, eq_test, eqb_yes, eqb_not}
use Rattle.base.proofs.Tabulate.{tabulate_set}
use Rattle.sheet.specs.Limits.{max_wires, max_patterns}
use Rattle.table.specs.Bits.{bit, sum, tabulate, is_one}
use Rattle.table.specs.Inner.Pairs.{narrow_patterns, upper_half, pair_bits, seat, paired}
use Rattle.table.proofs.Bits.{sum_cong, sum_short, tabulate_cong}
use Rattle.table.proofs.BitColumns.{is_one_lt_two}
use Rattle.relation.specs.Tests.{occurs}
use Rattle.relation.specs.Inner.Members.{member}
use Rattle.relation.specs.Inner.Side.{section}
use Rattle.relation.specs.Inner.Masks.{mask_of}
use Rattle.relation.specs.Inner.Narrowed.{NonePast}
use Rattle.relation.proofs.Masks.{none_occurs, mask_bit_lem}
use Rattle.relation.proofs.Members.{member_sets}
use Rattle.relation.proofs.Side.{section_bit}
use Rattle.by_value.proofs.Puts.{below_same}
use Rattle.by_value.proofs.SectionSums.{within, part, word_below, below_none, below_whole, below_other, below_more, below_room, words_to, to_none, word_at_lem}
use Rattle.parts.specs.Inner.Pairs.{both_sides, sides_of}
use Rattle.table.specs.Inner.Wide.{sections}
use Rattle.parts.specs.Inner.Words.{word_count, word_place, word_of, pairs_of, words_for, word_at}

-- what a place says
pub place_section : (q j : ℕ) → j < max_wires → word_place q j / max_wires ≡ q
place_section q j l = omega arith

pub place_wire : (q j : ℕ) → j < max_wires → word_place q j % max_wires ≡ j
place_wire q j l = omega arith

pub place_lt : (q j : ℕ) → q < sections → j < max_wires → word_place q j < word_count
place_lt q j lq lj = omega arith

pub pattern_section : (p : ℕ) → p < max_patterns → p / narrow_patterns < sections
pattern_section p l = omega arith

-- what counts for those below k is the same for all but k itself where k counts too
pub others_same : {A : Type 0} (x y : A) (i k : ℕ) → (i ≡ k → ⊥) → cond (ltb i k) x y ≡ cond (ltb i (suc k)) x y
others_same x y i k ne = ap (λ t. cond t x y) (below_same i k ne)

pub sides_le : (w j : ℕ) → sides_of w j ≤ both_sides
unfolding sides_of
sides_le w j = omega (arith, is_one_lt_two (occurs max_wires (member w) j 1), is_one_lt_two (occurs max_wires (member w) j 0))

-- what the set of a section's r-th pattern puts into wire j's word, and the most that it does: a word has room for all of these
abbrev put_sides : (w j r : ℕ) → ℕ
put_sides w j r = sides_of w j * 2 ^ seat r

abbrev most_sides : ℕ → ℕ
most_sides r = both_sides * 2 ^ seat r

most_sides_fit : T (ltb (sum narrow_patterns most_sides) (2 ^ pair_bits))
unfolding sum seat
most_sides_fit = tt

module _ (sets : List ℕ) (q j : ℕ) where
  -- the word is the sum over the section
  word_sum : q < sections → word_of sets q j ≡ sum narrow_patterns (part put_sides sets q j)
  unfolding word_of paired sides_of
  word_sum lq =
      let at : (b r : ℕ) → r < narrow_patterns → bit (section (mask_of sets j b) q) r ≡ is_one (occurs max_wires (member (get_or sets (narrow_patterns * q + r) 0)) j b) =
      λ b r l. section_bit (mask_of sets j b) q r l ∙ mask_bit_lem sets j b (narrow_patterns * q + r) (omega arith)
      ∙ ap (λ S. is_one (occurs max_wires S j b)) (member_sets sets (narrow_patterns * q + r)) in
      sum_cong narrow_patterns (λ r. (bit (section (mask_of sets j 1) q) r + upper_half * bit (section (mask_of sets j 0) q) r) * 2 ^ seat r)
      (λ r. (is_one (occurs max_wires (member (get_or sets (narrow_patterns * q + r) 0)) j 1)
      + upper_half * is_one (occurs max_wires (member (get_or sets (narrow_patterns * q + r) 0)) j 0)) * 2 ^ seat r)
      (λ r l. ap₂ (λ x y. (x + upper_half * y) * 2 ^ seat r) (at 1 r l) (at 0 r l))

  -- a pattern with no value puts in nothing
  part_none : (r : ℕ) → get_or sets (narrow_patterns * q + r) 0 ≡ 0 → part put_sides sets q j r ≡ 0
  unfolding sides_of
  part_none r e =
      let p = narrow_patterns * q + r in
      let none : (b : ℕ) → is_one (occurs max_wires (member (get_or sets p 0)) j b) ≡ 0 =
      λ b. ap (λ S. is_one (occurs max_wires S j b)) (sym (member_sets sets p)) ∙ none_occurs sets p j b e in
      rw (none 1, none 0) (omega arith)

-- all patterns passed: it is the whole word
below_all : (n p : ℕ) (sets : List ℕ) (q j : ℕ) → q < sections → NonePast n sets → p ≡ 2 ^ n → word_below put_sides p sets q j ≡ word_of sets q j
unfolding word_below
below_all n p sets q j lq past e =
    ⊎_elim
    (λ t. below_whole put_sides sets q j p (leb→le (narrow_patterns * q + narrow_patterns) p t))
    (λ t.
    let l = nleb→lt (narrow_patterns * q + narrow_patterns) p t in
    let a : within p q ≡ p - narrow_patterns * q = omega arith in
    ap (λ k. sum k (part put_sides sets q j)) a
    ∙ sym (sum_short (part put_sides sets q j) (p - narrow_patterns * q) narrow_patterns (omega arith)
    (λ r h. part_none sets q j r (past (narrow_patterns * q + r) (rw (← e) (beyond r h))))))
    (decide (leb (narrow_patterns * q + narrow_patterns) p))
    ∙ sym (word_sum sets q j lq)
  where
    beyond : (r : ℕ) → p - narrow_patterns * q ≤ r → p ≤ narrow_patterns * q + r
    beyond r h = omega arith

-- the words of all wires, where wire j has the patterns below g j
abbrev pub pairs_to : List ℕ → (ℕ → ℕ) → List ℕ
pairs_to sets g = words_to put_sides word_count max_wires sets g

pub pairs_none : (sets : List ℕ) (g : ℕ → ℕ) → ((i : ℕ) → g i ≡ 0) → tabulate word_count (λ _. 0) ≡ pairs_to sets g
pairs_none sets g none = to_none put_sides word_count max_wires sets g none

module _ (sets : List ℕ) (g : ℕ → ℕ) (p j : ℕ) {words : List ℕ} (lp : p < max_patterns) (lj : j < max_wires) (e : words ≡ pairs_to sets g) (at : g j ≡ p) where
  wire_at_lem : word_at words p j ≡ word_below put_sides p sets (p / narrow_patterns) j
  wire_at_lem =
      let q = p / narrow_patterns in
      word_at_lem put_sides word_count max_wires sets g e (word_place q j) q j (place_lt q j (pattern_section p lp) lj) (place_section q j lj) (place_wire q j lj)
      ∙ ap (λ x. word_below put_sides x sets q j) at

  -- there is room for the next pattern, and with it put in it is there
  pub pairs_room : word_at words p j + both_sides * 2 ^ seat (p % narrow_patterns) < 2 ^ pair_bits
  pairs_room =
      rw wire_at_lem
      (below_room put_sides sets p j most_sides (2 ^ pair_bits) (λ w r. mul-le-mul_right (2 ^ seat r) (sides_le w j)) (ltb→lt (sum narrow_patterns most_sides) (2 ^ pair_bits) most_sides_fit))

  pub pairs_more : (h : ℕ → ℕ) → h j ≡ p + 1 → ((i : ℕ) → (i ≡ j → ⊥) → g i ≡ h i) → {r : List ℕ}
      → r ≡ set words (word_place (p / narrow_patterns) j) (word_at words p j + sides_of (get_or sets p 0) j * 2 ^ seat (p % narrow_patterns))
      → r ≡ pairs_to sets h
  pairs_more h next others er =
      let q = p / narrow_patterns in
      let k = word_place q j in
      let x = word_at words p j + sides_of (get_or sets p 0) j * 2 ^ seat (p % narrow_patterns) in
      let new : word_below put_sides (h (k % max_wires)) sets (k / max_wires) (k % max_wires) ≡ word_below put_sides (p + 1) sets q j =
      ap₂ (λ x y. word_below put_sides (h x) sets y x) (place_wire q j lj) (place_section q j lj) ∙ ap (λ x. word_below put_sides x sets q j) next in
      er ∙ ap (λ l. set l k x) e
      ∙ tabulate_set word_count (λ i. word_below put_sides (g (i % max_wires)) sets (i / max_wires) (i % max_wires)) (λ i. word_below put_sides (h (i % max_wires)) sets (i / max_wires) (i % max_wires))
      k x (place_lt q j (pattern_section p lp) lj)
      (ap (λ y. y + sides_of (get_or sets p 0) j * 2 ^ seat (p % narrow_patterns)) wire_at_lem ∙ sym (below_more put_sides sets p j) ∙ sym new) other
    where
      apart : (i : ℕ) → (i ≡ word_place (p / narrow_patterns) j → ⊥) → i % max_wires ≡ j → i / max_wires ≡ p / narrow_patterns → ⊥
      apart i ne d s = ne (omega arith)

      other : (i : ℕ) → (i ≡ word_place (p / narrow_patterns) j → ⊥)
          → word_below put_sides (g (i % max_wires)) sets (i / max_wires) (i % max_wires) ≡ word_below put_sides (h (i % max_wires)) sets (i / max_wires) (i % max_wires)
      other i ne =
          ⊎_elim
          (λ t.
          let d = eqb→eq (i % max_wires) j t in
          ap (λ k. word_below put_sides k sets (i / max_wires) (i % max_wires)) (ap g d ∙ at) ∙ below_other put_sides sets (i / max_wires) (i % max_wires) p (apart i ne d)
          ∙ ap (λ k. word_below put_sides k sets (i / max_wires) (i % max_wires)) (sym (ap h d ∙ next)))
          (λ t. ap (λ k. word_below put_sides k sets (i / max_wires) (i % max_wires)) (others (i % max_wires) (λ d. T_not (eqb (i % max_wires) j) t (eq_test d))))
          (decide (eqb (i % max_wires) j))

-- one wire alone
abbrev pub alone : (p j i : ℕ) → ℕ
alone p j i = cond (eqb i j) p 0

pub alone_none : (j i : ℕ) → alone 0 j i ≡ 0
alone_none j i = cond_has (λ x. x ≡ 0) (eqb i j) (λ _. refl) (λ _. refl)

pub alone_at : (p j : ℕ) → alone p j j ≡ p
alone_at p j = eqb_yes j j p 0 refl

pub alone_other : (p j i : ℕ) → (i ≡ j → ⊥) → alone p j i ≡ alone (p + 1) j i
alone_other p j i ne = eqb_not i j p 0 ne ∙ sym (eqb_not i j (p + 1) 0 ne)

pub alone_all : (n p : ℕ) (sets : List ℕ) (j : ℕ) → NonePast n sets → p ≡ 2 ^ n → pairs_to sets (alone p j) ≡ words_for sets j
unfolding words_for
alone_all n p sets j past e =
    tabulate_cong word_count (λ i. word_below put_sides (alone p j (i % max_wires)) sets (i / max_wires) (i % max_wires)) (λ i. cond (eqb (i % max_wires) j) (word_of sets (i / max_wires) j) 0)
    (λ i l.
    ⊎_elim
    (λ t.
    let d = eqb→eq (i % max_wires) j t in
    let s : i / max_wires < sections = omega arith in
    ap (λ k. word_below put_sides k sets (i / max_wires) (i % max_wires)) (eqb_yes (i % max_wires) j p 0 d)
    ∙ ap (word_below put_sides p sets (i / max_wires)) d ∙ below_all n p sets (i / max_wires) j s past e
    ∙ sym (eqb_yes (i % max_wires) j (word_of sets (i / max_wires) j) 0 d))
    (λ t.
    let ne : i % max_wires ≡ j → ⊥ = λ d. T_not (eqb (i % max_wires) j) t (eq_test d) in
    ap (λ k. word_below put_sides k sets (i / max_wires) (i % max_wires)) (eqb_not (i % max_wires) j p 0 ne)
    ∙ below_none put_sides sets (i / max_wires) (i % max_wires) 0 (omega arith) ∙ sym (eqb_not (i % max_wires) j (word_of sets (i / max_wires) j) 0 ne))
    (decide (eqb (i % max_wires) j)))

-- all wires, of which the first k have pattern p too
abbrev pub firsts : (p k i : ℕ) → ℕ
firsts p k i = cond (ltb i k) (p + 1) p

pub firsts_at : (p k : ℕ) → firsts p k k ≡ p
firsts_at p k = rw (le-ltb k k (le_refl k))

pub firsts_next : (p k : ℕ) → firsts p (k + 1) k ≡ p + 1
firsts_next p k = rw (lt-ltb k (k + 1) (omega arith))

pub firsts_other : (p k i : ℕ) → (i ≡ k → ⊥) → firsts p k i ≡ firsts p (k + 1) i
firsts_other p k i ne = let e : suc k ≡ k + 1 = omega arith in others_same (p + 1) p i k ne ∙ ap (λ b. firsts p b i) e

pub firsts_none : (p i : ℕ) → firsts p 0 i ≡ p
firsts_none p i = rw (le-ltb i 0 (omega arith))

pub firsts_all : (n p : ℕ) (sets : List ℕ) → NonePast n sets → p ≡ 2 ^ n → pairs_to sets (firsts p 0) ≡ pairs_of sets
unfolding pairs_of
firsts_all n p sets past e =
    tabulate_cong word_count (λ i. word_below put_sides (firsts p 0 (i % max_wires)) sets (i / max_wires) (i % max_wires)) (λ i. word_of sets (i / max_wires) (i % max_wires))
    (λ i l.
    let s : i / max_wires < sections = omega arith in
    ap (λ k. word_below put_sides k sets (i / max_wires) (i % max_wires)) (firsts_none p (i % max_wires)) ∙ below_all n p sets (i / max_wires) (i % max_wires) s past e)
