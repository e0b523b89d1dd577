-- The words are put together pattern by pattern, each section by itself.
use Prim.Native.Nat.{ℕ, ◌+◌, ◌*◌, ◌/◌, ◌%◌, ◌^◌, ◌<◌, ◌≤◌}
use mathlib.Core.Path.{◌≡◌, refl, sym, ap, ap₂, ◌∙◌}
use mathlib.Core.Logic.{◌⊎◌, inl, inr, ⊎_elim}
use mathlib.Core.Bool.{cond}
use mathlib.Core.List.{List}
use native.Mathlib.Omega.{arith}
use native.Mathlib.Nat.{add-mul, mul_assoc, mul-le-mul_right}
use lib.Dec.{T, T_not, eqb, eqb→eq, ltb, ltb→lt}
use lib.ListN.{get_or}
use lib.Pow.{pow-add}
use Rattle.base.proofs.Tests.{decide, eq_test, eqb_yes, eqb_not}
use Rattle.sheet.specs.Limits.{max_patterns}
use Rattle.table.specs.Bits.{bit, sum, of_bits, is_one}
use Rattle.table.specs.Inner.Pairs.{narrow_patterns}
use Rattle.table.specs.Inner.Wide.{sections}
use Rattle.table.proofs.Bits.{sum_cong, bit_lt, bit_mod, bit_div, bit_cases, tabulate_cong}
use Rattle.table.proofs.Sums.{sum_append, sum_add}
use Rattle.relation.specs.Inner.Members.{member}
use Rattle.lanes.specs.Inner.Lanes.{each_lane, lanes_of}
use Rattle.by_value.proofs.SectionSums.{part, word_below, below_none, below_whole, below_other, below_more, below_room, words_to, word_at_lem}
use Rattle.by_value.specs.Inner.ByValue.{word_values, word_width, section_words, all_words, value_word_place, value_word, values_in, added, value_word_at, HasRoom, with_set, WordsBelow}

-- a sum over the bits of a word, lane by lane
abbrev of_lane : (ℕ → ℕ) → (i r : ℕ) → ℕ
of_lane f i r = f (narrow_patterns * i + r)

sum_lanes : (f : ℕ → ℕ) → sum word_width f ≡ sum narrow_patterns (λ r. of_lane f 0 r + of_lane f 1 r + of_lane f 2 r + of_lane f 3 r)
sum_lanes f =
    let n = narrow_patterns in
    let first : sum n f ≡ sum n (of_lane f 0) = sum_cong n f (of_lane f 0) (λ r _. ap f (omega arith)) in
    omega (
      arith,
      first,
      sum_append n n f,
      sum_append (2 * n) n f,
      sum_append (3 * n) n f,
      sum_add n (of_lane f 0) (of_lane f 1),
      sum_add n (λ r. of_lane f 0 r + of_lane f 1 r) (of_lane f 2),
      sum_add n (λ r. of_lane f 0 r + of_lane f 1 r + of_lane f 2 r) (of_lane f 3),
    )

-- a test of a bit is the bit
test_bit : (x v : ℕ) → is_one (eqb (bit x v) 1) ≡ bit x v
unfolding is_one
test_bit x v = go (bit x v) (bit_cases x v)
  where
    go : (y : ℕ) → (y ≡ 0) ⊎ (y ≡ 1) → is_one (eqb y 1) ≡ y
    go y (inl e) = rw e
    go y (inr e) = rw e

four_times_lem : (a b c d x : ℕ) → (a + b + c + d) * x ≡ a * x + b * x + c * x + d * x
four_times_lem a b c d x = omega (arith, add-mul (a + b + c) d x, add-mul (a + b) c x, add-mul a b x)

-- what the r-th pattern of section q puts into word k, lane by lane
module _ (sets : List ℕ) (q k : ℕ) where
  abbrev place : ℕ → ℕ
  place b = is_one (member (get_or sets (narrow_patterns * q + b % narrow_patterns) 0) (word_values * k + b / narrow_patterns)) * 2 ^ b

  in_lane : (i r : ℕ) → i < word_values → r < narrow_patterns
      → of_lane place i r ≡ bit (values_in (get_or sets (narrow_patterns * q + r) 0) k) i * 2 ^ (narrow_patterns * i) * 2 ^ r
  unfolding member
  in_lane i r li lr =
      let w = get_or sets (narrow_patterns * q + r) 0 in
      let v = word_values * k + i in
      let low : (narrow_patterns * i + r) % narrow_patterns ≡ r = omega arith in
      let high : (narrow_patterns * i + r) / narrow_patterns ≡ i = omega arith in
      ap₂ (λ x y. is_one (eqb (bit (get_or sets (narrow_patterns * q + x) 0) (word_values * k + y)) 1) * 2 ^ (narrow_patterns * i + r)) low high
      ∙ ap₂ (λ x y. x * y) (test_bit w v ∙ sym (bit_div w (word_values * k) i) ∙ sym (bit_mod (w / 2 ^ (word_values * k)) {j = i} {k = word_values} li))
      (pow-add 2 (narrow_patterns * i) r)
      ∙ sym (mul_assoc (bit (values_in w k) i) (2 ^ (narrow_patterns * i)) (2 ^ r))

  part_lanes : (r : ℕ) → r < narrow_patterns → of_lane place 0 r + of_lane place 1 r + of_lane place 2 r + of_lane place 3 r ≡ part added sets q k r
  unfolding added lanes_of sum
  part_lanes r lr =
      let x = values_in (get_or sets (narrow_patterns * q + r) 0) k in
      let g : ℕ → ℕ = λ i. bit x i * 2 ^ (narrow_patterns * i) in
      let e : lanes_of (bit x) ≡ g 0 + g 1 + g 2 + g 3 = omega arith in
      let s = ap (λ y. y * 2 ^ r) e ∙ four_times_lem (g 0) (g 1) (g 2) (g 3) (2 ^ r) in
      omega (
        arith,
        s,
        in_lane 0 r (omega arith) lr,
        in_lane 1 r (omega arith) lr,
        in_lane 2 r (omega arith) lr,
        in_lane 3 r (omega arith) lr,
      )

  -- the word is the sum over the section
  word_sum : value_word sets q k ≡ sum narrow_patterns (part added sets q k)
  unfolding value_word of_bits
  word_sum = sum_lanes place ∙ sum_cong narrow_patterns (λ r. of_lane place 0 r + of_lane place 1 r + of_lane place 2 r + of_lane place 3 r) (part added sets q k) part_lanes

-- a word has room for the most that patterns put in
bit_small : (x i : ℕ) → bit x i ≤ 1
bit_small x i = omega (arith, bit_lt x i)

spread_le : (x : ℕ) → lanes_of (bit x) ≤ each_lane
unfolding lanes_of sum
spread_le x = omega (arith, bit_small x 0, bit_small x 1, bit_small x 2, bit_small x 3)

added_le : (w k r : ℕ) → added w k r ≤ each_lane * 2 ^ r
unfolding added
added_le w k r = mul-le-mul_right (2 ^ r) (spread_le (values_in w k))

abbrev most : ℕ → ℕ
most i = each_lane * 2 ^ i

most_fits : T (ltb (sum narrow_patterns most) (2 ^ word_width))
unfolding sum
most_fits = tt

-- all words, with the patterns below p
abbrev pub value_words_to : ℕ → List ℕ → List ℕ
value_words_to p sets = words_to added all_words section_words sets (λ _. p)

module _ (p : ℕ) (sets words : List ℕ) (e : words ≡ value_words_to p sets) where
  value_word_at_lem : (i : ℕ) → i < all_words → get_or words i 0 ≡ word_below added p sets (i / section_words) (i % section_words)
  value_word_at_lem i l = word_at_lem added all_words section_words sets (λ _. p) e i (i / section_words) (i % section_words) l refl refl

  place_to : (q k : ℕ) → q < sections → k < section_words → get_or words (value_word_place q k) 0 ≡ word_below added p sets q k
  place_to q k lq lk = word_at_lem added all_words section_words sets (λ _. p) e (value_word_place q k) q k (omega arith) (omega arith) (omega arith)

module _ (p : ℕ) (sets words : List ℕ) (lp : p < max_patterns) (e : words ≡ value_words_to p sets) where
  pub to_room : (k : ℕ) → k < section_words → HasRoom (value_word_at words p k) p
  to_room k l =
      rw (place_to p sets words e (p / narrow_patterns) k (omega arith) l)
      (below_room added sets p k most (2 ^ word_width) (λ w r. added_le w k r) (ltb→lt (sum narrow_patterns most) (2 ^ word_width) most_fits))

  pub to_more : with_set words p (get_or sets p 0) ≡ value_words_to (p + 1) sets
  unfolding with_set
  to_more =
      tabulate_cong all_words (λ i. cond (eqb (i / section_words) (p / narrow_patterns)) (new i) (get_or words i 0))
      (λ i. word_below added (p + 1) sets (i / section_words) (i % section_words))
      (λ i l.
      let at = value_word_at_lem p sets words e i l in
      let q = i / section_words in
      let k = i % section_words in
      ⊎_elim
      (λ t.
      let d : q ≡ p / narrow_patterns = eqb→eq q (p / narrow_patterns) t in
      eqb_yes q (p / narrow_patterns) (new i) (get_or words i 0) d
      ∙ ap (λ x. x + added (get_or sets p 0) k (p % narrow_patterns)) (at ∙ ap (λ x. word_below added p sets x k) d)
      ∙ sym (below_more added sets p k) ∙ ap (λ x. word_below added (p + 1) sets x k) (sym d))
      (λ t.
      let ne : q ≡ p / narrow_patterns → ⊥ = λ d. T_not (eqb q (p / narrow_patterns)) t (eq_test d) in
      eqb_not q (p / narrow_patterns) (new i) (get_or words i 0) ne ∙ at ∙ below_other added sets q k p ne)
      (decide (eqb q (p / narrow_patterns))))
    where
      new : ℕ → ℕ
      new i = get_or words i 0 + added (get_or sets p 0) (i % section_words) (p % narrow_patterns)

-- all patterns passed
pub to_all : (seen : ℕ) (sets words : List ℕ) → seen ≤ max_patterns → seen % narrow_patterns ≡ 0 → words ≡ value_words_to seen sets → WordsBelow seen sets words
to_all seen sets words l m e = (
  λ q k lq lk. place_to seen sets words e q k (omega arith) lk ∙ below_whole added sets q k seen (omega arith) ∙ sym (word_sum sets q k),
  λ q k h lq lk. place_to seen sets words e q k lq lk ∙ below_none added sets q k seen h,
)
