-- The rows of the masks: what they tell of the words, replaced one wire after the other, cut, and put back.
use Prim.Native.Nat.{ℕ, suc, ◌+◌, ◌*◌, ◌-◌, ◌/◌, ◌%◌, ◌^◌, ◌<◌, ◌≤◌}
use mathlib.Core.Path.{◌≡◌, refl, sym, ap, ap₂, ◌∙◌}
use mathlib.Core.Logic.{⊎_elim}
use mathlib.Core.Bool.{not, cond}
use mathlib.Core.List.{List}
use native.Mathlib.Omega.{arith}
use native.Mathlib.Nat.{mul-le-mul_right, mul_assoc}
use lib.Bits.{bit_and, and_block, and_le_l, and_zero_r}
use lib.Dec.{T_not, eqb, eqb→eq, ltb, ltb→lt, nltb→le}
use lib.ListN.{length, get_or, set}
use lib.Pow.{pow_mono, pow-add}
use borrow.Author.Tests.{lt-ltb, le-ltb}
use Rattle.base.proofs.Tests.{cond_has, cond_has₂, decide, eq_test, eqb_yes, eqb_not}
use Rattle.base.proofs.Tabulate.{tabulate_set, tabulate_length, tabulate_entry, filled_tabulate}
use Rattle.sheet.specs.Limits.{max_wires, max_patterns}
use Rattle.table.specs.Bits.{sum, tabulate}
use Rattle.table.proofs.Bits.{tabulate_at, tabulate_cong}
use Rattle.table.specs.Inner.Pairs.{narrow_patterns, pair_bits, seat}
use Rattle.table.specs.Inner.Wide.{sections}
use Rattle.table.proofs.BitColumns.{is_one_lt_two}
use Rattle.relation.specs.Tests.{occurs}
use Rattle.relation.specs.Inner.Members.{member}
use Rattle.lanes.specs.Inner.Lanes.{lane_space, lanes_space, lane_of, lanes_of}
use Rattle.lanes.proofs.Lanes.{lane_lt, lane_lanes, lanes_cong, lanes_back}
use Rattle.parts.specs.Inner.Pairs.{both_sides, lost_of, cut_pair, cut_pairs}
use Rattle.parts.specs.Inner.Words.{word_count, word_place, row_of, with_row}
use Rattle.parts.specs.Inner.Masks.{row_patterns, Halved, mask_count, mask_place, word_from, words_of, mask_row, with_lanes, cut_half, cut_row}
use Rattle.parts.proofs.PairCuts.{cut_taken}
use Rattle.parts.proofs.WordSums.{place_section, place_wire, place_lt, others_same}

-- the words are told by their halves
pub words_told : (masks : List ℕ) (q j : ℕ) → q < sections → j < max_wires → get_or (words_of masks) (word_place q j) 0 ≡ word_from masks q j
unfolding words_of
words_told masks q j lq lj =
    tabulate_at word_count (λ i. word_from masks (i / max_wires) (i % max_wires)) (word_place q j) (place_lt q j lq lj)
    ∙ ap₂ (word_from masks) (place_section q j lj) (place_wire q j lj)

-- so the code makes a word of its halves
pub pair_made : (masks : List ℕ) (q j : ℕ) {lo hi : ℕ} → lo ≡ get_or masks (2 * max_wires * q + j) 0 → hi ≡ get_or masks (2 * max_wires * q + j + max_wires) 0
    → lo + hi * lane_space ≡ word_from masks q j
unfolding word_from
pair_made masks q j el eh =
    let low : 2 * max_wires * q + j ≡ mask_place (2 * q) j = omega arith in
    let high : 2 * max_wires * q + j + max_wires ≡ mask_place (2 * q + 1) j = omega arith in
    ap₂ (λ u v. u + v * lane_space) (el ∙ ap (λ i. get_or masks i 0) low) (eh ∙ ap (λ i. get_or masks i 0) high)

-- words that have these halves
words_are : (masks : List ℕ) (f : ℕ → ℕ) → ((i : ℕ) → i < word_count → word_from masks (i / max_wires) (i % max_wires) ≡ f i) → words_of masks ≡ tabulate word_count f
unfolding words_of
words_are masks f h = tabulate_cong word_count (λ i. word_from masks (i / max_wires) (i % max_wires)) f h

-- words in their halves, one after the other: where the lower half of word k stands, and the halves of the words below i that are in place
abbrev pub low_place : ℕ → ℕ
low_place k = k / max_wires * (2 * max_wires) + k % max_wires

abbrev pub HalvesTo : (words masks : List ℕ) → ℕ → Type 0
HalvesTo words masks i = (k : ℕ) → k < i → (get_or masks (low_place k) 0 ≡ get_or words k 0 % lane_space) × (get_or masks (low_place k + max_wires) 0 ≡ get_or words k 0 / lane_space)

pub halves_all : (words masks : List ℕ) → length words ≡ word_count → HalvesTo words masks word_count → words_of masks ≡ words
unfolding word_from
halves_all words masks long h =
    words_are masks (λ i. get_or words i 0)
    (λ i l.
    let low : mask_place (2 * (i / max_wires)) (i % max_wires) ≡ low_place i = omega arith in
    let high : mask_place (2 * (i / max_wires) + 1) (i % max_wires) ≡ low_place i + max_wires = omega arith in
    ap₂ (λ u v. u + v * lane_space) (ap (λ k. get_or masks k 0) low ∙ (h i l).0) (ap (λ k. get_or masks k 0) high ∙ (h i l).1) ∙ omega arith)
    ∙ sym (filled_tabulate word_count (λ i. get_or words i 0) words long (λ _ _. refl))

mask_lt : (b j : ℕ) → b < 2 * sections → j < max_wires → mask_place b j < mask_count
mask_lt b j lb lj = omega arith

-- where a row begins
pub first_place : (b : ℕ) {at : ℕ} → at ≡ b * max_wires → at ≡ mask_place b 0
first_place b e = omega arith

-- so the code reads a row
pub row_made : (masks : List ℕ) (b : ℕ) {at : ℕ} → at ≡ b * max_wires → {x0 x1 x2 x3 : ℕ}
    → x0 ≡ get_or masks at 0 → x1 ≡ get_or masks (at + 1) 0 → x2 ≡ get_or masks (at + 2) 0 → x3 ≡ get_or masks (at + 3) 0
    → x0 + x1 * lane_space + x2 * lane_space ^ 2 + x3 * lane_space ^ 3 ≡ mask_row masks b
unfolding mask_row lanes_of sum
row_made masks b {at} e e0 e1 e2 e3 =
    let p0 : get_or masks at 0 ≡ get_or masks (mask_place b 0) 0 = ap (λ i. get_or masks i 0) (omega arith) in
    let p1 : get_or masks (at + 1) 0 ≡ get_or masks (mask_place b 1) 0 = ap (λ i. get_or masks (i + 1) 0) e in
    let p2 : get_or masks (at + 2) 0 ≡ get_or masks (mask_place b 2) 0 = ap (λ i. get_or masks (i + 2) 0) e in
    let p3 : get_or masks (at + 3) 0 ≡ get_or masks (mask_place b 3) 0 = ap (λ i. get_or masks (i + 3) 0) e in
    omega arith

-- a row that is replaced
module _ (masks : List ℕ) (b row : ℕ) where
  abbrev replaced : ℕ → ℕ
  replaced i = cond (eqb (i / max_wires) b) (lane_of row (i % max_wires)) (get_or masks i 0)

  -- the masks once the first k wires are replaced
  partly : ℕ → ℕ → ℕ
  partly k i = cond (eqb (i / max_wires) b) (cond (ltb (i % max_wires) k) (lane_of row (i % max_wires)) (get_or masks i 0)) (get_or masks i 0)

  partly_next : (k : ℕ) → k < max_wires → b < 2 * sections → {at : ℕ} {l : List ℕ} → at ≡ mask_place b k → l ≡ tabulate mask_count (partly k)
      → set l at (lane_of row k) ≡ tabulate mask_count (partly (suc k))
  unfolding partly
  partly_next k lk lb {at} {l} ea el =
      let i = mask_place b k in
      let here : lane_of row k ≡ partly (suc k) i =
      sym (eqb_yes (i / max_wires) b (cond (ltb (i % max_wires) (suc k)) (lane_of row (i % max_wires)) (get_or masks i 0)) (get_or masks i 0) (place_section b k lk)
      ∙ ap (λ w. cond (ltb w (suc k)) (lane_of row w) (get_or masks i 0)) (place_wire b k lk) ∙ rw (lt-ltb k (suc k) (omega arith))) in
      ap₂ (λ x y. set x y (lane_of row k)) el ea ∙ tabulate_set mask_count (partly k) (partly (suc k)) i (lane_of row k) (mask_lt b k lb lk) here other
    where
      apart : (i : ℕ) → (i ≡ mask_place b k → ⊥) → i / max_wires ≡ b → i % max_wires ≡ k → ⊥
      apart i ne d e = ne (omega arith)

      other : (i : ℕ) → (i ≡ mask_place b k → ⊥) → partly k i ≡ partly (suc k) i
      other i ne =
          cond_has₂ (λ x y. x ≡ y) (eqb (i / max_wires) b)
          (λ t. others_same (lane_of row (i % max_wires)) (get_or masks i 0) (i % max_wires) k (apart i ne (eqb→eq (i / max_wires) b t))) (λ _. refl)

  -- so the code puts a row
  pub row_put : b < 2 * sections → length masks ≡ mask_count → (at : ℕ) → at ≡ mask_place b 0 → {x0 x1 x2 x3 : ℕ}
      → x0 ≡ lane_of row 0 → x1 ≡ lane_of row 1 → x2 ≡ lane_of row 2 → x3 ≡ lane_of row 3
      → set (set (set (set masks at x0) (at + 1) x1) (at + 2) x2) (at + 3) x3 ≡ with_lanes masks b row
  unfolding with_lanes partly
  row_put lb long at e e0 e1 e2 e3 =
      let none : masks ≡ tabulate mask_count (partly 0) =
      filled_tabulate mask_count (partly 0) masks long
      (λ i _. cond_has (λ x. get_or masks i 0 ≡ x) (eqb (i / max_wires) b) (λ _. rw (le-ltb (i % max_wires) 0 (omega arith))) (λ _. refl)) in
      rw (e0, e1, e2, e3)
      (partly_next 3 (omega arith) lb (omega arith)
      (partly_next 2 (omega arith) lb (omega arith) (partly_next 1 (omega arith) lb (omega arith) (partly_next 0 (omega arith) lb e none)))
      ∙ tabulate_cong mask_count (partly max_wires) replaced
      (λ i _. ap (λ t. cond (eqb (i / max_wires) b) (cond t (lane_of row (i % max_wires)) (get_or masks i 0)) (get_or masks i 0)) (lt-ltb (i % max_wires) max_wires (omega arith))))

  pub with_long : length (with_lanes masks b row) ≡ mask_count
  unfolding with_lanes
  with_long = tabulate_length mask_count replaced

  -- every number is still a half of a word
  pub with_small : Halved masks → Halved (with_lanes masks b row)
  unfolding with_lanes
  with_small small i =
      rw (tabulate_entry mask_count replaced i)
      (cond_has (λ x. x < lane_space) (ltb i mask_count)
      (λ _. cond_has (λ x. x < lane_space) (eqb (i / max_wires) b) (λ _. lane_lt row (i % max_wires)) (λ _. small i)) (λ _. omega arith))

  -- a number of the row, and of another
  with_at : (j : ℕ) → b < 2 * sections → j < max_wires → get_or (with_lanes masks b row) (mask_place b j) 0 ≡ lane_of row j
  unfolding with_lanes
  with_at j lb lj =
      tabulate_at mask_count replaced (mask_place b j) (mask_lt b j lb lj)
      ∙ eqb_yes (mask_place b j / max_wires) b (lane_of row (mask_place b j % max_wires)) (get_or masks (mask_place b j) 0) (place_section b j lj) ∙ ap (lane_of row) (place_wire b j lj)

  with_other : (a j : ℕ) → a < 2 * sections → j < max_wires → (a ≡ b → ⊥) → get_or (with_lanes masks b row) (mask_place a j) 0 ≡ get_or masks (mask_place a j) 0
  unfolding with_lanes
  with_other a j la lj ne =
      tabulate_at mask_count replaced (mask_place a j) (mask_lt a j la lj)
      ∙ eqb_not (mask_place a j / max_wires) b (lane_of row (mask_place a j % max_wires)) (get_or masks (mask_place a j) 0) (λ e. ne (sym (place_section a j lj) ∙ e))

  -- the row that is put is there
  pub row_there : b < 2 * sections → row < lanes_space → mask_row (with_lanes masks b row) b ≡ row
  unfolding mask_row
  row_there lb lr =
      lanes_cong (λ j. get_or (with_lanes masks b row) (mask_place b j) 0) (lane_of row) (λ j l. with_at j lb l) ∙ lanes_back row lr

  -- a row that is put in place of another
  pub row_again : (other : ℕ) → with_lanes (with_lanes masks b other) b row ≡ with_lanes masks b row
  unfolding with_lanes
  row_again other =
      let f : ℕ → ℕ = λ i. cond (eqb (i / max_wires) b) (lane_of other (i % max_wires)) (get_or masks i 0) in
      tabulate_cong mask_count (λ i. cond (eqb (i / max_wires) b) (lane_of row (i % max_wires)) (get_or (tabulate mask_count f) i 0)) replaced
      (λ i l.
      cond_has₂ (λ x y. x ≡ y) (eqb (i / max_wires) b) (λ _. refl)
      (λ t.
      tabulate_at mask_count f i l
      ∙ eqb_not (i / max_wires) b (lane_of other (i % max_wires)) (get_or masks i 0) (λ d. T_not (eqb (i / max_wires) b) t (eq_test d))))

module _ (masks : List ℕ) (b : ℕ) (small : Halved masks) where
  pub row_lane : (j : ℕ) → j < max_wires → lane_of (mask_row masks b) j ≡ get_or masks (mask_place b j) 0
  unfolding mask_row
  row_lane j l = lane_lanes (λ i. get_or masks (mask_place b i) 0) (λ i _. small (mask_place b i)) j l

  -- the row that was there, put back
  pub row_back : length masks ≡ mask_count → with_lanes masks b (mask_row masks b) ≡ masks
  unfolding with_lanes
  row_back long =
      sym (filled_tabulate mask_count (λ i. cond (eqb (i / max_wires) b) (lane_of (mask_row masks b) (i % max_wires)) (get_or masks i 0)) masks long
      (λ i _.
      cond_has (λ x. get_or masks i 0 ≡ x) (eqb (i / max_wires) b)
      (λ t.
      let d = eqb→eq (i / max_wires) b t in
      let e : i ≡ mask_place b (i % max_wires) = omega arith in
      let l : i % max_wires < max_wires = omega arith in
      ap (λ k. get_or masks k 0) e ∙ sym (row_lane (i % max_wires) l))
      (λ _. refl)))

-- what is cut from one half of a word is cut from the word
low_cut : (lo hi y : ℕ) → lo < lane_space → y < lane_space → (lo - bit_and lo y) + hi * lane_space ≡ lo + hi * lane_space - bit_and (lo + hi * lane_space) y
low_cut lo hi y ll ly =
    let a : bit_and (hi * lane_space + lo) (0 * lane_space + y) ≡ bit_and hi 0 * lane_space + bit_and lo y = and_block narrow_patterns hi 0 lo y ll ly in
    let x : lo + hi * lane_space ≡ hi * lane_space + lo = omega arith in
    let z : y ≡ 0 * lane_space + y = omega arith in
    let b : bit_and (lo + hi * lane_space) y ≡ bit_and (hi * lane_space + lo) (0 * lane_space + y) = ap₂ bit_and x z in
    omega (arith, a, b, and_zero_r hi, and_le_l lo y)

high_cut : (lo hi y : ℕ) → lo < lane_space → lo + (hi - bit_and hi y) * lane_space ≡ lo + hi * lane_space - bit_and (lo + hi * lane_space) (y * lane_space)
high_cut lo hi y ll =
    let a : bit_and (hi * lane_space + lo) (y * lane_space + 0) ≡ bit_and hi y * lane_space + bit_and lo 0 = and_block narrow_patterns hi y lo 0 ll (omega arith) in
    let x : lo + hi * lane_space ≡ hi * lane_space + lo = omega arith in
    let z : y * lane_space ≡ y * lane_space + 0 = omega arith in
    let b : bit_and (lo + hi * lane_space) (y * lane_space) ≡ bit_and (hi * lane_space + lo) (y * lane_space + 0) = ap₂ bit_and x z in
    omega (arith, a, b, and_zero_r lo, and_le_l hi y)

-- what a set loses, and that it stands within a half
pub lost_le : (w j : ℕ) → lost_of w j ≤ both_sides
unfolding lost_of
lost_le w j = omega (arith, is_one_lt_two (not (occurs max_wires (member w) j 1)), is_one_lt_two (not (occurs max_wires (member w) j 0)))

pub lost_half : (l r : ℕ) → l ≤ both_sides → r < row_patterns → l * 2 ^ seat r < lane_space
unfolding seat
lost_half l r ll lr =
    let a : l * 2 ^ seat r ≤ both_sides * 2 ^ seat r = mul-le-mul_right (2 ^ seat r) ll in
    let s : seat r ≤ 11 = omega arith in
    let b : 2 ^ seat r ≤ 2 ^ 11 = pow_mono {i = seat r} {j = 11} s in
    omega arith

-- the row of pattern p, cut
module _ (masks : List ℕ) (p w : ℕ) (lp : p < max_patterns) (small : Halved masks) where
  abbrev b : ℕ
  b = p / row_patterns

  abbrev cut : ℕ
  cut = cut_row (mask_row masks b) p w

  half_lt : (x j : ℕ) → x < lane_space → cut_half x p w j < lane_space
  half_lt x j l = omega arith

  cut_lane : (j : ℕ) → j < max_wires → lane_of cut j ≡ cut_half (get_or masks (mask_place b j) 0) p w j
  unfolding cut_row
  cut_lane j l =
      lane_lanes (λ i. cut_half (lane_of (mask_row masks b) i) p w i) (λ i _. half_lt (lane_of (mask_row masks b) i) i (lane_lt (mask_row masks b) i)) j l
      ∙ ap (λ x. cut_half x p w j) (row_lane masks b small j l)

  -- a word of the section is cut: the half that has the pattern, which is the lower or the upper one
  abbrev M : List ℕ
  M = with_lanes masks b cut

  low_seat : p % narrow_patterns < row_patterns → seat (p % narrow_patterns) ≡ seat (p % row_patterns)
  low_seat l = ap seat (omega arith)

  high_seat : row_patterns ≤ p % narrow_patterns → seat (p % narrow_patterns) ≡ seat (p % row_patterns) + narrow_patterns
  unfolding seat
  high_seat l = omega arith

  section_cut : (j : ℕ) → j < max_wires → word_from M (p / narrow_patterns) j ≡ cut_pair (word_from masks (p / narrow_patterns) j) (p % narrow_patterns) w j
  unfolding word_from
  section_cut j lj =
      let q = p / narrow_patterns in
      let lo = get_or masks (mask_place (2 * q) j) 0 in
      let hi = get_or masks (mask_place (2 * q + 1) j) 0 in
      let r = p % row_patterns in
      let y = lost_of w j * 2 ^ seat r in
      let ly : y < lane_space = lost_half (lost_of w j) r (lost_le w j) (omega arith) in
      let x = lo + hi * lane_space in
      let lx : x < 2 ^ pair_bits = omega (arith, small (mask_place (2 * q) j), small (mask_place (2 * q + 1) j)) in
      ⊎_elim
      (λ t.
      let l = ltb→lt (p % narrow_patterns) row_patterns t in
      let eb : b ≡ 2 * q = omega arith in
      let ne : 2 * q + 1 ≡ b → ⊥ = λ d. absurd (omega arith) in
      let e0 : get_or M (mask_place (2 * q) j) 0 ≡ cut_half lo p w j =
      ap (λ a. get_or M (mask_place a j) 0) (sym eb) ∙ with_at masks b cut j (omega arith) lj ∙ cut_lane j lj ∙ ap (λ a. cut_half (get_or masks (mask_place a j) 0) p w j) eb in
      let e1 : get_or M (mask_place (2 * q + 1) j) 0 ≡ hi = with_other masks b cut (2 * q + 1) j (omega arith) lj ne in
      ap₂ (λ u v. u + v * lane_space) e0 e1 ∙ low_cut lo hi y (small (mask_place (2 * q) j)) ly
      ∙ cut_taken x (p % narrow_patterns) w j lx (omega arith) refl (sym (low_seat l)))
      (λ t.
      let l = nltb→le (p % narrow_patterns) row_patterns t in
      let eb : b ≡ 2 * q + 1 = omega arith in
      let ne : 2 * q ≡ b → ⊥ = λ d. absurd (omega arith) in
      let e0 : get_or M (mask_place (2 * q) j) 0 ≡ lo = with_other masks b cut (2 * q) j (omega arith) lj ne in
      let e1 : get_or M (mask_place (2 * q + 1) j) 0 ≡ cut_half hi p w j =
      ap (λ a. get_or M (mask_place a j) 0) (sym eb) ∙ with_at masks b cut j (omega arith) lj ∙ cut_lane j lj ∙ ap (λ a. cut_half (get_or masks (mask_place a j) 0) p w j) eb in
      let shifted : y * lane_space ≡ lost_of w j * 2 ^ (seat r + narrow_patterns) =
      mul_assoc (lost_of w j) (2 ^ seat r) lane_space ∙ ap (λ z. lost_of w j * z) (sym (pow-add 2 (seat r) narrow_patterns)) in
      ap₂ (λ u v. u + v * lane_space) e0 e1 ∙ high_cut lo hi y (small (mask_place (2 * q) j)) ∙ ap (λ z. x - bit_and x z) shifted
      ∙ cut_taken x (p % narrow_patterns) w j lx (omega arith) refl (sym (high_seat l)))
      (decide (ltb (p % narrow_patterns) row_patterns))

  section_kept : (q j : ℕ) → q < sections → j < max_wires → (q ≡ p / narrow_patterns → ⊥) → word_from M q j ≡ word_from masks q j
  unfolding word_from
  section_kept q j lq lj ne =
      let n0 : 2 * q ≡ b → ⊥ = λ d. ne (omega arith) in
      let n1 : 2 * q + 1 ≡ b → ⊥ = λ d. ne (omega arith) in
      ap₂ (λ u v. u + v * lane_space) (with_other masks b cut (2 * q) j (omega arith) lj n0) (with_other masks b cut (2 * q + 1) j (omega arith) lj n1)

  -- so the words are cut as a row of them
  pub row_cut : words_of M ≡ with_row (words_of masks) (p / narrow_patterns) (cut_pairs (row_of (words_of masks) (p / narrow_patterns)) (p % narrow_patterns) w)
  unfolding with_row cut_pairs row_of
  row_cut =
      let s = p / narrow_patterns in
      let ls : s < sections = omega arith in
      let row = row_of (words_of masks) s in
      words_are M (λ i. cond (eqb (i / max_wires) s) (get_or (cut_pairs row (p % narrow_patterns) w) (i % max_wires) 0) (get_or (words_of masks) i 0))
      (λ i l.
      let q = i / max_wires in
      let j = i % max_wires in
      let lq : q < sections = omega arith in
      let lj : j < max_wires = omega arith in
      let ei : i ≡ word_place q j = omega arith in
      cond_has (λ x. word_from M q j ≡ x) (eqb q s)
      (λ t.
      let e = eqb→eq q s t in
      ap (λ z. word_from M z j) e ∙ section_cut j lj
      ∙ sym (tabulate_at max_wires (λ k. cut_pair (get_or row k 0) (p % narrow_patterns) w k) j lj
      ∙ ap (λ z. cut_pair z (p % narrow_patterns) w j) (tabulate_at max_wires (λ k. get_or (words_of masks) (word_place s k) 0) j lj ∙ words_told masks s j ls lj)))
      (λ t.
      section_kept q j lq lj (λ e. T_not (eqb q s) t (eq_test e)) ∙ sym (ap (λ k. get_or (words_of masks) k 0) ei ∙ words_told masks q j lq lj)))
