-- The masks that words tell: of the words of a part they are those of the projections.
use Prim.Native.Nat.{ℕ, ◌+◌, ◌*◌, ◌-◌, ◌/◌, ◌%◌, ◌^◌, ◌<◌, ◌≤◌}
use mathlib.Core.Path.{◌≡◌, sym, ap, ap₂, ◌∙◌}
use mathlib.Core.Logic.{⊎_elim}
use mathlib.Core.Bool.{cond}
use mathlib.Core.List.{List}
use native.Mathlib.Omega.{arith}
use native.Mathlib.Nat.{lt_of_lt_of_le}
use lib.Arith.{digits_div, digits_mod}
use lib.Dec.{eqb, ltb, ltb→lt, nltb→le}
use lib.ListN.{get_or}
use lib.Pow.{pow_mono}
use Rattle.base.proofs.Tests.{decide, eqb_yes}
use Rattle.sheet.specs.Limits.{max_wires, max_patterns}
use Rattle.nodes.specs.declared.BoardKind.{BoardKind}
use Rattle.nodes.specs.Counts.{count_of}
use Rattle.table.specs.Bits.{bit, of_bits}
use Rattle.table.specs.Inner.Ranks.{pick_of, narrow_space}
use Rattle.table.specs.Inner.Pairs.{narrow_inputs, narrow_patterns, zeros_in, ones_in}
use Rattle.table.specs.Inner.Wide.{sections, five_space, two_masks, four_masks}
use Rattle.table.proofs.Bits.{bit_lt, bit_mod, bit_div, bit_ext, sum_cong, bit_of_bits, of_bits_lt, of_bits_bit, tabulate_at}
use Rattle.table.proofs.Pairs.{zeros_lt, ones_lt}
use Rattle.table.proofs.SideBySide.{two_lt}
use Rattle.relation.specs.Inner.Side.{section}
use Rattle.relation.specs.Inner.Masks.{mask_of}
use Rattle.relation.proofs.Masks.{found_lt}
use Rattle.relation.proofs.Side.{section_lt, section_bit}
use Rattle.parts.specs.Inner.Words.{word_count, word_place, word_of, pairs_of, words_for, word_at, zeros_of, ones_of}
use Rattle.parts.specs.Inner.Picks.{pick_between, table_of}
use Rattle.parts.proofs.PairBits.{paired_zeros, paired_ones}
use Rattle.parts.proofs.WordSums.{place_section, place_wire, place_lt, pattern_section}

pub mask_small : (sets : List ℕ) (j b : ℕ) → mask_of sets j b < 2 ^ max_patterns
unfolding mask_of
mask_small sets j b = found_lt sets j b max_patterns

-- the masks of a word are the sections of the projection's
module _ (sets : List ℕ) (q j : ℕ) where
  pub word_zeros : zeros_in (word_of sets q j) ≡ section (mask_of sets j 0) q
  unfolding word_of
  word_zeros = paired_zeros (section (mask_of sets j 0) q) (section (mask_of sets j 1) q) (section_lt (mask_of sets j 0) q)

  pub word_ones : ones_in (word_of sets q j) ≡ section (mask_of sets j 1) q
  unfolding word_of
  word_ones = paired_ones (section (mask_of sets j 0) q) (section (mask_of sets j 1) q) (section_lt (mask_of sets j 1) q)

-- a mask by its sections
by_sections : (x : ℕ) (f : ℕ → ℕ) → x < 2 ^ max_patterns → ((p : ℕ) → p < max_patterns → f p ≡ bit (section x (p / narrow_patterns)) (p % narrow_patterns))
    → of_bits max_patterns f ≡ x
unfolding of_bits
by_sections x f l h =
    sum_cong max_patterns (λ p. f p * 2 ^ p) (λ p. bit x p * 2 ^ p)
    (λ p lp.
    let e : narrow_patterns * (p / narrow_patterns) + p % narrow_patterns ≡ p = omega arith in
    ap (λ y. y * 2 ^ p) (h p lp ∙ section_bit x (p / narrow_patterns) (p % narrow_patterns) (omega arith) ∙ ap (bit x) e))
    ∙ of_bits_bit max_patterns x l

-- words that are a part's at wire j tell the masks of its projection
abbrev pub Tells : List ℕ → List ℕ → ℕ → Type 0
Tells words sets j = (q : ℕ) → q < sections → get_or words (word_place q j) 0 ≡ word_of sets q j

module _ (words sets : List ℕ) (j : ℕ) (told : Tells words sets j) where
  pub zeros_told : zeros_of words j ≡ mask_of sets j 0
  unfolding zeros_of
  zeros_told =
      by_sections (mask_of sets j 0) (λ p. bit (zeros_in (word_at words p j)) (p % narrow_patterns)) (mask_small sets j 0)
      (λ p l. ap (λ x. bit x (p % narrow_patterns)) (ap zeros_in (told (p / narrow_patterns) (pattern_section p l)) ∙ word_zeros sets (p / narrow_patterns) j))

  pub ones_told : ones_of words j ≡ mask_of sets j 1
  unfolding ones_of
  ones_told =
      by_sections (mask_of sets j 1) (λ p. bit (ones_in (word_at words p j)) (p % narrow_patterns)) (mask_small sets j 1)
      (λ p l. ap (λ x. bit x (p % narrow_patterns)) (ap ones_in (told (p / narrow_patterns) (pattern_section p l)) ∙ word_ones sets (p / narrow_patterns) j))

  -- so the pick between them is the pick of the wire
  pub pick_told : (kind : BoardKind) (n : ℕ) → pick_between kind n words j ≡ table_of kind n sets j
  unfolding pick_between table_of
  pick_told kind n = ap₂ (pick_of (count_of kind n) n) zeros_told ones_told

pub pairs_word : (sets : List ℕ) (i : ℕ) → i < word_count → get_or (pairs_of sets) i 0 ≡ word_of sets (i / max_wires) (i % max_wires)
unfolding pairs_of
pairs_word sets i l = tabulate_at word_count (λ i. word_of sets (i / max_wires) (i % max_wires)) i l

pub pairs_tell : (sets : List ℕ) (j : ℕ) → j < max_wires → Tells (pairs_of sets) sets j
pairs_tell sets j lj q lq = pairs_word sets (word_place q j) (place_lt q j lq lj) ∙ ap₂ (word_of sets) (place_section q j lj) (place_wire q j lj)

pub alone_tells : (sets : List ℕ) (j : ℕ) → j < max_wires → Tells (words_for sets j) sets j
unfolding words_for
alone_tells sets j lj q lq =
    let i = word_place q j in
    tabulate_at word_count (λ i. cond (eqb (i % max_wires) j) (word_of sets (i / max_wires) j) 0) i (place_lt q j lq lj)
    ∙ eqb_yes (i % max_wires) j (word_of sets (i / max_wires) j) 0 (place_wire q j lj) ∙ ap (λ s. word_of sets s j) (place_section q j lj)

-- the bits of the masks that words tell, and their size
module _ (words : List ℕ) (j : ℕ) where
  zeros_bit : (p : ℕ) → p < max_patterns → bit (zeros_of words j) p ≡ bit (zeros_in (word_at words p j)) (p % narrow_patterns)
  unfolding zeros_of
  zeros_bit p l =
      bit_of_bits (λ p. bit (zeros_in (word_at words p j)) (p % narrow_patterns)) max_patterns (λ i _. bit_lt (zeros_in (word_at words i j)) (i % narrow_patterns)) p l

  ones_bit : (p : ℕ) → p < max_patterns → bit (ones_of words j) p ≡ bit (ones_in (word_at words p j)) (p % narrow_patterns)
  unfolding ones_of
  ones_bit p l =
      bit_of_bits (λ p. bit (ones_in (word_at words p j)) (p % narrow_patterns)) max_patterns (λ i _. bit_lt (ones_in (word_at words i j)) (i % narrow_patterns)) p l

  zeros_small : zeros_of words j < 2 ^ max_patterns
  unfolding zeros_of
  zeros_small = of_bits_lt (λ p. bit (zeros_in (word_at words p j)) (p % narrow_patterns)) max_patterns (λ i _. bit_lt (zeros_in (word_at words i j)) (i % narrow_patterns))

  ones_small : ones_of words j < 2 ^ max_patterns
  unfolding ones_of
  ones_small = of_bits_lt (λ p. bit (ones_in (word_at words p j)) (p % narrow_patterns)) max_patterns (λ i _. bit_lt (ones_in (word_at words i j)) (i % narrow_patterns))

-- a mask of so few inputs that it stands in one word is that word's
one_word : (n x y : ℕ) → n ≤ narrow_inputs → x < 2 ^ max_patterns → x < 2 ^ (2 ^ n) → y < narrow_space
    → ((p : ℕ) → p < narrow_patterns → bit x p ≡ bit y p) → x ≡ y
one_word n x y h l few ly e =
    let s : x < narrow_space = lt_of_lt_of_le few (pow_mono {i = 2 ^ n} {j = narrow_patterns} (pow_mono {i = n} {j = narrow_inputs} h)) in
    bit_ext narrow_patterns x y s ly e

-- a mask of four words, bit by bit
below_bit : (k lo hi p : ℕ) → lo < 2 ^ k → p < k → bit (hi * 2 ^ k + lo) p ≡ bit lo p
below_bit k lo hi p l h = sym (bit_mod (hi * 2 ^ k + lo) {j = p} {k = k} h) ∙ ap (λ x. bit x p) (digits_mod hi l)

above_bit : (k lo hi p : ℕ) → lo < 2 ^ k → k ≤ p → bit (hi * 2 ^ k + lo) p ≡ bit hi (p - k)
above_bit k lo hi p l h =
    let e : k + (p - k) ≡ p = omega arith in
    ap (bit (hi * 2 ^ k + lo)) (sym e) ∙ sym (bit_div (hi * 2 ^ k + lo) k (p - k)) ∙ ap (λ x. bit x (p - k)) (digits_div hi l)

two_bit : (a b p : ℕ) → a < narrow_space → ((p < narrow_patterns → bit (two_masks a b) p ≡ bit a p)) × (narrow_patterns ≤ p → bit (two_masks a b) p ≡ bit b (p - narrow_patterns))
unfolding two_masks
two_bit a b p la = (λ l. below_bit narrow_patterns a b p la l, λ l. above_bit narrow_patterns a b p la l)

-- the patterns of two words
abbrev two_words : ℕ
two_words = 2 * narrow_patterns

four_words : (x a b c d : ℕ) (f : ℕ → ℕ) → x < 2 ^ max_patterns → a < narrow_space → b < narrow_space → c < narrow_space → d < narrow_space
    → ((p : ℕ) → p < max_patterns → bit x p ≡ bit (f (p / narrow_patterns)) (p % narrow_patterns)) → f 0 ≡ a → f 1 ≡ b → f 2 ≡ c → f 3 ≡ d → four_masks a b c d ≡ x
unfolding four_masks
four_words x a b c d f lx la lb lc ld h ea eb ec ed =
    bit_ext max_patterns (two_masks c d * five_space + two_masks a b) x (omega (arith, lower, upper)) lx
    (λ p l. ⊎_elim (λ t. low p (ltb→lt p two_words t)) (λ t. high p (nltb→le p two_words t) l) (decide (ltb p two_words)))
  where
    lower : two_masks a b < five_space
    lower = two_lt a b la lb

    upper : two_masks c d < five_space
    upper = two_lt c d lc ld

    at : (p q : ℕ) {y : ℕ} → p < max_patterns → p / narrow_patterns ≡ q → f q ≡ y → bit x p ≡ bit y (p % narrow_patterns)
    at p q l e ey = h p l ∙ ap (λ z. bit z (p % narrow_patterns)) (ap f e ∙ ey)

    low : (p : ℕ) → p < two_words → bit (two_masks c d * five_space + two_masks a b) p ≡ bit x p
    low p l =
        below_bit two_words (two_masks a b) (two_masks c d) p lower l
        ∙ ⊎_elim
        (λ t.
        let g = ltb→lt p narrow_patterns t in
        let r : p ≡ p % narrow_patterns = omega arith in
        (two_bit a b p la).0 g ∙ ap (bit a) r ∙ sym (at p 0 (omega arith) (omega arith) ea))
        (λ t.
        let g = nltb→le p narrow_patterns t in
        let r : p - narrow_patterns ≡ p % narrow_patterns = omega arith in
        (two_bit a b p la).1 g ∙ ap (bit b) r ∙ sym (at p 1 (omega arith) (omega arith) eb))
        (decide (ltb p narrow_patterns))

    high : (p : ℕ) → two_words ≤ p → p < max_patterns → bit (two_masks c d * five_space + two_masks a b) p ≡ bit x p
    high p l lp =
        above_bit two_words (two_masks a b) (two_masks c d) p lower l
        ∙ ⊎_elim
        (λ t.
        let g = ltb→lt p (3 * narrow_patterns) t in
        let r : p - two_words ≡ p % narrow_patterns = omega arith in
        (two_bit c d (p - two_words) lc).0 (omega arith) ∙ ap (bit c) r ∙ sym (at p 2 lp (omega arith) ec))
        (λ t.
        let g = nltb→le p (3 * narrow_patterns) t in
        let r : p - two_words - narrow_patterns ≡ p % narrow_patterns = omega arith in
        (two_bit c d (p - two_words) lc).1 (omega arith) ∙ ap (bit d) r ∙ sym (at p 3 lp (omega arith) ed))
        (decide (ltb p (3 * narrow_patterns)))

-- the masks of wire j in its first word alone, and in its four words
module _ (words : List ℕ) (j : ℕ) where
  first_at : (p : ℕ) → p < narrow_patterns → word_at words p j ≡ get_or words (word_place 0 j) 0
  first_at p l = let e : p / narrow_patterns ≡ 0 = omega arith in ap (λ q. get_or words (word_place q j) 0) e

  pub narrow_zeros : (n : ℕ) → n ≤ narrow_inputs → zeros_of words j < 2 ^ (2 ^ n) → zeros_of words j ≡ zeros_in (get_or words (word_place 0 j) 0)
  narrow_zeros n h l =
      one_word n (zeros_of words j) (zeros_in (get_or words (word_place 0 j) 0)) h (zeros_small words j) l (zeros_lt (get_or words (word_place 0 j) 0))
      (λ p lp.
      let e : p % narrow_patterns ≡ p = omega arith in
      zeros_bit words j p (omega arith) ∙ ap₂ (λ x r. bit (zeros_in x) r) (first_at p lp) e)

  pub narrow_ones : (n : ℕ) → n ≤ narrow_inputs → ones_of words j < 2 ^ (2 ^ n) → ones_of words j ≡ ones_in (get_or words (word_place 0 j) 0)
  narrow_ones n h l =
      one_word n (ones_of words j) (ones_in (get_or words (word_place 0 j) 0)) h (ones_small words j) l (ones_lt (get_or words (word_place 0 j) 0))
      (λ p lp.
      let e : p % narrow_patterns ≡ p = omega arith in
      ones_bit words j p (omega arith) ∙ ap₂ (λ x r. bit (ones_in x) r) (first_at p lp) e)

  module _ {a b c d : ℕ} (ea : a ≡ get_or words (word_place 0 j) 0) (eb : b ≡ get_or words (word_place 1 j) 0) (ec : c ≡ get_or words (word_place 2 j) 0)
      (ed : d ≡ get_or words (word_place 3 j) 0) where
    pub wide_zeros : four_masks (zeros_in a) (zeros_in b) (zeros_in c) (zeros_in d) ≡ zeros_of words j
    wide_zeros =
        four_words (zeros_of words j) (zeros_in a) (zeros_in b) (zeros_in c) (zeros_in d) (λ q. zeros_in (get_or words (word_place q j) 0)) (zeros_small words j)
        (zeros_lt a) (zeros_lt b) (zeros_lt c) (zeros_lt d) (zeros_bit words j) (ap zeros_in (sym ea)) (ap zeros_in (sym eb)) (ap zeros_in (sym ec)) (ap zeros_in (sym ed))

    pub wide_ones : four_masks (ones_in a) (ones_in b) (ones_in c) (ones_in d) ≡ ones_of words j
    wide_ones =
        four_words (ones_of words j) (ones_in a) (ones_in b) (ones_in c) (ones_in d) (λ q. ones_in (get_or words (word_place q j) 0)) (ones_small words j)
        (ones_lt a) (ones_lt b) (ones_lt c) (ones_lt d) (ones_bit words j) (ap ones_in (sym ea)) (ap ones_in (sym eb)) (ap ones_in (sym ec)) (ap ones_in (sym ed))
