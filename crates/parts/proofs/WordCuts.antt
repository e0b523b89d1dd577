-- How a split cuts the words: the pattern's bits go from one word of each wire, and from no other.
use Prim.Native.Nat.{ℕ, ◌+◌, ◌*◌, ◌/◌, ◌%◌, ◌^◌, ◌<◌}
use mathlib.Core.Path.{◌≡◌, sym, ap, ap₂, ◌∙◌}
use mathlib.Core.Logic.{⊎_elim}
use mathlib.Core.Bool.{Bool}
use mathlib.Core.List.{List}
use native.Mathlib.Omega.{arith}
use lib.Dec.{T_not, eqb, eqb→eq}
use lib.ListN.{length, get_or}
use Rattle.base.proofs.Tests.{decide, eq_test}
use Rattle.sheet.specs.Limits.{max_wires, max_patterns, max_values}
use Rattle.table.specs.Bits.{bit, is_one}
use Rattle.table.specs.Inner.Pairs.{narrow_patterns, paired}
use Rattle.table.proofs.Bits.{bit_ext}
use Rattle.relation.specs.Tests.{occurs}
use Rattle.relation.specs.Inner.Members.{member, with_bit}
use Rattle.relation.specs.Inner.Narrowed.{narrowed}
use Rattle.relation.specs.Inner.Side.{section}
use Rattle.relation.specs.Inner.Masks.{mask_of, cut}
use Rattle.relation.proofs.Masks.{mask_narrowed}
use Rattle.relation.proofs.Side.{section_lt, section_bit}
use Rattle.parts.specs.Inner.Pairs.{cut_pair}
use Rattle.table.specs.Inner.Wide.{sections}
use Rattle.parts.specs.Inner.Words.{word_of}
use Rattle.parts.proofs.PairCuts.{left, left_at, left_off, cut_bit, cut_lt}
use Rattle.parts.proofs.WordSums.{pattern_section}
use Rattle.parts.proofs.WordMasks.{mask_small, word_zeros, word_ones}

-- the sections of a mask that lost a pattern
module _ (x p : ℕ) (d : Bool) (lx : x < 2 ^ max_patterns) (lp : p < max_patterns) where
  bit_there : (q r : ℕ) → q < sections → r < narrow_patterns → bit (section (cut x p d) q) r ≡ left max_patterns x p d lx lp (narrow_patterns * q + r)
  bit_there q r lq lr = section_bit (cut x p d) q r lr ∙ cut_bit max_patterns x p d lx lp (narrow_patterns * q + r) (omega arith)

  abbrev inner : ℕ
  inner = p % narrow_patterns

  pub section_cut : section (cut x p d) (p / narrow_patterns) ≡ cut (section x (p / narrow_patterns)) (p % narrow_patterns) d
  section_cut =
      bit_ext narrow_patterns (section (cut x p d) q) (cut y inner d) (section_lt (cut x p d) q) (cut_lt narrow_patterns y inner d ly ls)
      (λ r lr. bit_there q r (pattern_section p lp) lr ∙ same r lr ∙ sym (cut_bit narrow_patterns y inner d ly ls r lr))
    where
      q : ℕ
      q = p / narrow_patterns

      y : ℕ
      y = section x q

      ly : y < 2 ^ narrow_patterns
      ly = section_lt x q

      ls : inner < narrow_patterns
      ls = omega arith

      back : narrow_patterns * q + inner ≡ p
      back = omega arith

      apart : (r : ℕ) → (r ≡ inner → ⊥) → narrow_patterns * q + r ≡ p → ⊥
      apart r ne e = ne (omega arith)

      same : (r : ℕ) → r < narrow_patterns → left max_patterns x p d lx lp (narrow_patterns * q + r) ≡ left narrow_patterns y inner d ly ls r
      same r lr =
          ⊎_elim
          (λ t.
          let e = eqb→eq r inner t in
          ap (λ i. left max_patterns x p d lx lp (narrow_patterns * q + i)) e ∙ ap (left max_patterns x p d lx lp) back ∙ left_at max_patterns x p d lx lp
          ∙ ap (λ b. b * is_one d) (ap (bit x) (sym back) ∙ sym (section_bit x q inner ls)) ∙ sym (left_at narrow_patterns y inner d ly ls)
          ∙ ap (left narrow_patterns y inner d ly ls) (sym e))
          (λ t.
          let ne : r ≡ inner → ⊥ = λ e. T_not (eqb r inner) t (eq_test e) in
          left_off max_patterns x p d lx lp (narrow_patterns * q + r) (apart r ne) ∙ sym (section_bit x q r lr) ∙ sym (left_off narrow_patterns y inner d ly ls r ne))
          (decide (eqb r inner))

  pub section_kept : (q : ℕ) → q < sections → (q ≡ p / narrow_patterns → ⊥) → section (cut x p d) q ≡ section x q
  section_kept q lq ne =
      bit_ext narrow_patterns (section (cut x p d) q) (section x q) (section_lt (cut x p d) q) (section_lt x q)
      (λ r lr. bit_there q r lq lr ∙ left_off max_patterns x p d lx lp (narrow_patterns * q + r) (apart ne r lr) ∙ sym (section_bit x q r lr))
    where
      apart : (q ≡ p / narrow_patterns → ⊥) → (r : ℕ) → r < narrow_patterns → narrow_patterns * q + r ≡ p → ⊥
      apart ne r lr e = ne (omega arith)

-- the words of a part once wire j is b on pattern p
module _ (sets : List ℕ) (p j b i : ℕ) (lp : p < max_patterns) (long : length sets ≡ max_patterns) (small : get_or sets p 0 < 2 ^ max_values) where
  abbrev held : ℕ
  held = with_bit (get_or sets p 0) j b

  abbrev there : ℕ → Bool
  there c = occurs max_wires (member held) i c

  pub word_cut : word_of (narrowed sets p j b) (p / narrow_patterns) i ≡ cut_pair (word_of sets (p / narrow_patterns) i) (p % narrow_patterns) held i
  unfolding word_of cut_pair
  word_cut =
      let q = p / narrow_patterns in
      let r = p % narrow_patterns in
      let side : (c : ℕ) → section (mask_of (narrowed sets p j b) i c) q ≡ cut (section (mask_of sets i c) q) r (there c) =
      λ c. ap (λ x. section x q) (mask_narrowed sets p j b i c lp long small) ∙ section_cut (mask_of sets i c) p (there c) (mask_small sets i c) lp in
      ap₂ paired (side 0 ∙ ap (λ x. cut x r (there 0)) (sym (word_zeros sets q i))) (side 1 ∙ ap (λ x. cut x r (there 1)) (sym (word_ones sets q i)))

  pub word_kept : (q : ℕ) → q < sections → (q ≡ p / narrow_patterns → ⊥) → word_of (narrowed sets p j b) q i ≡ word_of sets q i
  unfolding word_of
  word_kept q lq ne =
      let side : (c : ℕ) → section (mask_of (narrowed sets p j b) i c) q ≡ section (mask_of sets i c) q =
      λ c. ap (λ x. section x q) (mask_narrowed sets p j b i c lp long small) ∙ section_kept (mask_of sets i c) p (there c) (mask_small sets i c) lp q lq ne in
      ap₂ paired (side 0) (side 1)
