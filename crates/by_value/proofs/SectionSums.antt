-- Words are put together pattern by pattern, each section by itself: whatever a pattern puts into them, and wherever they stand.
use Prim.Native.Nat.{ℕ, suc, ◌+◌, ◌*◌, ◌-◌, ◌/◌, ◌%◌, ◌<◌, ◌≤◌, min}
use mathlib.Core.Path.{◌≡◌, sym, ap, ap₂, ◌∙◌}
use mathlib.Core.List.{List}
use native.Mathlib.Omega.{arith}
use lib.ListN.{get_or}
use Rattle.table.specs.Bits.{sum, tabulate}
use Rattle.table.specs.Inner.Pairs.{narrow_patterns}
use Rattle.table.proofs.Bits.{sum_le, tabulate_at, tabulate_cong}
use Rattle.table.proofs.Sums.{sum_grows}

-- what is below r leaves room for r itself, where there is room for the most of all
pub has_room : (n : ℕ) (g most : ℕ → ℕ) (space : ℕ) → ((i : ℕ) → g i ≤ most i) → sum n most < space → (r : ℕ) → r < n → sum r g + most r < space
unfolding sum
has_room n g most space small fit r l =
    let a = sum_le r g most (λ i _. small i) in
    let b : sum (suc r) most ≤ sum n most = sum_grows most (suc r) n (omega arith) in
    omega arith

-- the patterns below p that are in section q
abbrev pub within : ℕ → ℕ → ℕ
within p q = min narrow_patterns (p - narrow_patterns * q)

-- over what the set of a section's r-th pattern puts into word k
module _ (put : (set k r : ℕ) → ℕ) where
  -- what the r-th pattern of section q puts into word k, and the word of the patterns below p
  abbrev pub part : List ℕ → (q k r : ℕ) → ℕ
  part sets q k r = put (get_or sets (narrow_patterns * q + r) 0) k r

  unfoldable pub word_below : ℕ → List ℕ → (q k : ℕ) → ℕ
  word_below p sets q k = sum (within p q) (part sets q k)

  module _ (sets : List ℕ) (q k : ℕ) where
    pub below_none : (p : ℕ) → p ≤ narrow_patterns * q → word_below p sets q k ≡ 0
    unfolding word_below sum
    below_none p l = let e : within p q ≡ 0 = omega arith in ap (λ i. sum i (part sets q k)) e

    pub below_whole : (p : ℕ) → narrow_patterns * q + narrow_patterns ≤ p → word_below p sets q k ≡ sum narrow_patterns (part sets q k)
    unfolding word_below
    below_whole p l = let e : within p q ≡ narrow_patterns = omega arith in ap (λ i. sum i (part sets q k)) e

    -- one pattern more changes the words of its section alone
    pub below_other : (p : ℕ) → (q ≡ p / narrow_patterns → ⊥) → word_below p sets q k ≡ word_below (p + 1) sets q k
    unfolding word_below
    below_other p ne = ap (λ i. sum i (part sets q k)) (same ne)
      where
        same : (q ≡ p / narrow_patterns → ⊥) → within p q ≡ within (p + 1) q
        same ne = omega arith

  module _ (sets : List ℕ) (p k : ℕ) where
    pub below_more : word_below (p + 1) sets (p / narrow_patterns) k ≡ word_below p sets (p / narrow_patterns) k + put (get_or sets p 0) k (p % narrow_patterns)
    unfolding word_below sum
    below_more =
        let q = p / narrow_patterns in
        let r = p % narrow_patterns in
        let a : within p q ≡ r = omega arith in
        let b : within (p + 1) q ≡ suc r = omega arith in
        let e : narrow_patterns * q + r ≡ p = omega arith in
        ap (λ i. sum i (part sets q k)) b
        ∙ ap₂ (λ x y. x + y) (ap (λ i. sum i (part sets q k)) (sym a)) (ap (λ i. put (get_or sets i 0) k r) e)

    pub below_room : (most : ℕ → ℕ) (space : ℕ) → ((w r : ℕ) → put w k r ≤ most r) → sum narrow_patterns most < space
        → word_below p sets (p / narrow_patterns) k + most (p % narrow_patterns) < space
    unfolding word_below
    below_room most space small fit =
        let q = p / narrow_patterns in
        let r = p % narrow_patterns in
        let a : within p q ≡ r = omega arith in
        rw a (has_room narrow_patterns (part sets q k) most space (λ i. small (get_or sets (narrow_patterns * q + i) 0) i) fit r (omega arith))

  -- the words of all sections, so many of each, where word k of a section has the patterns below g k
  module _ (count each : ℕ) (sets : List ℕ) (g : ℕ → ℕ) where
    abbrev word_to : ℕ → ℕ
    word_to i = word_below (g (i % each)) sets (i / each) (i % each)

    abbrev pub words_to : List ℕ
    words_to = tabulate count word_to

    pub to_none : ((i : ℕ) → g i ≡ 0) → tabulate count (λ _. 0) ≡ words_to
    to_none none =
        tabulate_cong count (λ _. 0) word_to
        (λ i _. sym (ap (λ p. word_below p sets (i / each) (i % each)) (none (i % each)) ∙ below_none sets (i / each) (i % each) 0 (omega arith)))

    -- what stands at a place, by what the place says
    pub word_at_lem : {words : List ℕ} → words ≡ words_to → (i q k : ℕ) → i < count → i / each ≡ q → i % each ≡ k → get_or words i 0 ≡ word_below (g k) sets q k
    word_at_lem e i q k l a b = ap (λ x. get_or x i 0) e ∙ tabulate_at count word_to i l ∙ ap₂ (λ x y. word_below (g x) sets y x) b a
