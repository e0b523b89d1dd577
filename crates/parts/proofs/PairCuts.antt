-- How a split cuts a pair: the masks lose a pattern, and the number the pattern's bits.
use Prim.Native.Nat.{ℕ, suc, ◌+◌, ◌*◌, ◌-◌, ◌^◌, ◌/◌, ◌%◌, ◌<◌, ◌≤◌}
use mathlib.Core.Path.{◌≡◌, refl, sym, ap, ap₂, ◌∙◌}
use mathlib.Core.Bool.{Bool, true, false, cond, not}
use native.Mathlib.Omega.{arith}
use native.Mathlib.Nat.{mul-le-mul_right, add-mul, add-zero, mod-eq_of_lt, mod-lt, div-add-mod', div-div-eq-div-mul}
use lib.Bits.{bit_and, and_mask, and_zero_r, and_block}
use lib.Dec.{eqb}
use lib.Pow.{pow_mono, pow_pos, pow-add}
use Rattle.base.proofs.Tests.{cond_has, eqb_yes, eqb_not}
use Rattle.sheet.specs.Limits.{max_wires}
use Rattle.table.specs.Bits.{bit, sum, of_bits, is_one}
use Rattle.table.specs.Inner.Pairs.{narrow_patterns, block_patterns, upper_half, pair_bits, seat, zeros_in, ones_in, paired}
use Rattle.table.proofs.Pairs.{ones_at_lem, zeros_at_lem, ones_lt, zeros_lt}
use Rattle.table.proofs.Bits.{sum_cong, sum_but_one, bit_lt, bit_of_bits, of_bits_lt, of_bits_bit}
use Rattle.table.proofs.BitColumns.{is_one_lt_two}
use Rattle.relation.specs.Tests.{occurs}
use Rattle.relation.specs.Inner.Members.{member}
use Rattle.relation.specs.Inner.Masks.{cut}
use Rattle.parts.specs.Inner.Pairs.{both_sides, lost_of, cut_pair}
use Rattle.parts.proofs.PairBits.{paired_back}

-- a mask of k patterns without one of them, bit by bit
module _ (k x p : ℕ) (d : Bool) (lx : x < 2 ^ k) (lp : p < k) where
  pub left : ℕ → ℕ
  left q = cond (eqb q p) (bit x q * is_one d) (bit x q)

  pub left_lt : (q : ℕ) → left q < 2
  unfolding left is_one
  left_lt q =
      cond_has (λ y. y < 2) (eqb q p) (λ _. small d) (λ _. bit_lt x q)
    where
      small : (e : Bool) → bit x q * is_one e < 2
      small true = omega (arith, bit_lt x q)
      small false = omega arith

  pub left_at : left p ≡ bit x p * is_one d
  unfolding left
  left_at = eqb_yes p p (bit x p * is_one d) (bit x p) refl

  pub left_off : (q : ℕ) → (q ≡ p → ⊥) → left q ≡ bit x q
  unfolding left
  left_off q ne = eqb_not q p (bit x q * is_one d) (bit x q) ne

  cut_left : cut x p d ≡ of_bits k left
  unfolding of_bits cut is_one
  cut_left =
      go d left_at (sum_but_one (λ q. left q * 2 ^ q) (λ q. bit x q * 2 ^ q) k p lp (λ q ne. ap (λ y. y * 2 ^ q) (left_off q ne)))
    where
      go : (e : Bool) → left p ≡ bit x p * is_one e
          → sum k (λ q. left q * 2 ^ q) + bit x p * 2 ^ p ≡ sum k (λ q. bit x q * 2 ^ q) + left p * 2 ^ p
          → cut x p e ≡ sum k (λ q. left q * 2 ^ q)
      go true a s = let w : left p * 2 ^ p ≡ bit x p * 2 ^ p = ap (λ y. y * 2 ^ p) (a ∙ omega arith) in omega (arith, of_bits_bit k x lx)
      go false a s = let w : left p * 2 ^ p ≡ 0 * 2 ^ p = ap (λ y. y * 2 ^ p) (a ∙ omega arith) in omega (arith, of_bits_bit k x lx)

  pub cut_lt : cut x p d < 2 ^ k
  cut_lt = rw cut_left (of_bits_lt left k (λ i _. left_lt i))

  pub cut_bit : (q : ℕ) → q < k → bit (cut x p d) q ≡ left q
  cut_bit q l = ap (λ y. bit y q) cut_left ∙ bit_of_bits left k (λ i _. left_lt i) q l

-- what is seat-shifted to a seat stays within the number
pub seat_shifted : (x s : ℕ) → x ≤ both_sides → s + block_patterns < pair_bits → x * 2 ^ s % 2 ^ pair_bits ≡ x * 2 ^ s
seat_shifted x s lx ls =
    let a : x * 2 ^ s ≤ both_sides * 2 ^ s = mul-le-mul_right (2 ^ s) lx in
    let b : 2 ^ s ≤ 2 ^ (pair_bits - suc block_patterns) = pow_mono {i = s} {j = pair_bits - suc block_patterns} (omega arith) in
    mod-eq_of_lt (omega arith)

-- the bits at a seat that are lost
and_bit_lem : (x : ℕ) (t : Bool) → bit_and x (is_one t) ≡ x % 2 * is_one t
unfolding is_one
and_bit_lem x true = and_mask x 1 ∙ omega arith
and_bit_lem x false = and_zero_r x ∙ omega arith

and_two : (v : ℕ) (t u : Bool) → bit_and v (is_one t + upper_half * is_one u) ≡ v % 2 * is_one t + upper_half * (v / upper_half % 2 * is_one u)
and_two v t u =
    let lt : is_one t < upper_half = omega (arith, is_one_lt_two t) in
    let ev : v / upper_half * upper_half + v % upper_half ≡ v = omega arith in
    let el : is_one u * upper_half + is_one t ≡ is_one t + upper_half * is_one u = omega arith in
    let low : v % upper_half % 2 ≡ v % 2 = omega arith in
    ap₂ bit_and (sym ev) (sym el) ∙ and_block block_patterns (v / upper_half) (is_one u) (v % upper_half) (is_one t) (omega arith) lt
    ∙ ap₂ (λ x y. x * upper_half + y) (and_bit_lem (v / upper_half) u) (and_bit_lem (v % upper_half) t ∙ ap (λ x. x * is_one t) low) ∙ omega arith

and_lost : (x s w j : ℕ) {l : ℕ} → l ≡ lost_of w j
    → bit_and x (l * 2 ^ s)
    ≡ (bit x s * is_one (not (occurs max_wires (member w) j 1)) + upper_half * (bit x (s + block_patterns) * is_one (not (occurs max_wires (member w) j 0)))) * 2 ^ s
unfolding lost_of bit
and_lost x s w j {l} e =
    let t = not (occurs max_wires (member w) j 1) in
    let u = not (occurs max_wires (member w) j 0) in
    let v = x / 2 ^ s in
    let k = is_one t + upper_half * is_one u in
    let high : x / 2 ^ (s + block_patterns) ≡ v / upper_half = ap (λ y. x / y) (pow-add 2 s block_patterns) ∙ sym (div-div-eq-div-mul x (2 ^ s) upper_half) in
    ap₂ bit_and (sym (div-add-mod' x (2 ^ s)))
    (ap (λ y. y * 2 ^ s) e ∙ sym (add-zero (k * 2 ^ s)))
    ∙ and_block s v k (x % 2 ^ s) 0 (mod-lt x (pow_pos s)) (pow_pos s)
    ∙ ap₂ (λ y z. y * 2 ^ s + z) (and_two v t u) (and_zero_r (x % 2 ^ s))
    ∙ add-zero ((v % 2 * is_one t + upper_half * (v / upper_half % 2 * is_one u)) * 2 ^ s)
    ∙ ap (λ y. (v % 2 * is_one t + upper_half * (y % 2 * is_one u)) * 2 ^ s) (sym high)

-- a split cuts two bits of a pair at most
parted : (y : ℕ) (d : Bool) → y ≡ y * is_one d + y * is_one (not d)
unfolding is_one
parted y true = omega arith
parted y false = omega arith

module _ (zeros ones p : ℕ) (d₀ d₁ : Bool) (lz : zeros < 2 ^ narrow_patterns) (lo : ones < 2 ^ narrow_patterns) (lp : p < narrow_patterns) where
  after : ℕ → ℕ
  after q = (left narrow_patterns ones p d₁ lo lp q + upper_half * left narrow_patterns zeros p d₀ lz lp q) * 2 ^ seat q

  before : ℕ → ℕ
  before q = (bit ones q + upper_half * bit zeros q) * 2 ^ seat q

  after_off : (q : ℕ) → (q ≡ p → ⊥) → after q ≡ before q
  unfolding after before
  after_off q ne = ap₂ (λ x y. (x + upper_half * y) * 2 ^ seat q) (left_off narrow_patterns ones p d₁ lo lp q ne) (left_off narrow_patterns zeros p d₀ lz lp q ne)

  after_sum : paired (cut zeros p d₀) (cut ones p d₁) ≡ sum narrow_patterns after
  unfolding paired after
  after_sum =
      sum_cong narrow_patterns (λ q. (bit (cut ones p d₁) q + upper_half * bit (cut zeros p d₀) q) * 2 ^ seat q)
      (λ q. (left narrow_patterns ones p d₁ lo lp q + upper_half * left narrow_patterns zeros p d₀ lz lp q) * 2 ^ seat q)
      (λ q l. ap₂ (λ x y. (x + upper_half * y) * 2 ^ seat q) (cut_bit narrow_patterns ones p d₁ lo lp q l) (cut_bit narrow_patterns zeros p d₀ lz lp q l))

  paired_cut : paired (cut zeros p d₀) (cut ones p d₁)
      ≡ paired zeros ones - (bit ones p * is_one (not d₁) + upper_half * (bit zeros p * is_one (not d₀))) * 2 ^ seat p
  unfolding paired after before
  paired_cut =
      let k = 2 ^ seat p in
      let a = bit ones p * is_one d₁ + upper_half * (bit zeros p * is_one d₀) in
      let b = bit ones p * is_one (not d₁) + upper_half * (bit zeros p * is_one (not d₀)) in
      let s : bit ones p + upper_half * bit zeros p ≡ a + b = omega (arith, parted (bit ones p) d₁, parted (bit zeros p) d₀) in
      let was : before p ≡ a * k + b * k = ap (λ z. z * k) s ∙ add-mul a b k in
      let is : after p ≡ a * k = ap₂ (λ x y. (x + upper_half * y) * k) (left_at narrow_patterns ones p d₁ lo lp) (left_at narrow_patterns zeros p d₀ lz lp) in
      let t : sum narrow_patterns after + before p ≡ sum narrow_patterns before + after p = sum_but_one after before narrow_patterns p lp after_off in
      let e : sum narrow_patterns after ≡ sum narrow_patterns before - b * k = omega arith in
      after_sum ∙ e

-- what the code takes off is what the masks lose
pub cut_taken : (x p w j : ℕ) {l s : ℕ} → x < 2 ^ pair_bits → p < narrow_patterns → l ≡ lost_of w j → s ≡ seat p
    → x - bit_and x (l * 2 ^ s) ≡ cut_pair x p w j
unfolding cut_pair
cut_taken x p w j {l} {s} lx lp el es =
    let t = not (occurs max_wires (member w) j 1) in
    let u = not (occurs max_wires (member w) j 0) in
    ap (λ y. x - y)
    (ap (λ i. bit_and x (l * 2 ^ i)) es ∙ and_lost x (seat p) w j el
    ∙ ap₂ (λ y z. (y * is_one t + upper_half * (z * is_one u)) * 2 ^ seat p) (sym (ones_at_lem x p lp)) (sym (zeros_at_lem x p lp)))
    ∙ ap (λ y. y - (bit (ones_in x) p * is_one t + upper_half * (bit (zeros_in x) p * is_one u)) * 2 ^ seat p) (sym (paired_back x lx))
    ∙ sym (paired_cut (zeros_in x) (ones_in x) p (occurs max_wires (member w) j 0) (occurs max_wires (member w) j 1) (zeros_lt x) (ones_lt x) lp)
