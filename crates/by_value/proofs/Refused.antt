-- The lowest pattern whose bit is 0, by the zeros below the lowest bit of the contrary number.
use Prim.Native.Nat.{ℕ, zero, suc, ◌+◌, ◌-◌, ◌/◌, ◌%◌, ◌<◌, ◌≤◌}
use mathlib.Core.Path.{◌≡◌, refl, sym, ap, ◌∙◌}
use mathlib.Core.Logic.{⊎_elim}
use mathlib.Core.Bool.{Bool, not}
use native.Mathlib.Omega.{arith}
use native.Mathlib.Nat.{not-suc-le-zero, le_of_suc-le-suc}
use lib.Bits.{bit_xor, xor_add_and, and_le_l, and_le_r}
use lib.Count.{count_trailing_zeros, under}
use lib.Dec.{T, T_not, not_T, eqb, eqb→eq, ltb, ltb→lt, nltb→le}
use lib.Pow.{ones_lt}
use Rattle.base.proofs.Tests.{decide, eq_test}
use Rattle.std.specs.Prelude.{Some, None}
use borrow.Author.Tests.{lt-ltb}
use Rattle.base.specs.Lowest.{lowest}
use Rattle.base.proofs.Lowest.{lowest_at, lowest_or, lowest_is, first_none, some_lowest}
use Rattle.table.specs.Bits.{bit}
use Rattle.table.specs.Inner.Pairs.{narrow_patterns}
use Rattle.table.specs.Inner.Ranks.{narrow_space}
use Rattle.table.proofs.Bits.{bit_lt, bit_div, bit_xor_lem, bit_ext, bit_cases, ones_bit}
use Rattle.by_value.specs.Inner.ByValue.{word_width, first_refused}

half_bit : (n q : ℕ) → bit (n / 2) q ≡ bit n (suc q)
half_bit n q = let e : 1 + q ≡ suc q = omega arith in bit_div n 1 q ∙ ap (bit n) e

-- an even number whose half has no bit below z has none below the next
zero_front : (n z : ℕ) → n % 2 ≡ 0 → ((i : ℕ) → i < z → bit (n / 2) i ≡ 0) → (q : ℕ) → q < suc z → bit n q ≡ 0
unfolding bit
zero_front n z e halves zero l = omega (arith, e)
zero_front n z e halves (suc q) l = sym (half_bit n q) ∙ halves q (le_of_suc-le-suc l)

odd_bit : (n r : ℕ) → suc r ≡ n % 2 → bit n 0 ≡ 1
unfolding bit
odd_bit n r e = omega (arith, e)

-- no bit is set below the trailing zeros, and the bit above them is set
pub trailing : (d n : ℕ) → ((q : ℕ) → q < count_trailing_zeros d n → bit n q ≡ 0) × (count_trailing_zeros d n < d → bit n (count_trailing_zeros d n) ≡ 1)
unfolding count_trailing_zeros
trailing zero n = (λ q l. absurd (not-suc-le-zero l), λ l. absurd (not-suc-le-zero l))
trailing (suc d) n = go (n % 2) refl (trailing d (n / 2)).0 (trailing d (n / 2)).1
  where
    z : ℕ
    z = count_trailing_zeros d (n / 2)

    go : (r : ℕ) → r ≡ n % 2 → ((q : ℕ) → q < z → bit (n / 2) q ≡ 0) → (z < d → bit (n / 2) z ≡ 1)
        → ((q : ℕ) → q < under r z → bit n q ≡ 0) × (under r z < suc d → bit n (under r z) ≡ 1)
    go zero e below at = (zero_front n z (sym e) below, λ l. sym (half_bit n z) ∙ at (le_of_suc-le-suc l))
    go (suc r) e below at = (λ q l. absurd (not-suc-le-zero l), λ l. odd_bit n r e)

-- every pattern of a section
abbrev every : ℕ
every = narrow_space - 1

abbrev refuses : ℕ → ℕ → Bool
refuses fine p = eqb (bit fine p) 0

every_bit : (p : ℕ) → p < narrow_patterns → bit every p ≡ 1
every_bit p l = ones_bit narrow_patterns p l

fine_bit : (fine p : ℕ) → T (not (refuses fine p)) → bit fine p ≡ 1
fine_bit fine p t = ⊎_elim (λ e. absurd (T_not (refuses fine p) t (eq_test e))) (λ e. e) (bit_cases fine p)

pub all_fine : (fine : ℕ) → fine ≡ every → first_refused fine ≡ None
all_fine fine e =
    first_none narrow_patterns (refuses fine)
    (λ p l. not_T (refuses fine p) (λ t. let z = eqb→eq (bit fine p) 0 t in omega (arith, every_bit p l, ap (λ x. bit x p) e)))

-- one that is refused is a pattern of the section
pub refused_inside : (fine i : ℕ) → first_refused fine ≡ Some i → i < narrow_patterns
refused_inside fine i e = omega (arith, some_lowest narrow_patterns (refuses fine) i e)

module _ (fine : ℕ) (lf : fine < narrow_space) (ne : fine ≡ every → ⊥) where
  -- some pattern is refused
  refused : ℕ
  refused = lowest narrow_patterns (refuses fine)

  refused_lt : refused < narrow_patterns
  unfolding refused
  refused_lt =
      ⊎_elim (λ l. l)
      (λ h. absurd (ne (bit_ext narrow_patterns fine every lf (ones_lt narrow_patterns) (λ p l. fine_bit fine p (h p l) ∙ sym (every_bit p l)))))
      (lowest_or narrow_patterns (refuses fine))

  other : ℕ
  other = bit_xor fine every

  -- the contrary of a bit
  contrary : (p : ℕ) → p < narrow_patterns → bit fine p + bit other p ≡ 1
  unfolding other
  contrary p l =
      let x = bit_xor_lem fine every p ∙ ap (bit_xor (bit fine p)) (every_bit p l) in
      omega (arith, x, xor_add_and (bit fine p) 1, and_le_l (bit fine p) 1, and_le_r (bit fine p) 1, bit_lt fine p, bit_lt other p)

  found_at : count_trailing_zeros word_width (bit_xor fine every) ≡ refused
  unfolding other refused
  found_at =
      let z = count_trailing_zeros word_width other in
      let p = refused in
      let lp = refused_lt in
      let lz : z ≤ p = ⊎_elim (λ t. absurd (below t (trailing word_width other).0)) (λ t. nltb→le p z t) (decide (ltb p z)) in
      let top : bit other z ≡ 1 = (trailing word_width other).1 (omega arith) in
      let shut : bit fine z ≡ 0 = omega (arith, contrary z (omega arith)) in
      sym (lowest_at narrow_patterns (refuses fine) z (omega arith) (eq_test shut)
      (λ q l. not_T (refuses fine q) (λ t. let e = eqb→eq (bit fine q) 0 t in omega (arith, contrary q (omega arith), (trailing word_width other).0 q l))))
    where
      below : T (ltb (refused) (count_trailing_zeros word_width other)) → ((q : ℕ) → q < count_trailing_zeros word_width other → bit other q ≡ 0) → ⊥
      below t h =
          let e = eqb→eq (bit fine (refused)) 0 (lowest_is narrow_patterns (refuses fine) refused_lt) in
          omega (arith, contrary (refused) refused_lt, h (refused) (ltb→lt (refused) (count_trailing_zeros word_width other) t))

  pub found : Some (count_trailing_zeros word_width (bit_xor fine every)) ≡ first_refused fine
  unfolding refused
  found = rw (lt-ltb refused narrow_patterns refused_lt, found_at)
