-- Laws of a set of values as the number of a test: bit v is 1 where v passes.
use Prim.Native.Nat.{ℕ, ◌+◌, ◌*◌, ◌-◌, ◌^◌, ◌<◌, ◌≤◌}
use mathlib.Core.Path.{◌≡◌, refl, sym, ap, ap₂, subst, ◌∙◌}
use mathlib.Core.Logic.{⊎_elim}
use mathlib.Core.Bool.{Bool, false, ◌&&◌}
use native.Mathlib.Numerals.{add-one}
use native.Mathlib.Omega.{arith}
use lib.Bits.{bit_and, bit_xor, and_lt, xor_lt}
use lib.Dec.{eqb, ltb, ltb→lt, nltb→le}
use lib.Pow.{ones_lt}
use Rattle.base.proofs.Tests.{decide}
use Rattle.table.specs.Bits.{bit, all, of_bits, is_one}
use Rattle.table.proofs.Bits.{bit_lt, bit_ext, bit_past, bit_of_bits, of_bits_lt, of_bits_short, test_and, bit_xor_lem}
use Rattle.table.proofs.BitColumns.{one_test, is_one_lt_two}
use Rattle.sheet.specs.Limits.{max_values}
use Rattle.sheet.proofs.Lists.{never}
use Rattle.unit.specs.Inner.Forming.{same_bit}
use Rattle.unit.proofs.Bits.{two_bits, times_lt, ones_times}

-- the numbers below k that pass
abbrev pub told : ℕ → (ℕ → Bool) → ℕ
told k f = of_bits k (λ v. is_one (f v))

module _ (f : ℕ → Bool) where
  told_lt : (k : ℕ) → told k f < 2 ^ k
  told_lt k = of_bits_lt (λ v. is_one (f v)) k (λ v _. is_one_lt_two (f v))

  pub told_test : (k v : ℕ) → v < k → eqb (bit (told k f) v) 1 ≡ f v
  told_test k v l = ap (λ x. eqb x 1) (bit_of_bits (λ v. is_one (f v)) k (λ v _. is_one_lt_two (f v)) v l) ∙ one_test (f v)

  -- also where nothing passes from k on
  pub told_all : (k : ℕ) → ((v : ℕ) → k ≤ v → f v ≡ false) → (v : ℕ) → eqb (bit (told k f) v) 1 ≡ f v
  told_all k h v =
      ⊎_elim (λ l. told_test k v (ltb→lt v k l))
      (λ l. let b = nltb→le v k l in ap (λ x. eqb x 1) (bit_past (told k f) k v (told_lt k) b) ∙ sym (h v b))
      (decide (ltb v k))

  -- and below j, where nothing passes from j on
  pub told_below : (j k : ℕ) → j ≤ k → ((v : ℕ) → j ≤ v → f v ≡ false) → told k f < 2 ^ j
  unfolding is_one
  told_below j k l h = subst (λ x. x < 2 ^ j) (sym (of_bits_short (λ v. is_one (f v)) j k l (λ v b. ap is_one (h v b)))) (told_lt j)

-- bits are equal by their tests
pub bit_by_test : (a b : ℕ) → a < 2 → b < 2 → eqb a 1 ≡ eqb b 1 → a ≡ b
bit_by_test = two_bits (λ a b. eqb a 1 ≡ eqb b 1 → a ≡ b) (λ _. refl) (λ e. never e) (λ e. never (sym e)) (λ _. refl)

-- a number whose bits are the test's
pub told_is : (f : ℕ → Bool) (k x : ℕ) → x < 2 ^ k → ((v : ℕ) → v < k → eqb (bit x v) 1 ≡ f v) → x ≡ told k f
told_is f k x h e =
    bit_ext k x (told k f) h (told_lt f k)
    (λ v l. bit_by_test (bit x v) (bit (told k f) v) (bit_lt x v) (bit_lt (told k f) v) (e v l ∙ sym (told_test f k v l)))

-- the numbers that pass two tests
told_and : (f g : ℕ → Bool) (k : ℕ) → bit_and (told k f) (told k g) ≡ told k (λ v. f v && g v)
told_and f g k =
    told_is (λ v. f v && g v) k (bit_and (told k f) (told k g)) (and_lt k (told k f) (told k g) (told_lt f k) (told_lt g k))
    (λ v l. test_and (told k f) (told k g) v ∙ ap₂ ◌&&◌ (told_test f k v l) (told_test g k v l))

-- those that pass the tests below i, and test i
pub told_more : (f : ℕ → ℕ → Bool) (k i : ℕ) → bit_and (told k (λ v. all i (f v))) (told k (λ v. f v i)) ≡ told k (λ v. all (i + 1) (f v))
unfolding all
told_more f k i = rw (add-one i) (told_and (λ v. all i (f v)) (λ v. f v i) k)

-- the values for which a word is what it is for u: the word, inverted where its bit for u is 0
pub told_alike : {z : ℕ} (word u : ℕ) → word < 2 ^ max_values → z ≡ 1 - bit word u → bit_xor word (z * (2 ^ max_values - 1)) ≡ told max_values (same_bit word u)
told_alike {z} word u l e =
    let small : z < 2 = omega arith in
    told_is (same_bit word u) max_values (bit_xor word (z * (2 ^ max_values - 1)))
    (xor_lt max_values word (z * (2 ^ max_values - 1)) l (times_lt max_values small (ones_lt max_values)))
    (λ v b.
    ap (λ x. eqb x 1) (bit_xor_lem word (z * (2 ^ max_values - 1)) v ∙ ap (bit_xor (bit word v)) (ones_times z v small b ∙ e))
    ∙ two_bits (λ x y. eqb (bit_xor x (1 - y)) 1 ≡ eqb x y) refl refl refl refl (bit word v) (bit word u) (bit_lt word v) (bit_lt word u))
