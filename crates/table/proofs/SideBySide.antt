-- Five and six inputs: masks side by side by their halves, and the pick of one input more from three picks, as the code makes them.
use Prim.Native.Nat.{ℕ, ◌+◌, ◌*◌, ◌-◌, ◌/◌, ◌%◌, ◌^◌, ◌<◌, ◌≤◌, min}
use mathlib.Core.Path.{◌≡◌, refl, sym, ap, ap₂, subst, ◌∙◌}
use mathlib.Core.Bool.{not, cond, ◌&&◌}
use native.Mathlib.Omega.{arith}
use native.Mathlib.Nat.{le_refl, zero-add, mod-add-div', add_comm}
use lib.Arith.{digits_div, digits_mod}
use lib.Bits.{bit_and, and_mod, and_shr, and_le_l, and_le_r}
use lib.Dec.{T, eqb, eqb→eq}
use Rattle.base.proofs.Tests.{eq_test, test_ext}
use Rattle.table.specs.Bits.{bit}
use Rattle.table.specs.Cells.{low, high, full, cells}
use Rattle.table.specs.Inner.Ranks.{pick_of, narrow_space, pick_key}
use Rattle.table.specs.Inner.Pairs.{narrow_inputs, narrow_patterns, zeros_in, ones_in}
use Rattle.table.specs.Inner.Blocks.{no_table, Shown, PickShown, Covered}
use Rattle.table.specs.Inner.Lines.{line}
use Rattle.table.specs.Inner.Wide.{five_space, six_space, two_masks, four_masks, all_covered, line_fits, line_of_five, line_of_six, FiveShown, SixShown}
use Rattle.table.proofs.Bits.{bit_mod, bit_div}
use Rattle.table.proofs.Pairs.{zeros_lt, ones_lt}
use Rattle.table.proofs.Widths.{digits_told}
use Rattle.table.proofs.Seats.{zeros_full, ones_full, zeros_and, ones_and, none_wide}
use Rattle.table.proofs.Entries.{line_choice, twice_shown, pair_shown, twice_most, step_shown}

-- masks side by side
module _ (a b : ℕ) (la : a < narrow_space) (lb : b < narrow_space) where
  pub two_low : two_masks a b % narrow_space ≡ a
  unfolding two_masks
  two_low = digits_mod b la

  pub two_high : two_masks a b / narrow_space ≡ b
  unfolding two_masks
  two_high = digits_div b la

  pub two_lt : two_masks a b < five_space
  unfolding two_masks
  two_lt = omega arith

-- two numbers bit by bit together, by their upper and lower part
by_digits : (k x : ℕ) → x ≡ x / 2 ^ k * 2 ^ k + x % 2 ^ k
by_digits k x = sym (mod-add-div' x (2 ^ k)) ∙ add_comm (x % 2 ^ k) (x / 2 ^ k * 2 ^ k)

and_digits : (k x y : ℕ) → bit_and x y ≡ bit_and (x / 2 ^ k) (y / 2 ^ k) * 2 ^ k + bit_and (x % 2 ^ k) (y % 2 ^ k)
and_digits k x y = by_digits k (bit_and x y) ∙ ap₂ (λ h l. h * 2 ^ k + l) (and_shr x y k) (and_mod x y k)

two_opened : (x y : ℕ) → two_masks x y ≡ y * narrow_space + x
unfolding two_masks
two_opened x y = refl

-- so masks side by side are together pair by pair
pub two_and : (a b c d : ℕ) → a < narrow_space → b < narrow_space → c < narrow_space → d < narrow_space
    → bit_and (two_masks a b) (two_masks c d) ≡ two_masks (bit_and a c) (bit_and b d)
two_and a b c d la lb lc ld =
    and_digits narrow_patterns (two_masks a b) (two_masks c d)
    ∙ ap₂ (λ h l. h * narrow_space + l) (ap₂ bit_and (two_high a b la lb) (two_high c d lc ld)) (ap₂ bit_and (two_low a b la lb) (two_low c d lc ld))
    ∙ sym (two_opened (bit_and a c) (bit_and b d))

module _ (low_pair high_pair : ℕ) where
  abbrev zl : ℕ
  zl = zeros_in low_pair

  abbrev zh : ℕ
  zh = zeros_in high_pair

  abbrev ol : ℕ
  ol = ones_in low_pair

  abbrev oh : ℕ
  oh = ones_in high_pair

  -- five inputs, from the picks of two pairs and of what they have in common
  pub five_places : (a b c : ℕ) → PickShown narrow_inputs narrow_space zl ol a → PickShown narrow_inputs narrow_space zh oh b
      → PickShown narrow_inputs narrow_space (zeros_in (bit_and low_pair high_pair)) (ones_in (bit_and low_pair high_pair)) c
      → FiveShown low_pair high_pair
      (min (min (twice_shown narrow_space c) (cond (line_fits low_pair high_pair) line_of_five (no_table * five_space))) (pair_shown narrow_space a b))
  unfolding low high line full
  five_places a b c sa sb sc =
      let Z = two_masks zl zh in
      let O = two_masks ol oh in
      let ez = two_low zl zh (zeros_lt low_pair) (zeros_lt high_pair) in
      let fz = two_high zl zh (zeros_lt low_pair) (zeros_lt high_pair) in
      let eo = two_low ol oh (ones_lt low_pair) (ones_lt high_pair) in
      let fo = two_high ol oh (ones_lt low_pair) (ones_lt high_pair) in
      step_shown 4 (omega arith) Z O a b c (cond (line_fits low_pair high_pair) line_of_five (no_table * five_space)) (two_lt ol oh (ones_lt low_pair) (ones_lt high_pair))
      (rw (ez, eo) sa) (rw (fz, fo) sb) (rw (ez, fz, eo, fo, ← zeros_and low_pair high_pair, ← ones_and low_pair high_pair) sc)
      (ap (λ t. cond t line_of_five (no_table * five_space)) (ap₂ ◌&&◌ (zeros_full low_pair ∙ ap (λ x. eqb x (full narrow_inputs)) (sym ez)) (ones_full high_pair ∙ ap (λ x. eqb x (full narrow_inputs)) (sym fo))))

-- five inputs, as the code finds it: the line stands for two halves where it fits
pub five_found : (low high a b c : ℕ) → narrow_space ≤ a → narrow_space ≤ b → c ≤ no_table * narrow_space
    → PickShown narrow_inputs narrow_space (zeros_in low) (ones_in low) a → PickShown narrow_inputs narrow_space (zeros_in high) (ones_in high) b
    → PickShown narrow_inputs narrow_space (zeros_in (bit_and low high)) (ones_in (bit_and low high)) c
    → FiveShown low high (min (twice_shown narrow_space c) (cond (line_fits low high) line_of_five (pair_shown narrow_space a b)))
five_found low high a b c la lb lc sa sb sc =
    subst (FiveShown low high)
    (sym (line_choice (line_fits low high) line_of_five (no_table * five_space) (twice_shown narrow_space c) (pair_shown narrow_space a b)
    (twice_most narrow_space no_table c (omega arith) lc) (omega arith)))
    (five_places low high a b c sa sb sc)

-- no table where the lower pair, or the upper one, leaves a pattern neither 0 nor 1
module _ (low_pair high_pair : ℕ) where
  pub none_low : T (not (all_covered low_pair)) → FiveShown low_pair high_pair (no_table * five_space)
  none_low h =
      subst (λ o. Shown (pick_key 5) five_space o (no_table * five_space))
      (sym (none_wide (pick_key 5) 5 (two_masks (zeros_in low_pair) (zeros_in high_pair)) (two_masks (ones_in low_pair) (ones_in high_pair)) low_pair 0 (omega arith)
      (λ p l. lower_bit (zeros_in low_pair) (zeros_in high_pair) (zeros_lt low_pair) (zeros_lt high_pair) p l)
      (λ p l. lower_bit (ones_in low_pair) (ones_in high_pair) (ones_lt low_pair) (ones_lt high_pair) p l) h))
      (le_refl (no_table * five_space))
    where
      lower_bit : (a b : ℕ) → a < narrow_space → b < narrow_space → (p : ℕ) → p < narrow_patterns → bit (two_masks a b) (0 + p) ≡ bit a p
      lower_bit a b la lb p l = ap (bit (two_masks a b)) (zero-add p) ∙ sym (bit_mod (two_masks a b) {k = narrow_patterns} l) ∙ ap (λ x. bit x p) (two_low a b la lb)

  pub none_high : T (not (all_covered high_pair)) → FiveShown low_pair high_pair (no_table * five_space)
  none_high h =
      subst (λ o. Shown (pick_key 5) five_space o (no_table * five_space))
      (sym (none_wide (pick_key 5) 5 (two_masks (zeros_in low_pair) (zeros_in high_pair)) (two_masks (ones_in low_pair) (ones_in high_pair)) high_pair narrow_patterns (omega arith)
      (λ p l. upper_bit (zeros_in low_pair) (zeros_in high_pair) (zeros_lt low_pair) (zeros_lt high_pair) p)
      (λ p l. upper_bit (ones_in low_pair) (ones_in high_pair) (ones_lt low_pair) (ones_lt high_pair) p) h))
      (le_refl (no_table * five_space))
    where
      upper_bit : (a b : ℕ) → a < narrow_space → b < narrow_space → (p : ℕ) → bit (two_masks a b) (narrow_patterns + p) ≡ bit b p
      upper_bit a b la lb p = sym (bit_div (two_masks a b) narrow_patterns p) ∙ ap (λ x. bit x p) (two_high a b la lb)

-- the numbers of six inputs by key and table, as the code has them apart
twice_apart : (x : ℕ) → twice_shown five_space x ≡ x / five_space * six_space + (x % five_space * five_space + x % five_space)
twice_apart x = omega arith

pair_apart : (x y : ℕ) → pair_shown five_space x y ≡ (x / five_space + y / five_space) * six_space + (y % five_space * five_space + x % five_space)
pair_apart x y = omega arith

module _ (a b c d : ℕ) where
  abbrev za : ℕ
  za = two_masks (zeros_in a) (zeros_in b)

  abbrev zc : ℕ
  zc = two_masks (zeros_in c) (zeros_in d)

  abbrev oa : ℕ
  oa = two_masks (ones_in a) (ones_in b)

  abbrev oc : ℕ
  oc = two_masks (ones_in c) (ones_in d)

  zeros_low : za < five_space
  zeros_low = two_lt (zeros_in a) (zeros_in b) (zeros_lt a) (zeros_lt b)

  zeros_high : zc < five_space
  zeros_high = two_lt (zeros_in c) (zeros_in d) (zeros_lt c) (zeros_lt d)

  ones_low : oa < five_space
  ones_low = two_lt (ones_in a) (ones_in b) (ones_lt a) (ones_lt b)

  ones_high : oc < five_space
  ones_high = two_lt (ones_in c) (ones_in d) (ones_lt c) (ones_lt d)

  -- a mask of five inputs is full where both of its pairs' masks are
  full_two : (x y : ℕ) → x < narrow_space → y < narrow_space → eqb (bit_and x y) (full narrow_inputs) ≡ eqb (two_masks x y) (full (narrow_inputs + 1))
  unfolding full
  full_two x y lx ly =
      test_ext (eqb (bit_and x y) (full narrow_inputs)) (eqb (two_masks x y) (full (narrow_inputs + 1)))
      (λ t.
      let e = eqb→eq (bit_and x y) (full narrow_inputs) t in
      eq_test (two_opened x y ∙ omega (arith, e, and_le_l x y, and_le_r x y)))
      (λ t.
      let e = sym (two_opened x y) ∙ eqb→eq (two_masks x y) (full (narrow_inputs + 1)) t in
      let ex : x ≡ full narrow_inputs = omega (arith, e) in
      let ey : y ≡ full narrow_inputs = omega (arith, e) in
      eq_test (ap₂ bit_and ex ey))

  line_six : line_fits (bit_and a b) (bit_and c d) ≡ eqb za (full (narrow_inputs + 1)) && eqb oc (full (narrow_inputs + 1))
  line_six =
      ap₂ ◌&&◌ (zeros_full (bit_and a b) ∙ ap (λ x. eqb x (full narrow_inputs)) (zeros_and a b) ∙ full_two (zeros_in a) (zeros_in b) (zeros_lt a) (zeros_lt b))
      (ones_full (bit_and c d) ∙ ap (λ x. eqb x (full narrow_inputs)) (ones_and c d) ∙ full_two (ones_in c) (ones_in d) (ones_lt c) (ones_lt d))

  -- six inputs, from the picks of five of both halves and of what they have in common
  six_places : (x y z : ℕ) → FiveShown a b x → FiveShown c d y → FiveShown (bit_and a c) (bit_and b d) z
      → SixShown a b c d
      (min (min (twice_shown five_space z) (cond (line_fits (bit_and a b) (bit_and c d)) line_of_six (no_table * six_space))) (pair_shown five_space x y))
  unfolding low high line full four_masks
  six_places x y z sx sy sz =
      let Z = zc * five_space + za in
      let O = oc * five_space + oa in
      let ez : Z % five_space ≡ za = digits_mod zc zeros_low in
      let fz : Z / five_space ≡ zc = digits_div zc zeros_low in
      let eo : O % five_space ≡ oa = digits_mod oc ones_low in
      let fo : O / five_space ≡ oc = digits_div oc ones_low in
      let az : bit_and za zc ≡ two_masks (zeros_in (bit_and a c)) (zeros_in (bit_and b d)) =
      two_and (zeros_in a) (zeros_in b) (zeros_in c) (zeros_in d) (zeros_lt a) (zeros_lt b) (zeros_lt c) (zeros_lt d) ∙ ap₂ two_masks (sym (zeros_and a c)) (sym (zeros_and b d)) in
      let ao : bit_and oa oc ≡ two_masks (ones_in (bit_and a c)) (ones_in (bit_and b d)) =
      two_and (ones_in a) (ones_in b) (ones_in c) (ones_in d) (ones_lt a) (ones_lt b) (ones_lt c) (ones_lt d) ∙ ap₂ two_masks (sym (ones_and a c)) (sym (ones_and b d)) in
      step_shown 5 (omega arith) Z O x y z (cond (line_fits (bit_and a b) (bit_and c d)) line_of_six (no_table * six_space)) (omega (arith, ones_low, ones_high))
      (rw (ez, eo) sx) (rw (fz, fo) sy) (rw (ez, fz, eo, fo, az, ao) sz)
      (ap (λ t. cond t line_of_six (no_table * six_space)) (line_six ∙ ap₂ (λ x y. eqb x (full (narrow_inputs + 1)) && eqb y (full (narrow_inputs + 1))) (sym ez) (sym fo)))

  pub six_found : (x y z : ℕ) → five_space ≤ x → five_space ≤ y → z ≤ no_table * five_space → FiveShown a b x → FiveShown c d y
      → FiveShown (bit_and a c) (bit_and b d) z
      → SixShown a b c d
      (min (z / five_space * six_space + (z % five_space * five_space + z % five_space))
      (cond (line_fits (bit_and a b) (bit_and c d)) line_of_six ((x / five_space + y / five_space) * six_space + (y % five_space * five_space + x % five_space))))
  six_found x y z lx ly lz sx sy sz =
      let fits = line_fits (bit_and a b) (bit_and c d) in
      subst (SixShown a b c d)
      (sym (line_choice fits line_of_six (no_table * six_space) (twice_shown five_space z) (pair_shown five_space x y) (twice_most five_space no_table z (omega arith) lz) (omega arith))
      ∙ ap₂ (λ u v. min u (cond fits line_of_six v)) (twice_apart z) (pair_apart x y))
      (six_places x y z sx sy sz)

-- with five inputs the last two pairs are empty
four_two : (a b c d : ℕ) → four_masks a b c d < five_space → four_masks a b c d ≡ two_masks a b
unfolding four_masks
four_two a b c d l = omega (arith, empty)
  where
    empty : two_masks c d ≡ 0
    empty = omega arith

-- what a number that shows the pick tells, where masks are covered: its table, and its cells
pub five_told : (a b c d a' b' c' d' n x : ℕ) → n ≡ 5 → four_masks a b c d < 2 ^ (2 ^ n) → four_masks a' b' c' d' < 2 ^ (2 ^ n)
    → Covered n (four_masks a b c d) (four_masks a' b' c' d') → PickShown 5 five_space (two_masks a b) (two_masks a' b') x
    → (x % five_space ≡ pick_of (cells n) n (four_masks a b c d) (four_masks a' b' c' d')) × (x / five_space - 1 ≡ cells n (x % five_space))
five_told a b c d a' b' c' d' n x e lz lo h s =
    subst (λ k. (x % five_space ≡ pick_of (cells k) k Z O) × (x / five_space - 1 ≡ cells k (x % five_space))) (sym e)
    (five Z O (subst (λ k. Covered k Z O) e h) (rw (four_two a b c d (subst (λ k. Z < 2 ^ (2 ^ k)) e lz), four_two a' b' c' d' (subst (λ k. O < 2 ^ (2 ^ k)) e lo)) s))
  where
    Z : ℕ
    Z = four_masks a b c d

    O : ℕ
    O = four_masks a' b' c' d'

    one_less : (y : ℕ) → 1 + y - 1 ≡ y
    one_less y = omega arith

    five : (zeros ones : ℕ) → Covered 5 zeros ones → PickShown 5 five_space zeros ones x
        → (x % five_space ≡ pick_of (cells 5) 5 zeros ones) × (x / five_space - 1 ≡ cells 5 (x % five_space))
    five zeros ones cov shows =
        let d = digits_told 5 zeros ones x cov shows in
        (d.0, ap (λ y. y - 1) d.1 ∙ one_less (cells 5 (pick_of (cells 5) 5 zeros ones)) ∙ ap (cells 5) (sym d.0))

pub six_told : (zeros ones n k t : ℕ) → n ≡ 6 → Covered n zeros ones → t < six_space → PickShown 6 six_space zeros ones ((1 + k) * six_space + t)
    → (t ≡ pick_of (cells n) n zeros ones) × (k ≡ cells n t)
six_told zeros ones n k t e h l s =
    subst (λ k'. (t ≡ pick_of (cells k') k' zeros ones) × (k ≡ cells k' t)) (sym e) (six (subst (λ k. Covered k zeros ones) e h))
  where
    six : Covered 6 zeros ones → (t ≡ pick_of (cells 6) 6 zeros ones) × (k ≡ cells 6 t)
    six cov =
        let d = digits_told 6 zeros ones ((1 + k) * six_space + t) cov s in
        let m : t ≡ pick_of (cells 6) 6 zeros ones = sym (digits_mod (1 + k) l) ∙ d.0 in
        let q : 1 + k ≡ pick_key 6 (pick_of (cells 6) 6 zeros ones) = sym (digits_div (1 + k) l) ∙ d.1 in
        (m, omega (arith, q) ∙ ap (cells 6) (sym m))
