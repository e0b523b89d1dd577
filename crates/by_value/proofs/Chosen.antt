-- The bits that the code chooses by the four tables are those of the value's word and lane.
use Prim.Native.Nat.{ℕ, ◌+◌, ◌*◌, ◌^◌, ◌/◌, ◌%◌, ◌<◌}
use mathlib.Core.Path.{◌≡◌, refl, sym, ap, ap₂, ◌∙◌}
use mathlib.Core.Logic.{◌⊎◌, inl, inr}
use mathlib.Core.Bool.{cond}
use mathlib.Core.List.{List, [], ◌∷◌}
use native.Mathlib.Omega.{arith}
use lib.Dec.{eqb}
use lib.ListN.{get_or}
use Rattle.table.specs.Bits.{bit, sum, of_bits}
use Rattle.table.specs.Inner.Pairs.{narrow_patterns}
use Rattle.table.specs.Inner.Ranks.{narrow_space}
use Rattle.table.proofs.Bits.{bit_lt, bit_mod, bit_div, bit_cases}
use Rattle.relation.specs.Inner.Side.{value_in}
use Rattle.by_value.specs.Inner.ByValue.{word_values, allowed_at}
use Rattle.lanes.specs.Inner.Lanes.{Chosen}

-- lane j of a number stands in each lane of another
abbrev pub InLanes : (tables j r : ℕ) → Type 0
InLanes tables j r = (i p : ℕ) → i < word_values → p < narrow_patterns → bit r (narrow_patterns * i + p) ≡ bit tables (narrow_patterns * j + p)

same_choice : {t u o x z y : ℕ} → t ≡ u → o ≡ x → z ≡ y → cond (eqb t 1) o z ≡ cond (eqb u 1) x y
same_choice e d f = cc

-- two choices by two bits
by_two : (f : ℕ → ℕ) (x y : ℕ) → (x ≡ 0) ⊎ (x ≡ 1) → (y ≡ 0) ⊎ (y ≡ 1)
    → cond (eqb x 1) (cond (eqb y 1) (f 3) (f 1)) (cond (eqb y 1) (f 2) (f 0)) ≡ f (x + 2 * y)
by_two f x y (inl e) (inl d) = rw (e, d)
by_two f x y (inl e) (inr d) = rw (e, d)
by_two f x y (inr e) (inl d) = rw (e, d)
by_two f x y (inr e) (inr d) = rw (e, d)

module _ (a b c d tables p : ℕ) (lp : p < narrow_patterns) where
  words : List ℕ
  words = a ∷ b ∷ c ∷ d ∷ []

  wire : ℕ → ℕ
  wire j = bit tables (narrow_patterns * j + p)

  wire_lt : (j : ℕ) → wire j < 2
  unfolding wire
  wire_lt j = bit_lt tables (narrow_patterns * j + p)

  -- the word and the lane of the value, by its bits
  value_word_lem : value_in tables p / word_values ≡ wire 2 + 2 * wire 3
  unfolding value_in of_bits sum wire
  value_word_lem = omega (arith, wire_lt 0, wire_lt 1, wire_lt 2, wire_lt 3)

  value_lane : value_in tables p % word_values ≡ wire 0 + 2 * wire 1
  unfolding value_in of_bits sum wire
  value_lane = omega (arith, wire_lt 0, wire_lt 1, wire_lt 2, wire_lt 3)

  wire_cases : (j : ℕ) → (wire j ≡ 0) ⊎ (wire j ≡ 1)
  unfolding wire
  wire_cases j = bit_cases tables (narrow_patterns * j + p)

  chosen_word : ℕ
  chosen_word = get_or words (wire 2 + 2 * wire 3) 0

  module _ (w3 w2 w1 low high four two r : ℕ) (e3 : InLanes tables 3 w3) (e2 : InLanes tables 2 w2) (e1 : InLanes tables 1 w1)
      (el : Chosen w3 a c low) (eh : Chosen w3 b d high) (ef : Chosen w2 low high four) (et : Chosen w1 four (four / 2 ^ (2 * narrow_patterns)) two)
      (er : Chosen tables two (two / 2 ^ narrow_patterns) r) where
    four_at_lem : (i : ℕ) → i < word_values → bit four (narrow_patterns * i + p) ≡ bit chosen_word (narrow_patterns * i + p)
    unfolding wire words chosen_word
    four_at_lem i l =
        let n = narrow_patterns * i + p in
        ef n
        ∙ same_choice (e2 i p l lp) (eh n ∙ same_choice {o = bit d n} {z = bit b n} (e3 i p l lp) refl refl)
        (el n ∙ same_choice {o = bit c n} {z = bit a n} (e3 i p l lp) refl refl)
        ∙ by_two (λ k. bit (get_or words k 0) n) (wire 2) (wire 3) (wire_cases 2) (wire_cases 3)

    two_at_lem : (i : ℕ) → i < 2 → bit two (narrow_patterns * i + p)
        ≡ cond (eqb (wire 1) 1) (bit chosen_word (narrow_patterns * (2 + i) + p)) (bit chosen_word (narrow_patterns * i + p))
    unfolding wire
    two_at_lem i l =
        let n = narrow_patterns * i + p in
        let e : 2 * narrow_patterns + n ≡ narrow_patterns * (2 + i) + p = omega arith in
        et n
        ∙ same_choice (e1 i p (omega arith) lp) (bit_div four (2 * narrow_patterns) n ∙ ap (bit four) e ∙ four_at_lem (2 + i) (omega arith)) (four_at_lem i (omega arith))

    pub chosen_allowed : bit (r % narrow_space) p ≡ allowed_at a b c d tables p
    unfolding allowed_at wire words chosen_word
    chosen_allowed =
        let e : p ≡ narrow_patterns * 0 + p = omega arith in
        bit_mod r lp ∙ er p
        ∙ same_choice (ap (bit tables) e) (bit_div two narrow_patterns p ∙ two_at_lem 1 (omega arith)) (ap (bit two) e ∙ two_at_lem 0 (omega arith))
        ∙ by_two (λ i. bit chosen_word (narrow_patterns * i + p)) (wire 0) (wire 1) (wire_cases 0) (wire_cases 1)
        ∙ ap₂ (λ k i. bit (get_or words k 0) (narrow_patterns * i + p)) (sym value_word_lem) (sym value_lane)
