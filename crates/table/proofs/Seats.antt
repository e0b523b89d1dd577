-- The seats of a pair all together: a mask is full where the pair has all seats of it, every pattern is covered where each has one of its two seats, and what two
-- pairs have in common.
use Prim.Native.Nat.{ℕ, zero, suc, ◌+◌, ◌*◌, ◌/◌, ◌%◌, ◌^◌, ◌<◌, ◌≤◌}
use mathlib.Core.Path.{◌≡◌, refl, sym, ap, ap₂, ◌∙◌}
use mathlib.Core.Logic.{⊎_elim}
use mathlib.Core.Bool.{Bool, true, false, cond, not, ◌||◌}
use mathlib.Core.Option.{Option, none, some}
use native.Mathlib.Omega.{arith}
use native.Mathlib.Nat.{zero-add, lt_of_le_of_lt}
use lib.Bits.{bit_and, bit_or, and_le_l, and_le_r}
use lib.Dec.{T, T_not, eqb, eqb→eq}
use Rattle.base.proofs.Tests.{eq_test, test_ext, or_cases}
use Rattle.table.specs.Bits.{bit, all}
use Rattle.table.specs.Cells.{full}
use Rattle.table.specs.Pick.{Proj, suits, least, least_of}
use Rattle.table.specs.Inner.Ranks.{narrow_space, masked}
use Rattle.table.specs.Inner.Pairs.{narrow_patterns, block_patterns, byte_bits, pair_bits, upper_half, seat, zeros_in, ones_in}
use Rattle.table.specs.Inner.Blocks.{Covered}
use Rattle.table.specs.Inner.Wide.{zero_seats, one_seats, has_seats, all_covered}
use Rattle.table.proofs.Bits.{bit_lt, bit_and_lem, bit_or_lem, bit_div, bit_ext, all_at}
use Rattle.table.proofs.Least.{Least, least_is}
use Rattle.table.proofs.Wired.{full_lt, full_bit}
use Rattle.table.proofs.Pairs.{ones_at_lem, zeros_at_lem, ones_lt, zeros_lt}

and_one : (a b : ℕ) → a < 2 → b ≡ 1 → bit_and a b ≡ a
and_one a b l e = ap (bit_and a) e ∙ same a l
  where
    same : (a : ℕ) → a < 2 → bit_and a 1 ≡ a
    same zero l = refl
    same (suc zero) l = refl
    same (suc (suc a)) l = absurd (omega arith)

and_none : (a b : ℕ) → b ≡ 0 → bit_and a b ≡ 0
and_none a b e = omega (arith, and_le_r a b)

-- the pattern whose seat, or whose seat half a byte up, a bit is
abbrev pattern_at : ℕ → ℕ
pattern_at i = i / byte_bits * block_patterns + i % block_patterns

-- `seats` has just the seats `up` above those of the patterns, and they are all in it
abbrev Seats : (seats up : ℕ) → Type 0
Seats seats up =
    T (all narrow_patterns (λ p. eqb (bit seats (seat p + up)) 1)) × T (all pair_bits (λ i. eqb (bit seats i) 0 || eqb (seat (pattern_at i) + up) i))

one_seats_lem : Seats one_seats 0
unfolding bit seat all
one_seats_lem = (tt, tt)

zero_seats_lem : Seats zero_seats block_patterns
unfolding bit seat all
zero_seats_lem = (tt, tt)

module _ (seats up : ℕ) (told : Seats seats up) (small : seats < 2 ^ pair_bits) where
  -- a number has all seats exactly where it has the one of each pattern
  pub each_seat : (x : ℕ) → T (has_seats x seats) → (p : ℕ) → p < narrow_patterns → bit x (seat p + up) ≡ 1
  each_seat x h p l =
      let i = seat p + up in
      let s : bit seats i ≡ 1 = eqb→eq (bit seats i) 1 (all_at narrow_patterns (λ q. eqb (bit seats (seat q + up)) 1) told.0 p l) in
      sym (and_one (bit x i) (bit seats i) (bit_lt x i) s) ∙ sym (bit_and_lem x seats i) ∙ ap (λ y. bit y i) (eqb→eq (bit_and x seats) seats h) ∙ s

  pub all_seats : (x : ℕ) → ((p : ℕ) → p < narrow_patterns → bit x (seat p + up) ≡ 1) → T (has_seats x seats)
  all_seats x h =
      eq_test (bit_ext pair_bits (bit_and x seats) seats (lt_of_le_of_lt (and_le_r x seats) small) small
      (λ i l. bit_and_lem x seats i ∙ ⊎_elim
      (λ e. let z = eqb→eq (bit seats i) 0 e in and_none (bit x i) (bit seats i) z ∙ sym z)
      (λ e.
      let d : seat (pattern_at i) + up ≡ i = eqb→eq (seat (pattern_at i) + up) i e in
      let lp : pattern_at i < narrow_patterns = omega arith in
      let x1 : bit x i ≡ 1 = ap (bit x) (sym d) ∙ h (pattern_at i) lp in
      let s : bit seats i ≡ 1 = ap (bit seats) (sym d) ∙ eqb→eq (bit seats (seat (pattern_at i) + up)) 1 (all_at narrow_patterns (λ q. eqb (bit seats (seat q + up)) 1) told.0 (pattern_at i) lp) in
      and_one (bit x i) (bit seats i) (bit_lt x i) s ∙ x1 ∙ sym s)
      (or_cases (eqb (bit seats i) 0) (eqb (seat (pattern_at i) + up) i) (all_at pair_bits (λ k. eqb (bit seats k) 0 || eqb (seat (pattern_at k) + up) k) told.1 i l))))

-- so a mask is full where the pair has all seats of it
full_mask : (m : ℕ) → m < narrow_space → ((p : ℕ) → p < narrow_patterns → bit m p ≡ 1) → m ≡ full 4
full_mask m l h = bit_ext narrow_patterns m (full 4) l (full_lt 4) (λ p lp. h p lp ∙ sym (full_bit 4 p lp))

pub zeros_full : (x : ℕ) → has_seats x zero_seats ≡ eqb (zeros_in x) (full 4)
zeros_full x =
    test_ext (has_seats x zero_seats) (eqb (zeros_in x) (full 4))
    (λ h. eq_test (full_mask (zeros_in x) (zeros_lt x) (λ p l. zeros_at_lem x p l ∙ each_seat zero_seats block_patterns zero_seats_lem (omega arith) x h p l)))
    (λ e. all_seats zero_seats block_patterns zero_seats_lem (omega arith) x
    (λ p l. sym (zeros_at_lem x p l) ∙ ap (λ m. bit m p) (eqb→eq (zeros_in x) (full 4) e) ∙ full_bit 4 p l))

plain_seat : (x p : ℕ) → bit x (seat p + 0) ≡ bit x (seat p)
plain_seat x p = ap (bit x) (omega arith)

pub ones_full : (x : ℕ) → has_seats x one_seats ≡ eqb (ones_in x) (full 4)
ones_full x =
    test_ext (has_seats x one_seats) (eqb (ones_in x) (full 4))
    (λ h. eq_test (full_mask (ones_in x) (ones_lt x) (λ p l. ones_at_lem x p l ∙ sym (plain_seat x p) ∙ each_seat one_seats 0 one_seats_lem (omega arith) x h p l)))
    (λ e. all_seats one_seats 0 one_seats_lem (omega arith) x
    (λ p l. plain_seat x p ∙ sym (ones_at_lem x p l) ∙ ap (λ m. bit m p) (eqb→eq (ones_in x) (full 4) e) ∙ full_bit 4 p l))

-- and every pattern is covered where the pair and itself half a byte down have all seats for 1 between them
pub covers_all : (x : ℕ) → Covered 4 (zeros_in x) (ones_in x) → T (all_covered x)
covers_all x h =
    all_seats one_seats 0 one_seats_lem (omega arith) (bit_or x (x / upper_half))
    (λ p l.
    let i = seat p in
    plain_seat (bit_or x (x / upper_half)) p
    ∙ some_one (bit x i) (bit (x / upper_half) i) (bit (bit_or x (x / upper_half)) i) (bit_lt x i) (bit_lt (x / upper_half) i) (bit_or_lem x (x / upper_half) i)
    (above (x / upper_half) p (bit_div x block_patterns i ∙ ap (bit x) (omega arith)) l))
  where
    some_one : (a b c : ℕ) → a < 2 → b < 2 → c ≡ bit_or a b → 1 ≤ a + b → c ≡ 1
    some_one a b c la lb e s = e ∙ go a b la lb s
      where
        go : (a b : ℕ) → a < 2 → b < 2 → 1 ≤ a + b → bit_or a b ≡ 1
        go zero zero la lb s = absurd (omega arith)
        go zero (suc zero) la lb s = refl
        go (suc zero) zero la lb s = refl
        go (suc zero) (suc zero) la lb s = refl
        go zero (suc (suc b)) la lb s = absurd (omega arith)
        go (suc zero) (suc (suc b)) la lb s = absurd (omega arith)
        go (suc (suc a)) b la lb s = absurd (omega arith)

    above : (y p : ℕ) → bit y (seat p) ≡ bit x (seat p + block_patterns) → p < narrow_patterns → 1 ≤ bit x (seat p) + bit y (seat p)
    above y p e l = omega (arith, h p l, zeros_at_lem x p l, ones_at_lem x p l)

-- where a table suits, every pattern is covered
pub suits_covered : (zeros ones t p : ℕ) → T (masked zeros ones p (bit t p)) → 1 ≤ bit zeros p + bit ones p
unfolding masked
suits_covered zeros ones t p h = go (eqb (bit t p) 0) (eqb→eq (bit (cond (eqb (bit t p) 0) zeros ones) p) 1 h)
  where
    go : (c : Bool) → bit (cond c zeros ones) p ≡ 1 → 1 ≤ bit zeros p + bit ones p
    go true e = omega (arith, e)
    go false e = omega (arith, e)

-- no table suits where one of the pairs leaves a pattern neither 0 nor 1: the patterns of pair x stand from d on among those of the masks
pub none_wide : (key : ℕ → ℕ) (n zeros ones x d : ℕ) → narrow_patterns + d ≤ 2 ^ n → ((p : ℕ) → p < narrow_patterns → bit zeros (d + p) ≡ bit (zeros_in x) p)
    → ((p : ℕ) → p < narrow_patterns → bit ones (d + p) ≡ bit (ones_in x) p) → T (not (all_covered x)) → least_of key n (masked zeros ones) ≡ none
unfolding least_of suits
none_wide key n zeros ones x d inside ez eo h = go (least key fit space) (least_is key fit space)
  where
    P : Proj
    P = masked zeros ones

    fit : ℕ → Bool
    fit = suits n P

    space : ℕ
    space = 2 ^ (2 ^ n)

    go : (o : Option ℕ) → Least key fit space o → o ≡ none
    go none g = refl
    go (some t) g =
        absurd (T_not (all_covered x) h (covers_all x (λ p l.
        let s = suits_covered zeros ones t (d + p) (all_at (2 ^ n) (λ q. P q (bit t q)) g.1 (d + p) (omega arith)) in
        omega (arith, s, ez p l, eo p l))))

-- the pair by itself, at four inputs
pub none_between : (key : ℕ → ℕ) (x : ℕ) → T (not (all_covered x)) → least_of key 4 (masked (zeros_in x) (ones_in x)) ≡ none
none_between key x =
    none_wide key 4 (zeros_in x) (ones_in x) x 0 (omega arith) (λ p l. ap (bit (zeros_in x)) (zero-add p)) (λ p l. ap (bit (ones_in x)) (zero-add p))

-- what two pairs have in common
pub zeros_and : (x y : ℕ) → zeros_in (bit_and x y) ≡ bit_and (zeros_in x) (zeros_in y)
zeros_and x y =
    bit_ext narrow_patterns (zeros_in (bit_and x y)) (bit_and (zeros_in x) (zeros_in y)) (zeros_lt (bit_and x y)) (lt_of_le_of_lt (and_le_l (zeros_in x) (zeros_in y)) (zeros_lt x))
    (λ p l. zeros_at_lem (bit_and x y) p l ∙ bit_and_lem x y (seat p + block_patterns) ∙ ap₂ bit_and (sym (zeros_at_lem x p l)) (sym (zeros_at_lem y p l)) ∙ sym (bit_and_lem (zeros_in x) (zeros_in y) p))

pub ones_and : (x y : ℕ) → ones_in (bit_and x y) ≡ bit_and (ones_in x) (ones_in y)
ones_and x y =
    bit_ext narrow_patterns (ones_in (bit_and x y)) (bit_and (ones_in x) (ones_in y)) (ones_lt (bit_and x y)) (lt_of_le_of_lt (and_le_l (ones_in x) (ones_in y)) (ones_lt x))
    (λ p l. ones_at_lem (bit_and x y) p l ∙ bit_and_lem x y (seat p) ∙ ap₂ bit_and (sym (ones_at_lem x p l)) (sym (ones_at_lem y p l)) ∙ sym (bit_and_lem (ones_in x) (ones_in y) p))
