-- A pair restricted, bit by bit: a restricted byte is a byte of the restricted pair, and what two restricted bytes have in common is restricted too.
use Prim.Native.Nat.{ℕ, zero, suc, ◌+◌, ◌*◌, ◌^◌, ◌/◌, ◌%◌, ◌<◌}
use mathlib.Core.Path.{◌≡◌, refl, sym, ap, ap₂, subst, ◌∙◌}
use mathlib.Core.Logic.{◌⊎◌, inl, inr}
use mathlib.Core.Bool.{Bool, true, false, ◌&&◌, ◌||◌}
use mathlib.Core.List.{List, [], ◌∷◌}
use native.Mathlib.Omega.{arith}
use lib.Bits.{bit_and, bit_or, or_shr, or_mod, and_mod}
use lib.Dec.{T, eqb, ltb, ltb→lt, eqb→eq}
use Rattle.base.proofs.Tests.{and_left, and_right, eq_test}
use Rattle.table.specs.Bits.{bit, all}
use Rattle.table.specs.Inner.Pairs.{byte_bits, pair_bits}
use Rattle.table.specs.Inner.Blocks.{entries}
use Rattle.table.proofs.Below.{all_at}
use Rattle.table.proofs.Bits.{bit_mod, bit_div, bit_ext, bit_cases, test_and}
use Rattle.nodes.specs.Inner.Ways.{together, quarter_bytes, from_below, not_odd_zeros, no_inverted}
use Rattle.nodes.proofs.Quarters.{below4}

-- a bit is set
abbrev on : ℕ → ℕ → Bool
on x p = eqb (bit x p) 1

on_or : (a b p : ℕ) → on (bit_or a b) p ≡ on a p || on b p
unfolding bit
on_or a b p = ap (λ x. eqb (x % 2) 1) (or_shr a b p) ∙ ap (λ x. eqb x 1) (or_mod (a / 2 ^ p) (b / 2 ^ p) 1) ∙ go (bit a p) (bit b p) (bit_cases a p) (bit_cases b p)
  where
    go : (x y : ℕ) → (x ≡ 0) ⊎ (x ≡ 1) → (y ≡ 0) ⊎ (y ≡ 1) → eqb (bit_or x y) 1 ≡ eqb x 1 || eqb y 1
    go x y (inl e) (inl d) = rw (e, d)
    go x y (inl e) (inr d) = rw (e, d)
    go x y (inr e) (inl d) = rw (e, d)
    go x y (inr e) (inr d) = rw (e, d)

-- bytes are equal by which of their bits are set
on_ext : (x y : ℕ) → ((p : ℕ) → p < byte_bits → on x p ≡ on y p) → x % entries ≡ y % entries
on_ext x y h =
    bit_ext byte_bits (x % entries) (y % entries) (omega arith) (omega arith)
    (λ p l. bit_mod x {k = byte_bits} l ∙ go (bit x p) (bit y p) (bit_cases x p) (bit_cases y p) (h p l) ∙ sym (bit_mod y {k = byte_bits} l))
  where
    go : (a b : ℕ) → (a ≡ 0) ⊎ (a ≡ 1) → (b ≡ 0) ⊎ (b ≡ 1) → eqb a 1 ≡ eqb b 1 → a ≡ b
    go a b (inl e) (inl d) g = e ∙ sym d
    go a b (inl e) (inr d) g = eqb→eq a 1 (subst T (sym g) (eq_test d)) ∙ sym d
    go a b (inr e) (inl d) g = e ∙ sym (eqb→eq b 1 (subst T g (eq_test e)))
    go a b (inr e) (inr d) g = e ∙ sym d

-- the bit below
under : ℕ → ℕ → Bool
under x zero = false
under x (suc p) = on x p

even : (x : ℕ) → bit (x * 2) 0 ≡ 0
unfolding bit
even x = omega arith

on_below : (x p : ℕ) → p < pair_bits → on (from_below x) p ≡ under x p
unfolding under
on_below x zero l = ap (λ y. eqb y 1) (bit_mod (x * 2) {k = pair_bits} l ∙ even x)
on_below x (suc p) l =
    let e : x * 2 / 2 ≡ x = omega arith in
    let d : suc p ≡ 1 + p = omega arith in
    ap (λ y. eqb y 1) (bit_mod (x * 2) {k = pair_bits} l ∙ ap (bit (x * 2)) d ∙ sym (bit_div (x * 2) 1 p) ∙ ap (λ y. bit y p) e)

under_and : (x y p : ℕ) → under (bit_and x y) p ≡ under x p && under y p
unfolding under
under_and x y zero = refl
under_and x y (suc p) = test_and x y p

-- byte j of a number
bytes_on : (w j p : ℕ) → j < 4 → on (quarter_bytes w j) p ≡ on w (byte_bits * j + p)
bytes_on w j p l =
    ap (λ y. eqb y 1)
    (below4 (λ j. bit (quarter_bytes w j) p ≡ bit w (byte_bits * j + p)) (ap (bit w) (omega arith)) (bit_div w 8 p) (bit_div w 16 p) (bit_div w 24 p) j l)

in_byte : (w j p : ℕ) → j < 4 → p < byte_bits → on (quarter_bytes w j % entries) p ≡ on w (byte_bits * j + p)
in_byte w j p lj l = ap (λ y. eqb y 1) (bit_mod (quarter_bytes w j) {k = byte_bits} l) ∙ bytes_on w j p lj

-- the bits of `not_odd_zeros` are the same in every byte, and the lowest is set: so a byte needs no bit of the byte below it
free_alike : (j p : ℕ) → j < 4 → p < byte_bits → on not_odd_zeros (byte_bits * j + p) ≡ on not_odd_zeros p
unfolding all bit
free_alike j p lj l =
    ap (λ y. eqb y 1)
    (eqb→eq (bit not_odd_zeros (byte_bits * j + p)) (bit not_odd_zeros p)
    (all_at byte_bits (λ p. eqb (bit not_odd_zeros (byte_bits * j + p)) (bit not_odd_zeros p))
    (all_at 4 (λ j. all byte_bits (λ p. eqb (bit not_odd_zeros (byte_bits * j + p)) (bit not_odd_zeros p))) tt j lj) p l))

-- a list of quarters
unfoldable pub in_four : List ℕ → Bool
in_four [] = true
in_four (j ∷ js) = ltb j 4 && in_four js

swapped : (a b c d : Bool) → (a && b) && (c && d) ≡ (a && c) && (b && d)
swapped true true c d = refl
swapped true false true d = refl
swapped true false false d = refl
swapped false b c d = refl

shared_or : (a b c : Bool) → (a && b) || c ≡ (a || c) && (b || c)
shared_or true b c = refl
shared_or false true true = refl
shared_or false true false = refl
shared_or false false true = refl
shared_or false false false = refl

or_true : (a : Bool) → a || true ≡ true
or_true true = refl
or_true false = refl

-- a bit is kept where the one below it is set, or where it is free
abbrev keeps : ℕ → ℕ → Bool
keeps x p = under x p || on not_odd_zeros p

cut_on : (x p : ℕ) → p < pair_bits → on (no_inverted x) p ≡ on x p && keeps x p
cut_on x p l =
    test_and x (bit_or (from_below x) not_odd_zeros) p
    ∙ ap (λ b. on x p && b) (on_or (from_below x) not_odd_zeros p ∙ ap (λ b. b || on not_odd_zeros p) (on_below x p l))

cut_and : (x y p : ℕ) → p < pair_bits → on (no_inverted (bit_and x y)) p ≡ on (no_inverted x) p && on (no_inverted y) p
cut_and x y p l =
    cut_on (bit_and x y) p l
    ∙ ap₂ (λ a b. a && b) (test_and x y p) (ap (λ b. b || on not_odd_zeros p) (under_and x y p) ∙ shared_or (under x p) (under y p) (on not_odd_zeros p))
    ∙ swapped (on x p) (on y p) (keeps x p) (keeps y p) ∙ sym (ap₂ (λ a b. a && b) (cut_on x p l) (cut_on y p l))

keeps_byte : (w j p : ℕ) → j < 4 → p < byte_bits → keeps w (byte_bits * j + p) ≡ keeps (quarter_bytes w j % entries) p
unfolding under bit
keeps_byte w j zero lj l =
    ap (λ b. under w (byte_bits * j + 0) || b) (free_alike j 0 lj l) ∙ or_true (under w (byte_bits * j + 0))
keeps_byte w j (suc p) lj l =
    let e : byte_bits * j + suc p ≡ suc (byte_bits * j + p) = omega arith in
    ap₂ (λ a b. a || b) (ap (under w) e ∙ sym (in_byte w j p lj (omega arith))) (free_alike j (suc p) lj l)

byte_cut : (w j : ℕ) → j < 4 → quarter_bytes (no_inverted w) j % entries ≡ no_inverted (quarter_bytes w j % entries) % entries
byte_cut w j lj =
    on_ext (quarter_bytes (no_inverted w) j) (no_inverted (quarter_bytes w j % entries))
    (λ p l.
    bytes_on (no_inverted w) j p lj ∙ cut_on w (byte_bits * j + p) (omega arith)
    ∙ ap₂ (λ a b. a && b) (sym (in_byte w j p lj l)) (keeps_byte w j p lj l) ∙ sym (cut_on (quarter_bytes w j % entries) p (omega arith)))

-- the bytes of a class
pub together_cut : (w j : ℕ) (js : List ℕ) → T (in_four (j ∷ js))
    → together (quarter_bytes (no_inverted w)) (j ∷ js) % entries ≡ no_inverted (together (quarter_bytes w) (j ∷ js) % entries) % entries
unfolding in_four
together_cut w j [] f = byte_cut w j (ltb→lt j 4 (and_left (ltb j 4) true f))
together_cut w j (k ∷ js) f =
    let a = together (quarter_bytes w) (k ∷ js) in
    let b = quarter_bytes w j in
    let x = no_inverted (a % entries) in
    let y = no_inverted (b % entries) in
    and_mod (together (quarter_bytes (no_inverted w)) (k ∷ js)) (quarter_bytes (no_inverted w) j) byte_bits
    ∙ ap₂ bit_and (together_cut w k js (and_right (ltb j 4) (in_four (k ∷ js)) f)) (byte_cut w j (ltb→lt j 4 (and_left (ltb j 4) (in_four (k ∷ js)) f)))
    ∙ sym (and_mod x y byte_bits)
    ∙ on_ext (bit_and x y) (no_inverted (bit_and (a % entries) (b % entries))) (λ p l. test_and x y p ∙ sym (cut_and (a % entries) (b % entries) p (omega arith)))
    ∙ ap (λ z. no_inverted z % entries) (sym (and_mod a b byte_bits))
