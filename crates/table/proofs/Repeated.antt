-- Masks repeated over one input more cover every pattern where the masks do, and have the pick repeated, by any count that goes by halves.
use Prim.Native.Nat.{ℕ, suc, ◌+◌, ◌*◌, ◌-◌, ◌^◌, ◌<◌, ◌≤◌}
use mathlib.Core.Path.{◌≡◌, sym, ap, subst, ◌∙◌}
use mathlib.Core.Logic.{⊎_elim}
use mathlib.Core.Option.{some}
use native.Mathlib.Omega.{arith}
use lib.Dec.{T, ltb, ltb→lt, nltb→le}
use Rattle.base.proofs.Tests.{decide}
use Rattle.table.specs.Bits.{bit}
use Rattle.table.specs.Cells.{low, high}
use Rattle.table.specs.Pick.{Proj, suits, or_zero, least_of}
use Rattle.table.specs.Inner.Blocks.{Covered}
use Rattle.table.specs.Inner.Ranks.{masked, pick_of}
use Rattle.table.proofs.Below.{all_cong}
use Rattle.table.proofs.Halves.{low_lt, low_bit, high_bit, join, join_low, join_high, join_lt, join_halves, join_le}
use Rattle.table.proofs.Cells.{ByHalves, counted_twice}
use Rattle.table.proofs.Suited.{upper, suits_low, join_suits}
use Rattle.table.proofs.Least.{Least, least_is, least_eq}
use Rattle.table.proofs.Masks.{mask_cong, pick_some}

-- the bits of a number twice
module _ (r x p : ℕ) (l : x < 2 ^ (2 ^ r)) where
  low_is : p < 2 ^ r → bit (join r x x) p ≡ bit x p
  low_is b = sym (low_bit r (join r x x) p b) ∙ ap (λ y. bit y p) (join_low r x x l l)

  high_is : bit (join r x x) (p + 1 * 2 ^ r) ≡ bit x p
  high_is = sym (high_bit r (join r x x) p) ∙ ap (λ y. bit y p) (join_high r x x l l)

module _ (r zeros ones : ℕ) (lz : zeros < 2 ^ (2 ^ r)) (lo : ones < 2 ^ (2 ^ r)) where
  abbrev P : Proj
  P = masked zeros ones

  abbrev Q : Proj
  Q = masked (join r zeros zeros) (join r ones ones)

  -- covering masks repeated cover every pattern
  pub covered_twice : Covered r zeros ones → Covered (suc r) (join r zeros zeros) (join r ones ones)
  covered_twice h p l =
      ⊎_elim (λ c. let b = ltb→lt p (2 ^ r) c in omega (arith, low_is r zeros p lz b, low_is r ones p lo b, h p b))
      (λ c.
      let b = nltb→le p (2 ^ r) c in
      let q = p - 2 ^ r in
      let e : q + 1 * 2 ^ r ≡ p = omega arith in
      let x = high_is r zeros q lz in
      let y = high_is r ones q lo in
      omega (arith, rw e at x, rw e at y, h q (omega arith))) (decide (ltb p (2 ^ r)))

  -- a table suits either half of the repeated masks where it suits the masks
  suits_first : (x : ℕ) → suits r Q x ≡ suits r P x
  unfolding suits
  suits_first x =
      all_cong (2 ^ r) (λ p. Q p (bit x p)) (λ p. P p (bit x p))
      (λ p l. mask_cong (join r zeros zeros) (join r ones ones) zeros ones p p (bit x p) (low_is r zeros p lz l) (low_is r ones p lo l))

  suits_second : (x : ℕ) → suits r (upper r Q) x ≡ suits r P x
  unfolding suits upper
  suits_second x =
      all_cong (2 ^ r) (λ p. Q (p + 1 * 2 ^ r) (bit x p)) (λ p. P p (bit x p))
      (λ p l. mask_cong (join r zeros zeros) (join r ones ones) zeros ones (p + 1 * 2 ^ r) p (bit x p) (high_is r zeros p lz) (high_is r ones p lo))

  module _ (count : ℕ → ℕ → ℕ) (by : ByHalves count) where
    -- the least table between the masks, twice, is the least between the repeated masks
    twice_least : (t : ℕ) → Least (count r) (suits r P) (2 ^ (2 ^ r)) (some t)
        → Least (count (suc r)) (suits (suc r) Q) (2 ^ (2 ^ suc r)) (some (join r t t))
    twice_least t h =
        let l = h.0 in
        let c = counted_twice count by r t l in
        let fits : (x : ℕ) → T (suits (suc r) Q x) → T (suits r P (low r x)) = λ x f. rw (suits_first (low r x)) at (suits_low r Q x f) in
        let more : (x : ℕ) → T (suits (suc r) Q x) → count r t ≤ count r (low r x) = λ x f. h.2 (low r x) (low_lt r x) (fits x f) in (
          join_lt r t t l l,
          join_suits r Q t t l l (rw (suits_second t) h.1) (rw (suits_first t) h.1),
          λ x b f. omega (arith, c, more x f, by.fewer r x),
          λ x b f g.
              let m = h.3 (low r x) (low_lt r x) (fits x f) (omega (arith, c, g, by.fewer r x)) in
              let u = by.smaller r x (omega (arith, c, g, more x f)) in
              subst (λ z. join r t t ≤ z) (sym (join_halves r x)) (join_le r t t (high r x) (low r x) (omega arith) m),
        )

    pub least_repeated : (t : ℕ) → least_of (count r) r P ≡ some t → least_of (count (suc r)) (suc r) Q ≡ some (join r t t)
    unfolding least_of
    least_repeated t e =
        let k = 2 ^ (2 ^ r) in
        let m = 2 ^ (2 ^ suc r) in
        least_eq (count (suc r)) (suits (suc r) Q) m (least_of (count (suc r)) (suc r) Q) (join r t t) (least_is (count (suc r)) (suits (suc r) Q) m)
        (twice_least t (subst (Least (count r) (suits r P) k) e (least_is (count r) (suits r P) k)))

    -- and so the pick
    pub pick_twice : Covered r zeros ones
        → pick_of (count (suc r)) (suc r) (join r zeros zeros) (join r ones ones) ≡ join r (pick_of (count r) r zeros ones) (pick_of (count r) r zeros ones)
    unfolding pick_of or_zero
    pick_twice h = ap or_zero (least_repeated (pick_of (count r) r zeros ones) (pick_some (count r) r zeros ones h))
