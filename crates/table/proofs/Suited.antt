-- What a projection leaves for the halves of a table: a table suits where its halves do.
use Prim.Native.Nat.{ℕ, suc, ◌+◌, ◌*◌, ◌^◌, ◌-◌, ◌<◌}
use mathlib.Core.Path.{◌≡◌}
use mathlib.Core.Logic.{⊎_elim}
use mathlib.Core.Bool.{◌&&◌}
use native.Mathlib.Omega.{arith}
use lib.Dec.{T, ltb, ltb→lt, nltb→le}
use Rattle.base.proofs.Tests.{and_intro, and_left, and_right, decide}
use Rattle.table.specs.Bits.{bit}
use Rattle.table.specs.Cells.{low, high}
use Rattle.table.specs.Pick.{Proj, suits}
use Rattle.table.proofs.Below.{all_at, all_intro}
use Rattle.table.proofs.Halves.{low_bit, high_bit, join, join_low, join_high}

-- the projection where the first input is 1, and what both halves have
unfoldable pub upper : ℕ → Proj → Proj
upper r P p b = P (p + 1 * 2 ^ r) b

unfoldable pub common : ℕ → Proj → Proj
common r P p b = P p b && P (p + 1 * 2 ^ r) b

-- a table suits where its halves do
module _ (r : ℕ) (P : Proj) (t : ℕ) where
  pub suits_low : T (suits (suc r) P t) → T (suits r P (low r t))
  unfolding suits
  suits_low s =
      all_intro (2 ^ r) (λ p. P p (bit (low r t) p))
      (λ p l. rw (low_bit r t p l) (all_at (2 ^ suc r) (λ p. P p (bit t p)) s p (omega arith)))

  pub suits_high : T (suits (suc r) P t) → T (suits r (upper r P) (high r t))
  unfolding suits upper
  suits_high s =
      all_intro (2 ^ r) (λ p. P (p + 1 * 2 ^ r) (bit (high r t) p))
      (λ p l. rw (high_bit r t p) (all_at (2 ^ suc r) (λ p. P p (bit t p)) s (p + 1 * 2 ^ r) (omega arith)))

  pub suits_both : T (suits r P (low r t)) → T (suits r (upper r P) (high r t)) → T (suits (suc r) P t)
  unfolding suits upper
  suits_both a b =
      all_intro (2 ^ suc r) (λ p. P p (bit t p))
      (λ p l.
      ⊎_elim (λ h. let g = ltb→lt p (2 ^ r) h in rw (low_bit r t p g) at (all_at (2 ^ r) (λ p. P p (bit (low r t) p)) a p g))
      (λ h.
      let g = nltb→le p (2 ^ r) h in
      let e : p - 2 ^ r + 1 * 2 ^ r ≡ p = omega arith in
      rw (high_bit r t (p - 2 ^ r), e) at (all_at (2 ^ r) (λ p. P (p + 1 * 2 ^ r) (bit (high r t) p)) b (p - 2 ^ r) (omega arith)))
      (decide (ltb p (2 ^ r))))

pub suits_common : (r : ℕ) (P : Proj) (t : ℕ) → T (suits r P t) → T (suits r (upper r P) t) → T (suits r (common r P) t)
unfolding suits upper common
suits_common r P t a b =
    all_intro (2 ^ r) (λ p. P p (bit t p) && P (p + 1 * 2 ^ r) (bit t p))
    (λ p l. and_intro (P p (bit t p)) (P (p + 1 * 2 ^ r) (bit t p)) (all_at (2 ^ r) (λ p. P p (bit t p)) a p l)
    (all_at (2 ^ r) (λ p. P (p + 1 * 2 ^ r) (bit t p)) b p l))

pub common_suits : (r : ℕ) (P : Proj) (t : ℕ) → T (suits r (common r P) t) → T (suits r P t) × T (suits r (upper r P) t)
unfolding suits upper common
common_suits r P t s =
    let f : (p : ℕ) → p < 2 ^ r → T (P p (bit t p) && P (p + 1 * 2 ^ r) (bit t p)) =
    all_at (2 ^ r) (λ p. P p (bit t p) && P (p + 1 * 2 ^ r) (bit t p)) s in (
      all_intro (2 ^ r) (λ p. P p (bit t p)) (λ p l. and_left (P p (bit t p)) (P (p + 1 * 2 ^ r) (bit t p)) (f p l)),
      all_intro (2 ^ r) (λ p. P (p + 1 * 2 ^ r) (bit t p)) (λ p l. and_right (P p (bit t p)) (P (p + 1 * 2 ^ r) (bit t p)) (f p l)),
    )

module _ (r : ℕ) (P : Proj) where
  pub join_suits : (h l : ℕ) → h < 2 ^ (2 ^ r) → l < 2 ^ (2 ^ r) → T (suits r (upper r P) h) → T (suits r P l) → T (suits (suc r) P (join r h l))
  join_suits h l lh ll a b = suits_both r P (join r h l) (rw (join_low r h l lh ll) b) (rw (join_high r h l lh ll) a)
