-- The projection that two masks tell, by its halves.
use Prim.Native.Nat.{ℕ, suc, ◌+◌, ◌*◌, ◌^◌, ◌<◌, ◌≤◌}
use mathlib.Core.Path.{◌≡◌, refl, sym, ap, ap₂, subst, ◌∙◌, fun_ext}
use mathlib.Core.Logic.{◌⊎◌, inl, inr, ⊎_elim}
use mathlib.Core.Bool.{Bool, true, false, cond, ◌&&◌}
use mathlib.Core.Option.{Option, none, some}
use native.Mathlib.Omega.{arith}
use lib.Bits.{bit_and}
use lib.Dec.{T, T_not, eqb, eqb→eq}
use Rattle.base.proofs.Tests.{cond_has, and_intro, and_left, and_right, eq_test, test_ext}
use Rattle.table.specs.Bits.{bit, all, of_bits}
use Rattle.table.specs.Cells.{low, high, full}
use Rattle.table.specs.Pick.{Proj, suits, least, or_zero, least_of}
use Rattle.table.specs.Inner.Ranks.{masked, pick_of}
use Rattle.table.specs.Inner.Blocks.{Covered}
use Rattle.table.specs.Inner.Lines.{line}
use Rattle.table.proofs.Below.{all_cong, all_intro, all_at}
use Rattle.table.proofs.Bits.{of_bits_lt, bit_of_bits, bit_lt, bit_cases, bit_ext, zero_bit, test_and}
use Rattle.table.proofs.Halves.{low_lt, high_lt, low_bit, high_bit}
use Rattle.table.proofs.Wired.{full_lt, full_bit, line_low, line_high}
use Rattle.table.proofs.Least.{Least, least_is, least_eq}
use Rattle.table.proofs.Suited.{upper, common, suits_low, suits_high, suits_both}

-- only the patterns and bits there are count
pub least_cong : (key : ℕ → ℕ) (n : ℕ) (P Q : Proj) → ((p b : ℕ) → p < 2 ^ n → b < 2 → P p b ≡ Q p b) → least_of key n P ≡ least_of key n Q
unfolding least_of suits
least_cong key n P Q h =
    ap (λ f. least key f (2 ^ (2 ^ n)))
    (fun_ext (λ t. all_cong (2 ^ n) (λ p. P p (bit t p)) (λ p. Q p (bit t p)) (λ p l. h p (bit t p) l (bit_lt t p))))

-- the least over more tables that still suits is the least over fewer
pub least_shrink : (key : ℕ → ℕ) (n : ℕ) (P Q : Proj) (t : ℕ) → ((p b : ℕ) → p < 2 ^ n → b < 2 → T (Q p b) → T (P p b)) → least_of key n P ≡ some t
    → T (suits n Q t) → least_of key n Q ≡ some t
unfolding least_of suits
least_shrink key n P Q t sub e s =
    let k = 2 ^ (2 ^ n) in
    let a : Least key (suits n P) k (some t) = subst (Least key (suits n P) k) e (least_is key (suits n P) k) in
    let up : (r : ℕ) → T (suits n Q r) → T (suits n P r) =
    λ r q. all_intro (2 ^ n) (λ p. P p (bit r p)) (λ p l. sub p (bit r p) l (bit_lt r p) (all_at (2 ^ n) (λ p. Q p (bit r p)) q p l)) in
    least_eq key (suits n Q) k (least key (suits n Q) k) t (least_is key (suits n Q) k)
    (a.0, s, λ r l q. a.2 r l (up r q), λ r l q w. a.3 r l (up r q) w)

-- where 0 or 1 occurs on every pattern some table suits, and so there is a least one
pub some_suits : (n : ℕ) (P : Proj) → ((p : ℕ) → p < 2 ^ n → T (P p 0) ⊎ T (P p 1)) → (t : ℕ) × (t < 2 ^ (2 ^ n)) × T (suits n P t)
unfolding suits
some_suits n P h =
    let f : ℕ → ℕ = λ p. cond (P p 0) 0 1 in
    let small : (p : ℕ) → p < 2 ^ n → f p < 2 = λ p l. cond_has (λ x. x < 2) (P p 0) (λ t. omega arith) (λ t. omega arith) in
    let t = of_bits (2 ^ n) f in (
      t,
      of_bits_lt f (2 ^ n) small,
      all_intro (2 ^ n) (λ p. P p (bit t p))
          (λ p l. rw (bit_of_bits f (2 ^ n) small p l)
          (cond_has (λ x. T (P p x)) (P p 0) (λ t. t) (λ t. ⊎_elim (λ z. absurd (T_not (P p 0) t z)) (λ o. o) (h p l)))),
    )

pub least_some : (key : ℕ → ℕ) (n : ℕ) (P : Proj) → ((p : ℕ) → p < 2 ^ n → T (P p 0) ⊎ T (P p 1)) → least_of key n P ≡ some (or_zero (least_of key n P))
unfolding least_of or_zero
least_some key n P h =
    let s = some_suits n P h in go (least key (suits n P) (2 ^ (2 ^ n))) (least_is key (suits n P) (2 ^ (2 ^ n))) s.0 s.1 s.2
  where
    go : (o : Option ℕ) → Least key (suits n P) (2 ^ (2 ^ n)) o → (t : ℕ) → t < 2 ^ (2 ^ n) → T (suits n P t) → o ≡ some (or_zero o)
    go none g t l s = absurd (g t l s)
    go (some r) g t l s = refl

pub masked_has : (zeros ones p : ℕ) → 1 ≤ bit zeros p + bit ones p → T (masked zeros ones p 0) ⊎ T (masked zeros ones p 1)
unfolding masked
masked_has zeros ones p h =
    ⊎_elim (λ z. inr (eq_test (one z))) (λ o. inl (eq_test o)) (bit_cases zeros p)
  where
    one : bit zeros p ≡ 0 → bit ones p ≡ 1
    one z = omega (arith, bit_lt ones p)

-- covered masks have a pick
pub pick_some : (key : ℕ → ℕ) (n zeros ones : ℕ) → Covered n zeros ones → least_of key n (masked zeros ones) ≡ some (pick_of key n zeros ones)
unfolding pick_of
pick_some key n zeros ones h = least_some key n (masked zeros ones) (λ p l. masked_has zeros ones p (h p l))

-- and it is the least table between them
pub pick_of_least : (key : ℕ → ℕ) (n zeros ones : ℕ) → Covered n zeros ones
    → Least key (suits n (masked zeros ones)) (2 ^ (2 ^ n)) (some (pick_of key n zeros ones))
unfolding least_of
pick_of_least key n zeros ones h =
    subst (Least key (suits n (masked zeros ones)) (2 ^ (2 ^ n))) (pick_some key n zeros ones h) (least_is key (suits n (masked zeros ones)) (2 ^ (2 ^ n)))

-- the projection tells the same where the masks have the same bits
pub mask_cong : (z o y n p q v : ℕ) → bit z p ≡ bit y q → bit o p ≡ bit n q → masked z o p v ≡ masked y n q v
unfolding masked
mask_cong z o y n p q v e d = go (eqb v 0)
  where
    go : (c : Bool) → eqb (bit (cond c z o) p) 1 ≡ eqb (bit (cond c y n) q) 1
    go true = ap (λ x. eqb x 1) e
    go false = ap (λ x. eqb x 1) d

-- the halves of the projection are told by the halves of the masks
module _ (r zeros ones : ℕ) where
  masked_low : (p b : ℕ) → p < 2 ^ r → masked (low r zeros) (low r ones) p b ≡ masked zeros ones p b
  masked_low p b l = mask_cong (low r zeros) (low r ones) zeros ones p p b (low_bit r zeros p l) (low_bit r ones p l)

  masked_high : (p b : ℕ) → masked (high r zeros) (high r ones) p b ≡ upper r (masked zeros ones) p b
  unfolding upper
  masked_high p b = mask_cong (high r zeros) (high r ones) zeros ones p (p + 1 * 2 ^ r) b (high_bit r zeros p) (high_bit r ones p)

  masked_common : (p b : ℕ) → p < 2 ^ r
      → masked (bit_and (low r zeros) (high r zeros)) (bit_and (low r ones) (high r ones)) p b ≡ common r (masked zeros ones) p b
  unfolding masked common
  masked_common p b l = go (eqb b 0)
    where
      each : (x : ℕ) → eqb (bit (bit_and (low r x) (high r x)) p) 1 ≡ eqb (bit x p) 1 && eqb (bit x (p + 1 * 2 ^ r)) 1
      each x = test_and (low r x) (high r x) p ∙ ap₂ (λ y z. eqb y 1 && eqb z 1) (low_bit r x p l) (high_bit r x p)

      go : (c : Bool)
          → eqb (bit (cond c (bit_and (low r zeros) (high r zeros)) (bit_and (low r ones) (high r ones))) p) 1
          ≡ eqb (bit (cond c zeros ones) p) 1 && eqb (bit (cond c zeros ones) (p + 1 * 2 ^ r)) 1
      go true = each zeros
      go false = each ones

  module _ (key : ℕ → ℕ) where
    pub least_low : least_of key r (masked (low r zeros) (low r ones)) ≡ least_of key r (masked zeros ones)
    least_low = least_cong key r (masked (low r zeros) (low r ones)) (masked zeros ones) (λ p b l _. masked_low p b l)

    pub least_high : least_of key r (masked (high r zeros) (high r ones)) ≡ least_of key r (upper r (masked zeros ones))
    least_high = least_cong key r (masked (high r zeros) (high r ones)) (upper r (masked zeros ones)) (λ p b _ _. masked_high p b)

    pub least_common : least_of key r (masked (bit_and (low r zeros) (high r zeros)) (bit_and (low r ones) (high r ones)))
        ≡ least_of key r (common r (masked zeros ones))
    least_common =
        least_cong key r (masked (bit_and (low r zeros) (high r zeros)) (bit_and (low r ones) (high r ones))) (common r (masked zeros ones))
        (λ p b l _. masked_common p b l)

-- A constant suits where its mask is full, so the line of the first input suits where every pattern of the lower half can be 0 and of the upper half can be 1.
module _ (r zeros ones : ℕ) where
  zero_suits : suits r (masked zeros ones) 0 ≡ all (2 ^ r) (λ p. eqb (bit zeros p) 1)
  unfolding suits masked
  zero_suits =
      all_cong (2 ^ r) (λ p. masked zeros ones p (bit 0 p)) (λ p. eqb (bit zeros p) 1) (λ p _. ap (λ b. eqb (bit (cond (eqb b 0) zeros ones) p) 1) (zero_bit p))

  full_suits : suits r (masked zeros ones) (full r) ≡ all (2 ^ r) (λ p. eqb (bit ones p) 1)
  unfolding suits masked
  full_suits =
      all_cong (2 ^ r) (λ p. masked zeros ones p (bit (full r) p)) (λ p. eqb (bit ones p) 1)
      (λ p l. ap (λ b. eqb (bit (cond (eqb b 0) zeros ones) p) 1) (full_bit r p l))

all_full : (r x : ℕ) → x < 2 ^ (2 ^ r) → all (2 ^ r) (λ p. eqb (bit x p) 1) ≡ eqb x (full r)
all_full r x l =
    test_ext (all (2 ^ r) (λ p. eqb (bit x p) 1)) (eqb x (full r))
    (λ a. eq_test (bit_ext (2 ^ r) x (full r) l (full_lt r) (λ p b. eqb→eq (bit x p) 1 (all_at (2 ^ r) (λ p. eqb (bit x p) 1) a p b) ∙ sym (full_bit r p b))))
    (λ e. all_intro (2 ^ r) (λ p. eqb (bit x p) 1) (λ p b. eq_test (ap (λ y. bit y p) (eqb→eq x (full r) e) ∙ full_bit r p b)))

suits_cong : (r : ℕ) (Q P : Proj) (t : ℕ) → ((p b : ℕ) → p < 2 ^ r → Q p b ≡ P p b) → suits r P t ≡ suits r Q t
unfolding suits
suits_cong r Q P t h = all_cong (2 ^ r) (λ p. P p (bit t p)) (λ p. Q p (bit t p)) (λ p l. sym (h p (bit t p) l))

pub line_suits : (r zeros ones : ℕ) → ones < 2 ^ (2 ^ suc r)
    → suits (suc r) (masked zeros ones) (line r) ≡ eqb (low r zeros) (full r) && eqb (high r ones) (full r)
line_suits r zeros ones lo =
    let P = masked zeros ones in
    let a : suits r P 0 ≡ eqb (low r zeros) (full r) =
    suits_cong r (masked (low r zeros) (low r ones)) P 0 (λ p b l. masked_low r zeros ones p b l)
    ∙ zero_suits r (low r zeros) (low r ones) ∙ all_full r (low r zeros) (low_lt r zeros) in
    let b : suits r (upper r P) (full r) ≡ eqb (high r ones) (full r) =
    suits_cong r (masked (high r zeros) (high r ones)) (upper r P) (full r) (λ p b l. masked_high r zeros ones p b)
    ∙ full_suits r (high r zeros) (high r ones) ∙ all_full r (high r ones) (high_lt r ones lo) in
    test_ext (suits (suc r) P (line r)) (eqb (low r zeros) (full r) && eqb (high r ones) (full r))
    (λ s.
    and_intro (eqb (low r zeros) (full r)) (eqb (high r ones) (full r))
    (subst T (ap (suits r P) (line_low r) ∙ a) (suits_low r P (line r) s)) (subst T (ap (suits r (upper r P)) (line_high r) ∙ b) (suits_high r P (line r) s)))
    (λ t.
    suits_both r P (line r)
    (subst T (sym (ap (suits r P) (line_low r) ∙ a)) (and_left (eqb (low r zeros) (full r)) (eqb (high r ones) (full r)) t))
    (subst T (sym (ap (suits r (upper r P)) (line_high r) ∙ b)) (and_right (eqb (low r zeros) (full r)) (eqb (high r ones) (full r)) t)))
