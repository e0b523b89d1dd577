-- Laws of the value of a function, and of the tests: each decides what source 001 defines.
use Prim.Native.Nat.{ℕ, ◌*◌, ◌^◌, ◌<◌}
use mathlib.Core.Path.{◌≡◌, sym, ap, ◌∙◌}
use mathlib.Core.Logic.{◌⊎◌, inl, inr, ⊎_elim, ◌↔◌}
use mathlib.Core.Bool.{Bool, cond, not, ◌&&◌}
use native.Mathlib.Omega.{arith}
use lib.Dec.{T, T_not, eqb, eqb→eq}
use Rattle.base.specs.Lowest.{lowest}
use Rattle.base.proofs.Tests.{and_intro, and_left, and_right, cond_has, eq_test, not_not}
use Rattle.base.proofs.Lowest.{lowest_is, lowest_or}
use Rattle.table.specs.Bits.{bit, any, of_bits}
use Rattle.table.specs.Pick.{suits}
use Rattle.table.proofs.Bits.{all_at, all_intro, any_intro, any_at, sum_cong, bit_lt, bit_cases, of_bits_lt, bit_of_bits, bit_ext}
use Rattle.relation.specs.Source.{Rel, Tables, Compatible, value}
use Rattle.relation.specs.Inner.Source.{WellDefined, Projects, Open, fits}
use Rattle.relation.specs.Tests.{occurs, is_open, open_wire, compatible, conflict, empty_pattern}

-- tables and their value
module _ (m : ℕ) (X : Tables) (p : ℕ) where
  pub value_lt : value m X p < 2 ^ m
  unfolding value
  value_lt = of_bits_lt (λ j. bit (X j) p) m (λ i l. bit_lt (X i) p)

  pub value_bit : (j : ℕ) → j < m → bit (value m X p) j ≡ bit (X j) p
  unfolding value
  value_bit j l = bit_of_bits (λ j. bit (X j) p) m (λ i l. bit_lt (X i) p) j l

  pub value_is : (v : ℕ) → v < 2 ^ m → ((j : ℕ) → j < m → bit v j ≡ bit (X j) p) → value m X p ≡ v
  value_is v h e = bit_ext m (value m X p) v value_lt h (λ i l. value_bit i l ∙ sym (e i l))

pub value_cong : (m : ℕ) (X Y : Tables) (p : ℕ) → ((j : ℕ) → j < m → X j ≡ Y j) → value m X p ≡ value m Y p
unfolding value of_bits
value_cong m X Y p h = sum_cong m (λ j. bit (X j) p * 2 ^ j) (λ j. bit (Y j) p * 2 ^ j) (λ j l. ap (λ t. bit t p * 2 ^ j) (h j l))

-- the projection
module _ (m : ℕ) (S : ℕ → Bool) (j b : ℕ) where
  pub occurs_intro : (v : ℕ) → v < 2 ^ m → T (S v) → bit v j ≡ b → T (occurs m S j b)
  unfolding occurs
  occurs_intro v l s e = any_intro (2 ^ m) (λ v. S v && eqb (bit v j) b) v l (and_intro (S v) (eqb (bit v j) b) s (eq_test e))

  pub occurs_at : T (occurs m S j b) → (v : ℕ) × (v < 2 ^ m) × T (S v) × (bit v j ≡ b)
  unfolding occurs
  occurs_at t =
      let r = any_at (2 ^ m) (λ v. S v && eqb (bit v j) b) t in
      (r.0, r.1, and_left (S r.0) (eqb (bit r.0 j) b) r.2, eqb→eq (bit r.0 j) b (and_right (S r.0) (eqb (bit r.0 j) b) r.2))

module _ (n m : ℕ) (R : Rel) where
  pub compatible_fits : (X : Tables) → Compatible n m R X → (j : ℕ) → j < m → T (fits n m R j (X j))
  unfolding fits suits
  compatible_fits X c j l =
      all_intro (2 ^ n) (λ p. occurs m (R p) j (bit (X j) p))
      (λ p h. occurs_intro m (R p) j (bit (X j) p) (value m X p) (value_lt m X p) (c p h) (value_bit m X p j l))

  pub fits_at : (j t : ℕ) → T (fits n m R j t) → (p : ℕ) → p < 2 ^ n → T (occurs m (R p) j (bit t p))
  unfolding fits suits
  fits_at j t h p l = all_at (2 ^ n) (λ p. occurs m (R p) j (bit t p)) h p l

  -- in a relation with no empty set some table fits each wire
  pub some_fits : WellDefined n m R → (j : ℕ) → (t : ℕ) × (t < 2 ^ (2 ^ n)) × T (fits n m R j t)
  unfolding fits suits
  some_fits ne j =
      let f : ℕ → ℕ = λ p. cond (occurs m (R p) j 0) 0 1 in
      let small : (p : ℕ) → p < 2 ^ n → f p < 2 =
      λ p l. cond_has (λ x. x < 2) (occurs m (R p) j 0) (λ t. omega arith) (λ t. omega arith) in
      let t = of_bits (2 ^ n) f in (
        t,
        of_bits_lt f (2 ^ n) small,
        all_intro (2 ^ n) (λ p. occurs m (R p) j (bit t p))
            (λ p l. rw (bit_of_bits f (2 ^ n) small p l) (cond_has (λ x. T (occurs m (R p) j x)) (occurs m (R p) j 0) (λ t. t) (λ t. one p l t))),
      )
    where
      one : (p : ℕ) → p < 2 ^ n → T (not (occurs m (R p) j 0)) → T (occurs m (R p) j 1)
      one p l t =
          let w = ne p l in
          ⊎_elim (λ e. absurd (T_not (occurs m (R p) j 0) t (occurs_intro m (R p) j 0 w.0 w.1 w.2 e)))
          (λ e. occurs_intro m (R p) j 1 w.0 w.1 w.2 e)
          (bit_cases w.0 j)

pub free_both : (m : ℕ) (S : ℕ → Bool) (j : ℕ) → T (is_open m S j) → T (occurs m S j 0) × T (occurs m S j 1)
unfolding is_open
free_both m S j t = (and_left (occurs m S j 0) (occurs m S j 1) t, and_right (occurs m S j 0) (occurs m S j 1) t)

-- on a wire that is not free all values of a set have the bit that occurs
same_bit_lem : (m : ℕ) (S : ℕ → Bool) (j v b : ℕ) → (b ≡ 0) ⊎ (b ≡ 1) → v < 2 ^ m → T (S v) → T (occurs m S j b) → T (not (is_open m S j)) → bit v j ≡ b
unfolding is_open
same_bit_lem m S j v b (inl e) l s o f =
    ⊎_elim (λ d. d ∙ sym e)
    (λ d. absurd (T_not (is_open m S j) f (and_intro (occurs m S j 0) (occurs m S j 1) (rw e at o) (occurs_intro m S j 1 v l s d))))
    (bit_cases v j)
same_bit_lem m S j v b (inr e) l s o f =
    ⊎_elim
    (λ d. absurd (T_not (is_open m S j) f (and_intro (occurs m S j 0) (occurs m S j 1) (occurs_intro m S j 0 v l s d) (rw e at o))))
    (λ d. d ∙ sym e)
    (bit_cases v j)

-- the test of compatibility, and its lowest failure
module _ (n m : ℕ) (R : Rel) (X : Tables) where
  pub compatible_at : T (compatible n m R X) → Compatible n m R X
  unfolding compatible
  compatible_at t = all_at (2 ^ n) (λ p. R p (value m X p)) t

  pub compatible_test : Compatible n m R X → T (compatible n m R X)
  unfolding compatible
  compatible_test c = all_intro (2 ^ n) (λ p. R p (value m X p)) c

  pub conflict_is : T (not (compatible n m R X)) → (conflict n m R X < 2 ^ n) × T (not (R (conflict n m R X) (value m X (conflict n m R X))))
  unfolding conflict
  conflict_is t =
      let f : ℕ → Bool = λ p. not (R p (value m X p)) in
      let l : lowest (2 ^ n) f < 2 ^ n =
      ⊎_elim (λ y. y)
      (λ h. absurd (T_not (compatible n m R X) t (compatible_test (λ p l. not_not (R p (value m X p)) (h p l)))))
      (lowest_or (2 ^ n) f) in
      (l, lowest_is (2 ^ n) f l)

  -- where tables that fit each wire conflict, some wire is open
  pub open_wire_is : WellDefined n m R → ((j : ℕ) → j < m → T (fits n m R j (X j))) → (p : ℕ) → p < 2 ^ n → T (not (R p (value m X p)))
      → (open_wire m (R p) < m) × T (is_open m (R p) (open_wire m (R p)))
  unfolding open_wire
  open_wire_is ne ft p l t =
      let w = ne p l in
      let h : lowest m (is_open m (R p)) < m =
      ⊎_elim (λ y. y)
      (λ z. absurd
      (T_not (R p (value m X p)) t
      (rw (value_is m X p w.0 w.1
      (λ j lj. same_bit_lem m (R p) j w.0 (bit (X j) p) (bit_cases (X j) p) w.1 w.2
      (fits_at n m R j (X j) (ft j lj) p l) (z j lj)))
      w.2)))
      (lowest_or m (is_open m (R p))) in
      (h, lowest_is m (is_open m (R p)) h)

-- the tests decide the definitions
pub projects_test : (m : ℕ) (R : Rel) (j p b : ℕ) → Projects m R j p b ↔ T (occurs m (R p) j b)
projects_test m R j p b = (λ w. occurs_intro m (R p) j b w.0 w.1 w.2 w.3, occurs_at m (R p) j b)

pub open_test : (m : ℕ) (R : Rel) (p j : ℕ) → Open m R p j ↔ T (is_open m (R p) j)
unfolding is_open
open_test m R p j = (
  λ w. and_intro (occurs m (R p) j 0) (occurs m (R p) j 1) ((projects_test m R j p 0).0 w.0) ((projects_test m R j p 1).0 w.1),
  λ t. ((projects_test m R j p 0).1 (free_both m (R p) j t).0, (projects_test m R j p 1).1 (free_both m (R p) j t).1),
)

pub compatible_decides : (n m : ℕ) (R : Rel) (X : Tables) → Compatible n m R X ↔ T (compatible n m R X)
compatible_decides n m R X = (compatible_test n m R X, compatible_at n m R X)

-- no pattern is empty, or the lowest empty one is found
pub well_defined_or : (n m : ℕ) (R : Rel) → WellDefined n m R ⊎ (empty_pattern n m R < 2 ^ n)
unfolding empty_pattern
well_defined_or n m R =
    ⊎_elim (λ l. inr l) (λ h. inl (λ p l. any_at (2 ^ m) (R p) (not_not (any (2 ^ m) (R p)) (h p l))))
    (lowest_or (2 ^ n) (λ p. not (any (2 ^ m) (R p))))

-- a relation with an empty pattern is not well defined, and has no compatible function
pub empty_not : (n m : ℕ) (R : Rel) → empty_pattern n m R < 2 ^ n → WellDefined n m R → ⊥
unfolding empty_pattern
empty_not n m R l w =
    let f : ℕ → Bool = λ p. not (any (2 ^ m) (R p)) in
    let p = lowest (2 ^ n) f in
    let u = w p l in
    T_not (any (2 ^ m) (R p)) (lowest_is (2 ^ n) f l) (any_intro (2 ^ m) (R p) u.0 u.1 u.2)

pub compatible_well_defined : (n m : ℕ) (R : Rel) (X : Tables) → Compatible n m R X → WellDefined n m R
compatible_well_defined n m R X c p l = (value m X p, value_lt m X p, c p l)
