-- Laws of a split (source 001, definition 5.4): theorem 5.2, property 5.4, and the open pair that a split closes.
use Prim.Native.Nat.{ℕ, ◌*◌, ◌^◌, ◌<◌, ◌≤◌}
use mathlib.Core.Path.{◌≡◌, ap, subst, ◌∙◌}
use mathlib.Core.Logic.{◌⊎◌, inl, inr, ⊎_elim, ◌↔◌}
use mathlib.Core.Bool.{Bool, true, false, not, ◌||◌}
use native.Mathlib.Omega.{arith}
use lib.Dec.{T, T_not, eqb, eqb→eq, eqb_refl}
use Rattle.base.proofs.Tests.{and_intro, and_left, and_right, or_left, or_right, or_cases, decide, eq_test}
use Rattle.table.specs.Bits.{bit, sum, is_one}
use Rattle.table.proofs.Bits.{sum_le, sum_lt, sum_bound, bit_cases}
use Rattle.relation.specs.Source.{Rel, Tables, Compatible, value}
use Rattle.relation.specs.Inner.Source.{WellDefined, Part, StrictPart, Split, Open, fits}
use Rattle.relation.specs.Tests.{keep, agree, occurs, is_open, open_pairs}
use Rattle.table.proofs.BitColumns.{is_one_small}
use Rattle.relation.proofs.Decide.{value_bit, occurs_intro, occurs_at, fits_at, free_both}

-- a part of a split
module _ (R : Rel) (p j b : ℕ) where
  pub keep_part : Part (keep R p j b) R
  unfolding keep
  keep_part q v t = and_left (R q v) (not (eqb q p) || eqb (bit v j) b) t

  pub keep_bit : (v : ℕ) → T (keep R p j b p v) → bit v j ≡ b
  unfolding keep
  keep_bit v t =
      ⊎_elim (λ f. absurd (T_not (eqb p p) f (eqb_refl p))) (λ e. eqb→eq (bit v j) b e)
      (or_cases (not (eqb p p)) (eqb (bit v j) b) (and_right (R p v) (not (eqb p p) || eqb (bit v j) b) t))

  pub keep_intro : (q v : ℕ) → T (R q v) → (q ≡ p → bit v j ≡ b) → T (keep R p j b q v)
  unfolding keep
  keep_intro q v t h =
      and_intro (R q v) (not (eqb q p) || eqb (bit v j) b) t
      (⊎_elim (λ e. or_right (not (eqb q p)) (eqb (bit v j) b) (eq_test (h (eqb→eq q p e)))) (λ f. or_left (not (eqb q p)) (eqb (bit v j) b) f)
      (decide (eqb q p)))

  pub keep_well_defined : (n m : ℕ) → WellDefined n m R → T (occurs m (R p) j b) → WellDefined n m (keep R p j b)
  keep_well_defined n m ne o q l =
      let w = ne q l in
      let u = occurs_at m (R p) j b o in
      ⊎_elim
      (λ e. let e' = eqb→eq q p e in (u.0, u.1, keep_intro q u.0 (rw e' u.2) (λ _. u.3)))
      (λ f. (w.0, w.1, keep_intro q w.0 w.2 (λ e. absurd (T_not (eqb q p) f (eq_test e)))))
      (decide (eqb q p))

  pub keep_compatible : (n m : ℕ) (X : Tables) → Compatible n m R X → j < m → bit (X j) p ≡ b → Compatible n m (keep R p j b) X
  keep_compatible n m X c h e q l = keep_intro q (value m X q) (c q l) (λ d. value_bit m X q j h ∙ ap (bit (X j)) d ∙ e)

-- what occurs in a part occurs in the whole
pub occurs_part : (m : ℕ) (S Q : ℕ → Bool) (j b : ℕ) → ((v : ℕ) → T (S v) → T (Q v)) → T (occurs m S j b) → T (occurs m Q j b)
occurs_part m S Q j b h t = let u = occurs_at m S j b t in occurs_intro m Q j b u.0 u.1 (h u.0 u.2) u.3

pub is_one_le : (a b : Bool) → (T a → T b) → is_one a ≤ is_one b
unfolding is_one
is_one_le true true h = omega arith
is_one_le true false h = absurd (h tt)
is_one_le false true h = omega arith
is_one_le false false h = omega arith

pub is_one_lt : (a b : Bool) → (T a → ⊥) → T b → is_one a < is_one b
unfolding is_one
is_one_lt true b h t = absurd (h tt)
is_one_lt false true h t = omega arith
is_one_lt false false h t = absurd t

pub open_bound : (n m : ℕ) (R : Rel) → open_pairs n m R ≤ 2 ^ n * m
unfolding open_pairs
open_bound n m R =
    sum_bound (2 ^ n) m (λ p. sum m (λ j. is_one (is_open m (R p) j)))
    (λ p l. omega (arith, sum_bound m 1 (λ j. is_one (is_open m (R p) j)) (λ j h. is_one_small (is_open m (R p) j))))

pub free_part : (m : ℕ) (S Q : ℕ → Bool) (j : ℕ) → ((v : ℕ) → T (S v) → T (Q v)) → T (is_open m S j) → T (is_open m Q j)
unfolding is_open
free_part m S Q j h t =
    and_intro (occurs m Q j 0) (occurs m Q j 1) (occurs_part m S Q j 0 h (and_left (occurs m S j 0) (occurs m S j 1) t))
    (occurs_part m S Q j 1 h (and_right (occurs m S j 0) (occurs m S j 1) t))

-- a split closes a pair
module _ (n m : ℕ) (R : Rel) (p j b : ℕ) where
  shut : T (is_open m (keep R p j b p) j) → ⊥
  shut t =
      let o = free_both m (keep R p j b p) j t in
      let u = occurs_at m (keep R p j b p) j 0 o.0 in
      let w = occurs_at m (keep R p j b p) j 1 o.1 in
      omega (arith, keep_bit R p j b u.0 u.2, keep_bit R p j b w.0 w.2, u.3, w.3)

  less : (q i : ℕ) → is_one (is_open m (keep R p j b q) i) ≤ is_one (is_open m (R q) i)
  less q i =
      is_one_le (is_open m (keep R p j b q) i) (is_open m (R q) i) (free_part m (keep R p j b q) (R q) i (keep_part R p j b q))

  pub keep_closes : p < 2 ^ n → j < m → T (is_open m (R p) j) → open_pairs n m (keep R p j b) < open_pairs n m R
  unfolding open_pairs
  keep_closes hp hj t =
      sum_lt (2 ^ n) (λ q. sum m (λ i. is_one (is_open m (keep R p j b q) i))) (λ q. sum m (λ i. is_one (is_open m (R q) i)))
      (λ q l. sum_le m (λ i. is_one (is_open m (keep R p j b q) i)) (λ i. is_one (is_open m (R q) i)) (λ i h. less q i))
      p hp
      (sum_lt m (λ i. is_one (is_open m (keep R p j b p) i)) (λ i. is_one (is_open m (R p) i)) (λ i h. less p i) j hj
      (is_one_lt (is_open m (keep R p j b p) j) (is_open m (R p) j) shut t))

-- what is left once a wire has a table
module _ (R : Rel) (j t : ℕ) where
  pub agree_part : Part (agree R j t) R
  unfolding agree
  agree_part q v h = and_left (R q v) (eqb (bit v j) (bit t q)) h

  pub agree_bit : (q v : ℕ) → T (agree R j t q v) → bit v j ≡ bit t q
  unfolding agree
  agree_bit q v h = eqb→eq (bit v j) (bit t q) (and_right (R q v) (eqb (bit v j) (bit t q)) h)

  pub agree_well_defined : (n m : ℕ) → T (fits n m R j t) → WellDefined n m (agree R j t)
  unfolding agree
  agree_well_defined n m f q l =
      let u = occurs_at m (R q) j (bit t q) (fits_at n m R j t f q l) in
      (u.0, u.1, and_intro (R q u.0) (eqb (bit u.0 j) (bit t q)) u.2 (eq_test u.3))

-- the operation is definition 5.4's
pub keep_split : (R : Rel) (p j b : ℕ) → Split R p j b (keep R p j b)
keep_split R p j b q v = (
  λ t. (keep_part R p j b q v t, λ e. keep_bit R p j b v (subst (λ x. T (keep R p j b x v)) e t)),
  λ w. keep_intro R p j b q v w.0 w.1,
)

-- Theorem 5.2: a split at an open pair gives well-defined, strictly smaller relations
pub split_well_defined : (n m : ℕ) (R : Rel) (p j : ℕ) → WellDefined n m R → Open m R p j → WellDefined n m (keep R p j 0) × WellDefined n m (keep R p j 1)
split_well_defined n m R p j w o = (
  keep_well_defined R p j 0 n m w (occurs_intro m (R p) j 0 o.0.0 o.0.1 o.0.2 o.0.3),
  keep_well_defined R p j 1 n m w (occurs_intro m (R p) j 1 o.1.0 o.1.1 o.1.2 o.1.3),
)

pub split_strict : (n m : ℕ) (R : Rel) (p j : ℕ) → p < 2 ^ n → Open m R p j → StrictPart n m (keep R p j 0) R × StrictPart n m (keep R p j 1) R
split_strict n m R p j l o = (
  strict 0 o.1.0 o.1.1 o.1.2 (λ t. omega (arith, keep_bit R p j 0 o.1.0 t, o.1.3)),
  strict 1 o.0.0 o.0.1 o.0.2 (λ t. omega (arith, keep_bit R p j 1 o.0.0 t, o.0.3)),
)
  where
    strict : (b v : ℕ) → v < 2 ^ m → T (R p v) → (T (keep R p j b p v) → ⊥) → StrictPart n m (keep R p j b) R
    strict b v below here gone = record { part = keep_part R p j b; p = p; v = v; pattern = l; value = below; inside = here; outside = gone }

-- Property 5.4: the two keep every compatible function between them, and share none
pub split_keeps : (n m : ℕ) (R : Rel) (p j : ℕ) (X : Tables) → j < m
    → Compatible n m R X ↔ (Compatible n m (keep R p j 0) X ⊎ Compatible n m (keep R p j 1) X)
split_keeps n m R p j X lj = (
  λ c. ⊎_elim (λ e. inl (keep_compatible R p j 0 n m X c lj e)) (λ e. inr (keep_compatible R p j 1 n m X c lj e)) (bit_cases (X j) p),
  λ s. ⊎_elim (λ c q l. keep_part R p j 0 q (value m X q) (c q l)) (λ c q l. keep_part R p j 1 q (value m X q) (c q l)) s,
)

pub split_shares_none : (n m : ℕ) (R : Rel) (p j : ℕ) (X : Tables) → p < 2 ^ n → Compatible n m (keep R p j 0) X → Compatible n m (keep R p j 1) X → ⊥
split_shares_none n m R p j X l a b =
    omega (arith, keep_bit R p j 0 (value m X p) (a p l), keep_bit R p j 1 (value m X p) (b p l))
