-- Laws of the test of a relation that is handed over as numbers: what passing says, and what refusal 10 says.
use mathlib.Core.Path.{◌≡◌, sym, ap, ◌∙◌}
use mathlib.Core.Logic.{⊎_elim}
use mathlib.Core.Bool.{Bool, true, false, cond, not, not-not}
use mathlib.Core.List.{List}
use Prim.Native.Nat.{ℕ, ◌^◌, ◌<◌, ◌≤◌}
use native.Mathlib.Omega.{arith}
use lib.Dec.{T, not_T, eqb, ltb, ltb→lt, nltb→le, leb, nleb→lt, leb→le}
use lib.ListN.{get_or, take}
use lib.Seq.{get_or-take}
use borrow.Author.Tests.{lt-ltb, le-ltb}
use Rattle.base.proofs.Tests.{decide, test_no}
use Rattle.base.specs.Refusals.{refusal_at, out_of_range, empty}
use Rattle.base.specs.Cases.{accepted_case, refused_case}
use Rattle.sheet.specs.Limits.{max_inputs, sizes_out}
use Rattle.sheet.specs.Inner.Sized.{Sized}
use Rattle.sheet.proofs.Sizes.{sizes_in, sizes_fit}
use Rattle.base.specs.Lowest.{lowest}
use Rattle.base.proofs.Lowest.{lowest_or, lowest_none, lowest_cong}
use Rattle.base.specs.declared.Refusal.{Refusal}
use Rattle.table.specs.Bits.{any}
use Rattle.relation.specs.declared.Relation.{Relation}
use Rattle.relation.specs.Handed.{relation_of, wide_pattern, check_sets, check_of}
use Rattle.relation.specs.Inner.Source.{WellDefined}
use Rattle.relation.specs.Tests.{of_sets, empty_pattern}
use Rattle.relation.specs.Inner.Members.{member}
use Rattle.relation.proofs.Decide.{well_defined_or, empty_not}
use Rattle.relation.proofs.Members.{any_member}

-- a relation that passes the test, with at most so many inputs
pub record Fit (most : ℕ) (r : Relation) : Type 0 where
  pub sizes : Sized most r.n r.m
  pub small : (p : ℕ) → p < 2 ^ r.n → get_or r.sets p 0 < 2 ^ (2 ^ r.m)
  pub well_defined : WellDefined r.n r.m (relation_of r)

-- sizes under a limit that a sheet has room for are sizes of a sheet
pub sized_within : (most n m : ℕ) → most ≤ max_inputs → Sized most n m → Sized max_inputs n m
sized_within most n m h z = record { n_least = z.n_least; n_most = omega (arith, z.n_most); m_least = z.m_least; m_most = z.m_most }

-- no set has a bit from 2 ^ m up
pub sets_below : (n m : ℕ) (sets : List ℕ) → 2 ^ n ≤ wide_pattern n m sets → (p : ℕ) → p < 2 ^ n → get_or sets p 0 < 2 ^ (2 ^ m)
unfolding wide_pattern
sets_below n m sets h p l =
    let f : ℕ → Bool = λ p. leb (2 ^ (2 ^ m)) (get_or sets p 0) in
    ⊎_elim (λ b. absurd (omega arith)) (λ z. nleb→lt (2 ^ (2 ^ m)) (get_or sets p 0) (z p l)) (lowest_or (2 ^ n) f)

-- where none has, the lowest empty set is the lowest that is 0
pub empty_zero : (n m : ℕ) (sets : List ℕ) → ((p : ℕ) → p < 2 ^ n → get_or sets p 0 < 2 ^ (2 ^ m))
    → empty_pattern n m (of_sets (take (2 ^ n) sets)) ≡ lowest (2 ^ n) (λ p. eqb (get_or sets p 0) 0)
unfolding empty_pattern of_sets member
empty_zero n m sets h =
    lowest_cong (2 ^ n) (λ p. not (any (2 ^ m) (of_sets (take (2 ^ n) sets) p))) (λ p. eqb (get_or sets p 0) 0)
    (λ p l. ap (λ w. not (any (2 ^ m) (member w))) (get_or-take (2 ^ n) sets p 0 l)
    ∙ ap not (any_member (2 ^ m) (get_or sets p 0) (h p l))
    ∙ not-not (eqb (get_or sets p 0) 0))

-- the replies of the test, in its order
module _ (most : ℕ) (r : Relation) where
  pub check_sizes : sizes_out most r.n r.m ≡ true → check_of most r ≡ refused_case (refusal_at out_of_range 0)
  unfolding check_of
  check_sizes e = ap (λ (out : Bool). cond out (refused_case (refusal_at out_of_range 0)) (check_sets r)) e

  pub check_wide : sizes_out most r.n r.m ≡ false → wide_pattern r.n r.m r.sets < 2 ^ r.n
      → check_of most r ≡ refused_case (refusal_at out_of_range (wide_pattern r.n r.m r.sets))
  unfolding check_of
  check_wide e w = rw (e, lt-ltb (wide_pattern r.n r.m r.sets) (2 ^ r.n) w)

  pub check_none : sizes_out most r.n r.m ≡ false → 2 ^ r.n ≤ wide_pattern r.n r.m r.sets → empty_pattern r.n r.m (relation_of r) < 2 ^ r.n
      → check_of most r ≡ refused_case (refusal_at empty (empty_pattern r.n r.m (relation_of r)))
  unfolding check_of
  check_none e w h =
      rw (e, le-ltb (wide_pattern r.n r.m r.sets) (2 ^ r.n) w, lt-ltb (empty_pattern r.n r.m (relation_of r)) (2 ^ r.n) h)

  pub check_passed : sizes_out most r.n r.m ≡ false → 2 ^ r.n ≤ wide_pattern r.n r.m r.sets → 2 ^ r.n ≤ empty_pattern r.n r.m (relation_of r)
      → check_of most r ≡ accepted_case
  unfolding check_of
  check_passed e w h =
      rw (e, le-ltb (wide_pattern r.n r.m r.sets) (2 ^ r.n) w, le-ltb (empty_pattern r.n r.m (relation_of r)) (2 ^ r.n) h)

never : (x : Refusal) → refused_case x ≡ accepted_case → ⊥
never x e = omega (arith, ap (λ c. c.outcome) e)

passed : (a b c : Bool) (x y z : Refusal) → cond a (refused_case x) (cond b (refused_case y) (cond c (refused_case z) accepted_case)) ≡ accepted_case
    → T (not a) × T (not b) × T (not c)
passed true b c x y z e = absurd (never x e)
passed false true c x y z e = absurd (never y e)
passed false false true x y z e = absurd (never z e)
passed false false false x y z e = (tt, tt, tt)

pub check_well_formed : (most : ℕ) (r : Relation) → check_of most r ≡ accepted_case → Fit most r
unfolding check_of
check_well_formed most r e =
    let n = r.n in
    let m = r.m in
    let wide = wide_pattern n m r.sets in
    let none = empty_pattern n m (relation_of r) in
    let t = passed (sizes_out most n m) (ltb wide (2 ^ n)) (ltb none (2 ^ n)) (refusal_at out_of_range 0) (refusal_at out_of_range wide) (refusal_at empty none) e in
    record {
      sizes = sizes_in most n m (test_no (sizes_out most n m) t.0);
      small = sets_below n m r.sets (nltb→le wide (2 ^ n) t.1);
      well_defined = ⊎_elim (λ w. w) (λ l. absurd (omega (arith, nltb→le none (2 ^ n) t.2))) (well_defined_or n m (relation_of r));
    }

-- and one that is fit passes
pub fit_passes : (most : ℕ) (r : Relation) → Fit most r → check_of most r ≡ accepted_case
unfolding wide_pattern
fit_passes most r f =
    let n = r.n in
    let m = r.m in
    let sizes : sizes_out most n m ≡ false = sizes_fit most n m f.sizes in
    let narrow : wide_pattern n m r.sets ≡ 2 ^ n =
    lowest_none (2 ^ n) (λ p. leb (2 ^ (2 ^ m)) (get_or r.sets p 0))
    (λ p l. not_T (leb (2 ^ (2 ^ m)) (get_or r.sets p 0)) (λ t. omega (arith, leb→le (2 ^ (2 ^ m)) (get_or r.sets p 0) t, f.small p l))) in
    let none = empty_pattern n m (relation_of r) in
    ⊎_elim (λ l. absurd (empty_not n m (relation_of r) (ltb→lt none (2 ^ n) l) f.well_defined))
    (λ l. check_passed most r sizes (omega arith) (nltb→le none (2 ^ n) l))
    (decide (ltb none (2 ^ n)))

-- refusal 10 is told only where some pattern has no value
emptied : (a b c : Bool) (x y p : ℕ)
    → cond a (refused_case (refusal_at out_of_range 0)) (cond b (refused_case (refusal_at out_of_range x)) (cond c (refused_case (refusal_at empty y)) accepted_case))
    ≡ refused_case (refusal_at empty p)
    → T c
emptied true b c x y p e = absurd (omega (arith, ap (λ c. c.number) e))
emptied false true c x y p e = absurd (omega (arith, ap (λ c. c.number) e))
emptied false false true x y p e = tt
emptied false false false x y p e = absurd (never (refusal_at empty p) (sym e))

pub check_empty : (most : ℕ) (r : Relation) (p : ℕ) → check_of most r ≡ refused_case (refusal_at empty p) → WellDefined r.n r.m (relation_of r) → ⊥
unfolding check_of
check_empty most r p e w =
    let n = r.n in
    let m = r.m in
    let wide = wide_pattern n m r.sets in
    let none = empty_pattern n m (relation_of r) in
    empty_not n m (relation_of r) (ltb→lt none (2 ^ n) (emptied (sizes_out most n m) (ltb wide (2 ^ n)) (ltb none (2 ^ n)) wide none p e)) w
