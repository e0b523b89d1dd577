-- Laws of the values of a set, and of those among them that have a wire at a bit.
use mathlib.Core.Path.{◌≡◌, refl, sym, ap, subst, ◌∙◌}
use mathlib.Core.Logic.{⊎_elim}
use mathlib.Core.Bool.{not, ◌&&◌}
use mathlib.Core.List.{List}
use Prim.Native.Nat.{ℕ, ◌^◌, ◌<◌, ◌≤◌}
use native.Mathlib.Omega.{arith}
use native.Mathlib.Nat.{lt_of_le_of_lt}
use lib.Dec.{T, T_not, not_T, eqb, ltb, ltb→lt, nltb→le, eqb→eq}
use lib.Bits.{and_le_l}
use Rattle.sheet.specs.Limits.{max_wires, max_values}
use Rattle.base.proofs.Tests.{decide, eq_test, test_ext}
use Rattle.table.specs.Bits.{bit, any}
use Rattle.table.specs.Inner.Columns.{column_of}
use Rattle.table.proofs.BitColumns.{column_test}
use Rattle.table.proofs.Bits.{any_at, any_intro, any_cong, bit_cases, bit_ext, bit_past, test_and, zero_bit}
use Rattle.relation.specs.Tests.{of_sets, occurs}
use Rattle.relation.specs.Inner.Members.{member, with_bit}
use lib.ListN.{get_or}

-- the set of a pattern in a list of sets
pub member_sets : (sets : List ℕ) (p : ℕ) → of_sets sets p ≡ member (get_or sets p 0)
unfolding of_sets member
member_sets sets p = refl

pub no_member : (v : ℕ) → T (member 0 v) → ⊥
unfolding member
no_member v t = let e = eqb→eq (bit 0 v) 1 t in omega (arith, zero_bit v)

-- a value that is in a set below 2 ^ k is below k
pub member_lt : (w k v : ℕ) → w < 2 ^ k → T (member w v) → v < k
unfolding member
member_lt w k v h t =
    ⊎_elim (λ l. ltb→lt v k l) (λ l. absurd (omega (arith, bit_past w k v h (nltb→le v k l), eqb→eq (bit w v) 1 t))) (decide (ltb v k))

-- some value is in a set, unless it is 0
pub any_member : (k w : ℕ) → w < 2 ^ k → any k (member w) ≡ not (eqb w 0)
unfolding member
any_member k w h =
    test_ext (any k (member w)) (not (eqb w 0))
    (λ t. let u = any_at k (member w) t in not_T (eqb w 0) (λ e. none u.0 (eqb→eq w 0 e) u.2))
    (λ t. ⊎_elim (λ y. y)
    (λ z. absurd (T_not (eqb w 0) t (eq_test (bit_ext k w 0 h (omega (arith, h)) (λ v l. gone z v l ∙ sym (zero_bit v))))))
    (decide (any k (member w))))
  where
    none : (v : ℕ) → w ≡ 0 → T (member w v) → ⊥
    none v e t = no_member v (subst (λ x. T (member x v)) e t)

    gone : T (not (any k (member w))) → (v : ℕ) → v < k → bit w v ≡ 0
    gone z v l =
        ⊎_elim (λ e. e) (λ e. absurd (T_not (any k (member w)) z (any_intro k (member w) v l (eq_test e)))) (bit_cases w v)

-- the values of a set that have wire j at b
pub with_test : (w j b v : ℕ) → w < 2 ^ max_values → member (with_bit w j b) v ≡ member w v && eqb (bit v j) b
unfolding member with_bit
with_test w j b v h =
    test_and w (column_of j b) v
    ∙ ⊎_elim (λ l. ap (λ c. eqb (bit w v) 1 && c) (column_test j b v (ltb→lt v max_values l))) (λ l. rw (bit_past w max_values v h (nltb→le v max_values l)))
    (decide (ltb v max_values))

pub with_le : (w j b : ℕ) → with_bit w j b ≤ w
unfolding with_bit
with_le w j b = and_le_l w (column_of j b)

-- the projection on a wire, as the code tests it
pub occurs_with : (w j b : ℕ) → w < 2 ^ max_values → occurs max_wires (member w) j b ≡ not (eqb (with_bit w j b) 0)
unfolding occurs
occurs_with w j b h =
    any_cong max_values (λ v. member w v && eqb (bit v j) b) (member (with_bit w j b)) (λ v _. sym (with_test w j b v h))
    ∙ any_member max_values (with_bit w j b) (lt_of_le_of_lt (with_le w j b) h)
