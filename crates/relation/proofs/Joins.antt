-- Laws of joined relations: what the sets as numbers tell, and which stages are compatible with both.
use Prim.Native.Nat.{ℕ, ◌^◌, ◌<◌, ◌≤◌}
use mathlib.Core.Path.{◌≡◌, refl, sym, ap, ap₂, subst, ◌∙◌, fun_ext}
use mathlib.Core.Logic.{⊎_elim, ◌↔◌}
use mathlib.Core.Bool.{cond, ◌&&◌}
use mathlib.Core.List.{List}
use native.Mathlib.Nat.{lt_of_le_of_lt}
use native.Mathlib.Omega.{arith}
use lib.Bits.{bit_and, and_le_l}
use lib.Dec.{eqb, ltb, ltb→lt}
use lib.ListN.{get_or}
use lib.Pow.{pow_mono}
use Rattle.base.proofs.Tabulate.{tabulate_at, take_entry}
use Rattle.base.proofs.Tests.{and_intro, and_left, and_right, decide, test_yes, test_no}
use Rattle.sheet.specs.Limits.{max_inputs, max_patterns}
use Rattle.table.specs.Bits.{bit}
use Rattle.table.specs.Drawing.{Drawing, drawn_value}
use Rattle.table.proofs.Bits.{test_and, zero_bit}
use Rattle.relation.specs.declared.Relation.{Relation}
use Rattle.relation.specs.Source.{Rel}
use Rattle.relation.specs.Tests.{of_sets}
use Rattle.relation.specs.Families.{Family}
use Rattle.relation.specs.Handed.{relation_of}
use Rattle.relation.specs.Joined.{join, join_of}

-- a stage keeps to the join exactly where it keeps to both
pub family_join : (D : Drawing) (n m : ℕ) (R Q : Rel) (xs : List D.Shape) → Family D n m (join R Q) xs ↔ (Family D n m R xs × Family D n m Q xs)
unfolding join
family_join D n m R Q xs =
    let v : ℕ → ℕ = λ p. drawn_value D n xs p in (
      λ f. (
        record { drawn = f.drawn; allowed = λ p l. and_left (R p (v p)) (Q p (v p)) (f.allowed p l) },
        record { drawn = f.drawn; allowed = λ p l. and_right (R p (v p)) (Q p (v p)) (f.allowed p l) },
      ),
      λ f. record { drawn = f.0.drawn; allowed = λ p l. and_intro (R p (v p)) (Q p (v p)) (f.0.allowed p l) (f.1.allowed p l) },
    )

-- a set as the relation of n inputs tells it
told : (r : Relation) (n p v : ℕ) → r.n ≡ n → relation_of r p v ≡ eqb (bit (cond (ltb p (2 ^ n)) (get_or r.sets p 0) 0) v) 1
unfolding relation_of of_sets
told r n p v e = ap (λ w. eqb (bit w v) 1) (take_entry (2 ^ r.n) r.sets p) ∙ ap (λ k. eqb (bit (cond (ltb p (2 ^ k)) (get_or r.sets p 0) 0) v) 1) e

-- the sets joined tell the join of what the sets tell
module _ (r q : Relation) (few : r.n ≤ max_inputs) (e : q.n ≡ r.n) where
  abbrev both : ℕ → ℕ
  both p = bit_and (get_or r.sets p 0) (get_or q.sets p 0)

  pub joined_at : (p : ℕ) → p < 2 ^ r.n → get_or (join_of r q).sets p 0 ≡ both p
  unfolding join_of
  joined_at p l = tabulate_at max_patterns both p (omega (arith, pow_mono {i = r.n} {j = max_inputs} few))

  -- a set joined has no bit that the first has not
  pub joined_small : (k : ℕ) → ((p : ℕ) → p < 2 ^ r.n → get_or r.sets p 0 < k) → (p : ℕ) → p < 2 ^ r.n → get_or (join_of r q).sets p 0 < k
  joined_small k h p l = subst (λ x. x < k) (sym (joined_at p l)) (lt_of_le_of_lt (and_le_l (get_or r.sets p 0) (get_or q.sets p 0)) (h p l))

  set_joined : (p v : ℕ) → relation_of (join_of r q) p v ≡ join (relation_of r) (relation_of q) p v
  unfolding join join_of
  set_joined p v =
      let n = r.n in
      let a = get_or r.sets p 0 in
      let b = get_or q.sets p 0 in
      let c = ltb p (2 ^ n) in
      let met : eqb (bit (cond c (get_or (join_of r q).sets p 0) 0) v) 1 ≡ eqb (bit (cond c a 0) v) 1 && eqb (bit (cond c b 0) v) 1 =
      ⊎_elim
      (λ y. rw (test_yes c y, joined_at p (ltb→lt p (2 ^ n) y)) (test_and a b v))
      (λ z. rw (test_no c z, zero_bit v))
      (decide c) in
      told (join_of r q) n p v refl ∙ met ∙ sym (ap₂ ◌&&◌ (told r n p v refl) (told q n p v e))

  pub sets_joined : relation_of (join_of r q) ≡ join (relation_of r) (relation_of q)
  sets_joined = fun_ext (λ p. fun_ext (λ v. set_joined p v))
