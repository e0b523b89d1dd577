-- A relation as numbers that tells a relation on each of its patterns and values: the same stages are compatible, the same patterns are empty, and its test
-- answers by that.
use Prim.Native.Nat.{ℕ, ◌^◌, ◌<◌, ◌≤◌}
use mathlib.Core.Path.{◌≡◌, sym, ap, subst, ◌∙◌}
use mathlib.Core.Logic.{◌↔◌}
use mathlib.Core.Bool.{Bool, false, not}
use mathlib.Core.List.{List}
use native.Mathlib.Omega.{arith}
use lib.Dec.{T, not_T, leb, leb→le}
use lib.ListN.{get_or}
use Rattle.base.specs.Cases.{accepted_case, refused_case}
use Rattle.base.specs.Refusals.{refusal_at, empty}
use Rattle.base.proofs.Lowest.{lowest_none, lowest_cong}
use Rattle.sheet.specs.Limits.{sizes_out}
use Rattle.sheet.specs.Inner.Sized.{Sized}
use Rattle.sheet.proofs.Sizes.{sizes_fit}
use Rattle.table.specs.Bits.{any}
use Rattle.table.specs.Drawing.{Drawing, drawn_value}
use Rattle.table.specs.Inner.Drawing.{FairCount}
use Rattle.table.proofs.Below.{any_cong}
use Rattle.relation.specs.declared.Relation.{Relation}
use Rattle.relation.specs.Source.{Rel}
use Rattle.relation.specs.Families.{Family}
use Rattle.relation.specs.Handed.{relation_of, wide_pattern, check_of}
use Rattle.relation.specs.Tests.{empty_pattern}
use Rattle.relation.proofs.Families.{value_below}
use Rattle.relation.proofs.Fits.{check_none, check_passed}

module _ (r : Relation) (R : Rel) (told : (p v : ℕ) → p < 2 ^ r.n → v < 2 ^ r.m → relation_of r p v ≡ R p v) where
  pub family_told : (D : Drawing) (count : ℕ → ℕ) → FairCount D r.n count → (xs : List D.Shape)
      → Family D r.n r.m (relation_of r) xs ↔ Family D r.n r.m R xs
  family_told D count counts xs = (
    λ f. record { drawn = f.drawn; allowed = λ p l. subst T (same f p l) (f.allowed p l) },
    λ f. record { drawn = f.drawn; allowed = λ p l. subst T (sym (same f p l)) (f.allowed p l) },
  )
    where
      same : {Q : ℕ → ℕ → Bool} → Family D r.n r.m Q xs → (p : ℕ) → p < 2 ^ r.n → relation_of r p (drawn_value D r.n xs p) ≡ R p (drawn_value D r.n xs p)
      same {Q} f p l = told p (drawn_value D r.n xs p) l (value_below D r.n count counts r.m Q xs f p)

  pub empty_told : empty_pattern r.n r.m (relation_of r) ≡ empty_pattern r.n r.m R
  unfolding empty_pattern
  empty_told =
      lowest_cong (2 ^ r.n) (λ p. not (any (2 ^ r.m) (relation_of r p))) (λ p. not (any (2 ^ r.m) (R p)))
      (λ p l. ap not (any_cong (2 ^ r.m) (relation_of r p) (R p) (λ v b. told p v l b)))

  -- its test, where its sizes are in range and its sets have values of its wires alone
  module _ (most : ℕ) (sized : Sized most r.n r.m) (small : (p : ℕ) → p < 2 ^ r.n → get_or r.sets p 0 < 2 ^ (2 ^ r.m)) where
    sizes_pass : sizes_out most r.n r.m ≡ false
    sizes_pass = sizes_fit most r.n r.m sized

    none_past_wires : wide_pattern r.n r.m r.sets ≡ 2 ^ r.n
    unfolding wide_pattern
    none_past_wires =
        lowest_none (2 ^ r.n) (λ p. leb (2 ^ (2 ^ r.m)) (get_or r.sets p 0))
        (λ p l. not_T (leb (2 ^ (2 ^ r.m)) (get_or r.sets p 0)) (λ t. omega (arith, leb→le (2 ^ (2 ^ r.m)) (get_or r.sets p 0) t, small p l)))

    pub refused_empty : empty_pattern r.n r.m R < 2 ^ r.n → check_of most r ≡ refused_case (refusal_at empty (empty_pattern r.n r.m R))
    refused_empty l =
        check_none most r sizes_pass (omega (arith, none_past_wires)) (subst (λ x. x < 2 ^ r.n) (sym empty_told) l)
        ∙ ap (λ p. refused_case (refusal_at empty p)) empty_told

    pub passes_whole : 2 ^ r.n ≤ empty_pattern r.n r.m R → check_of most r ≡ accepted_case
    passes_whole l = check_passed most r sizes_pass (omega (arith, none_past_wires)) (subst (λ x. 2 ^ r.n ≤ x) (sym empty_told) l)
