-- The relation as numbers tells the relation of the commands, and its test finds what is empty.
use Prim.Native.Nat.{ℕ, ◌^◌, ◌<◌, ◌≤◌}
use mathlib.Core.Path.{◌≡◌, sym, ap, subst, ◌∙◌}
use mathlib.Core.Logic.{⊎_elim, ◌↔◌}
use mathlib.Core.Bool.{false, cond, ◌&&◌}
use mathlib.Core.List.{List}
use native.Mathlib.Omega.{arith}
use lib.Dec.{T, eqb, ltb, nltb→le}
use lib.ListN.{get_or}
use lib.Pow.{pow_mono}
use borrow.Author.Tests.{lt-ltb, le-ltb}
use Rattle.base.specs.Refusals.{refusal_at, empty}
use Rattle.base.specs.Cases.{accepted_case, refused_case}
use Rattle.sheet.specs.Limits.{max_inputs, max_wires, max_patterns, max_values}
use Rattle.base.proofs.Tests.{decide, cond_has, test_yes, test_no}
use Rattle.table.specs.Bits.{bit}
use Rattle.table.specs.Drawing.{Drawing}
use Rattle.table.specs.Inner.Drawing.{FairCount}
use Rattle.table.proofs.Bits.{zero_bit}
use Rattle.relation.specs.Tests.{of_sets, empty_pattern}
use Rattle.relation.specs.Handed.{relation_of, check_of}
use Rattle.relation.specs.Families.{Family}
use Rattle.relation.specs.Inner.Source.{WellDefined}
use Rattle.relation.proofs.Fits.{Fit}
use Rattle.base.proofs.Tabulate.{tabulate_entry, take_entry}
use Rattle.relation.proofs.Telling as Telling
use Rattle.sheet.specs.declared.Command.{Command}
use Rattle.sheet.specs.Commands.{inputs_of, wires_of}
use Rattle.sheet.specs.Inner.Sized.{Sized}
use Rattle.reader.proofs.Sound.{Sound}
use Rattle.unit.specs.Relation.{unit_relation}
use Rattle.unit.specs.Formed.{set_on, relation_in}
use Rattle.unit.proofs.Members.{told_all, told_below}

-- the lowest pattern whose R(p) is empty; 2 ^ n where there is none
abbrev pub empty_in : List Command → ℕ
empty_in cs = empty_pattern (inputs_of cs) (wires_of cs) (unit_relation cs)

module _ (cs : List Command) (s : Sound cs) where
  patterns_fit : 2 ^ inputs_of cs ≤ max_patterns
  patterns_fit = pow_mono {i = inputs_of cs} {j = max_inputs} s.sizes.n_most

  values_fit : 2 ^ wires_of cs ≤ max_values
  values_fit = pow_mono {i = wires_of cs} {j = max_wires} s.sizes.m_most

  -- no value from 2 ^ m up is in a set
  past_values : (p v : ℕ) → 2 ^ wires_of cs ≤ v → ltb v (2 ^ wires_of cs) && unit_relation cs p v ≡ false
  past_values p v l = rw (le-ltb v (2 ^ wires_of cs) l)

  set_below : (p : ℕ) → set_on cs p < 2 ^ (2 ^ wires_of cs)
  unfolding set_on
  set_below p = told_below (λ v. ltb v (2 ^ wires_of cs) && unit_relation cs p v) (2 ^ wires_of cs) max_values values_fit (past_values p)

  set_test : (p v : ℕ) → eqb (bit (set_on cs p) v) 1 ≡ ltb v (2 ^ wires_of cs) && unit_relation cs p v
  unfolding set_on
  set_test p = told_all (λ v. ltb v (2 ^ wires_of cs) && unit_relation cs p v) max_values (λ v l. past_values p v (omega (arith, values_fit)))

  pub set_entry : (p : ℕ) → get_or (relation_in cs).sets p 0 ≡ cond (ltb p (2 ^ inputs_of cs)) (set_on cs p) 0
  unfolding relation_in
  set_entry p =
      let held : get_or (relation_in cs).sets p 0 ≡ cond (ltb p max_patterns) (cond (ltb p (2 ^ inputs_of cs)) (set_on cs p) 0) 0 =
      tabulate_entry max_patterns (λ p. cond (ltb p (2 ^ inputs_of cs)) (set_on cs p) 0) p in
      held
      ∙ ⊎_elim (λ (l : T (ltb p max_patterns)). rw (test_yes (ltb p max_patterns) l))
      (λ l.
      let b : 2 ^ inputs_of cs ≤ p = omega (arith, nltb→le p max_patterns l, patterns_fit) in
      rw (test_no (ltb p max_patterns) l, le-ltb p (2 ^ inputs_of cs) b))
      (decide (ltb p max_patterns))

  -- the relation of the sets, for every pattern and value
  pub sets_told : (p v : ℕ) → relation_of (relation_in cs) p v ≡ ltb p (2 ^ inputs_of cs) && (ltb v (2 ^ wires_of cs) && unit_relation cs p v)
  unfolding relation_of of_sets relation_in
  sets_told p v =
      ap (λ w. eqb (bit w v) 1) (take_entry (2 ^ inputs_of cs) (relation_in cs).sets p)
      ∙ ⊎_elim
      (λ (l : T (ltb p (2 ^ inputs_of cs))).
      rw (test_yes (ltb p (2 ^ inputs_of cs)) l) (ap (λ w. eqb (bit w v) 1) (set_entry p ∙ rw (test_yes (ltb p (2 ^ inputs_of cs)) l)) ∙ set_test p v))
      (λ l. rw (test_no (ltb p (2 ^ inputs_of cs)) l, zero_bit v))
      (decide (ltb p (2 ^ inputs_of cs)))

  pub set_told : (p v : ℕ) → p < 2 ^ inputs_of cs → v < 2 ^ wires_of cs → relation_of (relation_in cs) p v ≡ unit_relation cs p v
  set_told p v l b = sets_told p v ∙ rw (lt-ltb p (2 ^ inputs_of cs) l, lt-ltb v (2 ^ wires_of cs) b)

  -- the same stages are compatible, and the same patterns are empty
  pub family_told : (D : Drawing) (count : ℕ → ℕ) → FairCount D (inputs_of cs) count → (xs : List D.Shape)
      → Family D (inputs_of cs) (wires_of cs) (relation_of (relation_in cs)) xs ↔ Family D (inputs_of cs) (wires_of cs) (unit_relation cs) xs
  unfolding relation_in
  family_told = Telling.family_told (relation_in cs) (unit_relation cs) set_told

  pub well_defined_told : WellDefined (inputs_of cs) (wires_of cs) (relation_of (relation_in cs)) ↔ WellDefined (inputs_of cs) (wires_of cs) (unit_relation cs)
  well_defined_told = (
    λ w p l. let u = w p l in (u.0, u.1, subst T (set_told p u.0 l u.1) u.2),
    λ w p l. let u = w p l in (u.0, u.1, subst T (sym (set_told p u.0 l u.1)) u.2),
  )

  pub empty_told : empty_pattern (inputs_of cs) (wires_of cs) (relation_of (relation_in cs)) ≡ empty_in cs
  unfolding relation_in
  empty_told = Telling.empty_told (relation_in cs) (unit_relation cs) set_told

  pub entry_below : (p : ℕ) → get_or (relation_in cs).sets p 0 < 2 ^ (2 ^ wires_of cs)
  entry_below p =
      subst (λ x. x < 2 ^ (2 ^ wires_of cs)) (sym (set_entry p))
      (cond_has (λ x. x < 2 ^ (2 ^ wires_of cs)) (ltb p (2 ^ inputs_of cs)) (λ _. set_below p) (λ _. omega (arith, set_below p)))

  -- the test of the relation as numbers, with a limit on the inputs that those of the sheet keep
  module _ (most : ℕ) (few : inputs_of cs ≤ most) where
    pub sized_in : Sized most (inputs_of cs) (wires_of cs)
    sized_in = record { n_least = s.sizes.n_least; n_most = few; m_least = s.sizes.m_least; m_most = s.sizes.m_most }

    pub refused_empty : empty_in cs < 2 ^ inputs_of cs → check_of most (relation_in cs) ≡ refused_case (refusal_at empty (empty_in cs))
    unfolding relation_in
    refused_empty = Telling.refused_empty (relation_in cs) (unit_relation cs) set_told most sized_in (λ p _. entry_below p)

    pub passes_whole : 2 ^ inputs_of cs ≤ empty_in cs → check_of most (relation_in cs) ≡ accepted_case
    unfolding relation_in
    passes_whole = Telling.passes_whole (relation_in cs) (unit_relation cs) set_told most sized_in (λ p _. entry_below p)

    -- a relation with no empty pattern is fit for the search
    pub fit_told : WellDefined (inputs_of cs) (wires_of cs) (unit_relation cs) → Fit most (relation_in cs)
    unfolding relation_in
    fit_told w = record {
      sizes = sized_in;
      small = λ p _. entry_below p;
      well_defined = well_defined_told.1 w;
    }
