-- The set of a pattern: permitted values that answer alike.
use Prim.Native.Nat.{ℕ, ◌-◌, ◌^◌, ◌<◌}
use mathlib.Core.Path.{◌≡◌, sym, ap, ap₂, subst, ◌∙◌}
use mathlib.Core.Logic.{⊎_elim}
use mathlib.Core.Bool.{Bool, ◌&&◌, and_assoc}
use mathlib.Core.List.{List, [], ◌∷◌}
use native.Mathlib.Nat.{lt_of_lt_of_le, lt_of_le_of_lt}
use native.Mathlib.Omega.{arith}
use lib.Bits.{bit_and, and_le_l}
use lib.Dec.{T, eqb, eqb→eq, ltb, ltb→lt, nltb→le}
use lib.ListN.{get_or}
use lib.Pow.{pow_mono, ones_lt}
use borrow.Author.Tests.{lt-ltb}
use Rattle.sheet.specs.Limits.{max_wires, max_patterns, max_values, all_ones}
use Rattle.base.proofs.Tests.{decide, and_intro, and_left, and_right, and_true, eq_test, test_ext}
use Rattle.table.specs.Bits.{bit}
use Rattle.table.proofs.Bits.{bit_past, ones_bit, test_and}
use Rattle.sheet.specs.declared.Command.{Command}
use Rattle.sheet.specs.Commands.{inputs_of, wires_of, rows_on, limits_on}
use Rattle.sheet.specs.Gathered.{row_mark, limit_on, gathered}
use Rattle.base.specs.Each.{Each}
use Rattle.reader.proofs.Sound.{Sound}
use Rattle.reader.proofs.Marks.{Given, present, impossible}
use Rattle.sheet.proofs.Permitted.{meet_has, has_meet, all_values, limit_below}
use Rattle.sheet.proofs.Fields.{limit_field, pattern_room, present_mark, present_value, impossible_mark}
use Rattle.unit.specs.Gates.{outputs_for}
use Rattle.unit.specs.Relation.{permits, same_list, alike, unit_relation}
use Rattle.unit.specs.Formed.{set_on}
use Rattle.unit.proofs.Members.{told_is}

-- the set w has the values with the outputs of u, and no others
abbrev pub HasAlike : List Command → ℕ → ℕ → Type 0
HasAlike cs u w = (v : ℕ) → v < max_values → eqb (bit w v) 1 ≡ same_list (outputs_for cs v) (outputs_for cs u)

-- the set of the first k values
ones_below : (k v : ℕ) → bit (2 ^ k - 1) v ≡ 1 → v < k
ones_below k v e =
    ⊎_elim (λ l. ltb→lt v k l) (λ l. absurd (omega (arith, bit_past (2 ^ k - 1) k v (ones_lt k) (nltb→le v k l), e))) (decide (ltb v k))

-- a value is permitted where it is in each of the sets
pub permits_each : (v : ℕ) (ws : List ℕ) → T (permits ws v) → Each (λ w. bit w v ≡ 1) ws
unfolding permits
permits_each v [] t = tt
permits_each v (w ∷ ws) t =
    (eqb→eq (bit w v) 1 (and_left (eqb (bit w v) 1) (permits ws v) t), permits_each v ws (and_right (eqb (bit w v) 1) (permits ws v) t))

pub each_permits : (v : ℕ) (ws : List ℕ) → Each (λ w. bit w v ≡ 1) ws → T (permits ws v)
unfolding permits
each_permits v [] p = tt
each_permits v (w ∷ ws) p = and_intro (eqb (bit w v) 1) (permits ws v) (eq_test p.0) (each_permits v ws p.1)

module _ (cs : List Command) (s : Sound cs) (p : ℕ) where
  -- the permitted values
  limit_test : (v : ℕ) → eqb (bit (limit_on p cs) v) 1 ≡ ltb v (2 ^ wires_of cs) && permits (limits_on p cs) v
  unfolding bit
  limit_test v =
      let all = all_values (wires_of cs) s.sizes.m_most in
      test_ext (eqb (bit (limit_on p cs) v) 1) (ltb v (2 ^ wires_of cs) && permits (limits_on p cs) v)
      (λ t.
      let h = has_meet v (all_ones (wires_of cs)) (limits_on p cs) (eqb→eq (bit (limit_on p cs) v) 1 t) in
      and_intro (ltb v (2 ^ wires_of cs)) (permits (limits_on p cs) v)
      (subst T (sym (lt-ltb v (2 ^ wires_of cs) (ones_below (2 ^ wires_of cs) v (subst (λ x. bit x v ≡ 1) all h.0)))) tt)
      (each_permits v (limits_on p cs) h.1))
      (λ t.
      let l = ltb→lt v (2 ^ wires_of cs) (and_left (ltb v (2 ^ wires_of cs)) (permits (limits_on p cs) v) t) in
      eq_test
      (meet_has v (all_ones (wires_of cs)) (limits_on p cs) (subst (λ x. bit x v ≡ 1) (sym all) (ones_bit (2 ^ wires_of cs) v l))
      (permits_each v (limits_on p cs) (and_right (ltb v (2 ^ wires_of cs)) (permits (limits_on p cs) v) t))))

  limit_lt : limit_on p cs < 2 ^ max_values
  limit_lt =
      lt_of_lt_of_le (limit_below p cs s.sizes.m_most)
      (pow_mono {i = 2 ^ wires_of cs} {j = max_values} (pow_mono {i = wires_of cs} {j = max_wires} s.sizes.m_most))

  -- an impossible pattern: all permitted values
  all_permitted : rows_on p cs ≡ [] → limit_on p cs ≡ set_on cs p
  unfolding set_on unit_relation alike
  all_permitted e =
      told_is (λ v. ltb v (2 ^ wires_of cs) && unit_relation cs p v) max_values (limit_on p cs) limit_lt
      (λ v l.
      rw e (limit_test v ∙ ap (λ x. ltb v (2 ^ wires_of cs) && x) (sym (and_true (permits (limits_on p cs) v)))))

  -- a pattern with the present value u: of those the ones with the outputs of u
  alike_permitted : (u w : ℕ) → HasAlike cs u w → rows_on p cs ≡ u ∷ [] → bit_and (limit_on p cs) w ≡ set_on cs p
  unfolding set_on unit_relation alike
  alike_permitted u w is e =
      let same : ℕ → Bool = λ v. same_list (outputs_for cs v) (outputs_for cs u) in
      told_is (λ v. ltb v (2 ^ wires_of cs) && unit_relation cs p v) max_values (bit_and (limit_on p cs) w)
      (lt_of_le_of_lt (and_le_l (limit_on p cs) w) limit_lt)
      (λ v l.
      test_and (limit_on p cs) w v
      ∙ ap₂ ◌&&◌ (limit_test v) (is v l)
      ∙ rw (e, and_true (same v)) (and_assoc (ltb v (2 ^ wires_of cs)) (permits (limits_on p cs) v) (same v)))

  -- the set by the pattern's mark
  module _ (l : p < 2 ^ inputs_of cs) where
    room : p < max_patterns
    room = pattern_room cs s.sizes.n_most p l

    value_room : (v : ℕ) → v < 2 ^ wires_of cs → v < max_values
    value_room v b = lt_of_lt_of_le b (pow_mono {i = wires_of cs} {j = max_wires} s.sizes.m_most)

    pub set_unmarked : (get_or (gathered cs).marks p 0 ≡ row_mark → ⊥) → get_or (gathered cs).limits p 0 ≡ set_on cs p
    set_unmarked ne = go (s.each_pattern p l)
      where
        go : Given p cs → get_or (gathered cs).limits p 0 ≡ set_on cs p
        go (present v r d b) = absurd (ne (present_mark cs p room v r d))
        go (impossible r d) = limit_field cs p room ∙ all_permitted r

    pub set_marked : (w : ℕ) → HasAlike cs (get_or (gathered cs).values p 0) w → get_or (gathered cs).marks p 0 ≡ row_mark
        → bit_and (get_or (gathered cs).limits p 0) w ≡ set_on cs p
    set_marked w is e = go (s.each_pattern p l)
      where
        go : Given p cs → bit_and (get_or (gathered cs).limits p 0) w ≡ set_on cs p
        go (present v r d b) = rw (limit_field cs p room) (alike_permitted v w (rw (← present_value cs p room v r) is) r)
        go (impossible r d) = absurd (omega (arith, e, impossible_mark cs p room d))

    pub present_below : get_or (gathered cs).marks p 0 ≡ row_mark → get_or (gathered cs).values p 0 < max_values
    present_below e = go (s.each_pattern p l)
      where
        go : Given p cs → get_or (gathered cs).values p 0 < max_values
        go (present v r d b) = rw (present_value cs p room v r) (value_room v b)
        go (impossible r d) = absurd (omega (arith, e, impossible_mark cs p room d))
