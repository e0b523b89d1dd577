-- The relation of a sheet is a function of what was gathered: two sheets that gather the same form the same relation, or are refused alike.
use Prim.Native.Nat.{ℕ, ◌^◌, ◌<◌}
use mathlib.Core.Path.{◌≡◌, refl, sym, ap, ap₂, subst, ◌∙◌}
use mathlib.Core.Logic.{⊎_elim}
use mathlib.Core.Bool.{Bool, cond}
use native.Mathlib.Nat.{lt_of_lt_of_le}
use lib.Dec.{T_not, eqb, eqb→eq, ltb, ltb→lt}
use lib.Bits.{bit_and}
use lib.ListN.{length, get_or}
use lib.Seq.{ext_get_or}
use Rattle.base.proofs.Tests.{decide, cond_has₂, eq_test}
use Rattle.base.proofs.Tabulate.{tabulate_cong}
use Rattle.relation.specs.declared.Relation.{Relation}
use Rattle.relation.specs.Handed.{check_of}
use Rattle.sheet.specs.declared.Sheet.{Sheet}
use Rattle.sheet.specs.Commands.{inputs_of, wires_of, outputs_of}
use Rattle.sheet.specs.Gathered.{gathered, row_mark}
use Rattle.sheet.specs.Limits.{max_inputs, max_patterns, max_values}
use Rattle.sheet.proofs.Fields.{inputs_field, wires_field, outputs_field, output_field}
use Rattle.unit.specs.Gates.{outputs_for}
use Rattle.unit.specs.Relation.{same_list}
use Rattle.unit.specs.Formed.{set_on, relation_in, formed_of}
use Rattle.reader.specs.Inner.WasRead.{WasRead}
use Rattle.unit.specs.Inner.Forming.{checked_reply}
use Rattle.reader.proofs.Placed.{held_sound}
use Rattle.unit.proofs.HeldSignals.{signals_is}
use Rattle.unit.proofs.Members.{told, told_test}
use Rattle.unit.proofs.Allowed.{HasAlike, set_unmarked, set_marked}
use Rattle.unit.proofs.Forming.{after_check}

module _ {sheet : Sheet} (a b : WasRead sheet) where
  same : gathered a.commands ≡ gathered b.commands
  same = sym a.gathers ∙ b.gathers

  same_inputs : inputs_of a.commands ≡ inputs_of b.commands
  same_inputs = sym (inputs_field a.commands) ∙ ap (λ (h : Sheet). h.n) same ∙ inputs_field b.commands

  same_wires : wires_of a.commands ≡ wires_of b.commands
  same_wires = sym (wires_field a.commands) ∙ ap (λ (h : Sheet). h.m) same ∙ wires_field b.commands

  same_count : length (outputs_of a.commands) ≡ length (outputs_of b.commands)
  same_count = sym (outputs_field a.commands) ∙ ap (λ (h : Sheet). h.output_count) same ∙ outputs_field b.commands

  same_outputs_lem : outputs_of a.commands ≡ outputs_of b.commands
  same_outputs_lem =
      ext_get_or 0 (outputs_of a.commands) (outputs_of b.commands) same_count λ i l.
      sym (output_field a.commands i (lt_of_lt_of_le l (held_sound a).outputs.few))
      ∙ ap (λ (h : Sheet). get_or h.signals i 0) same
      ∙ output_field b.commands i (lt_of_lt_of_le (subst (λ k. i < k) same_count l) (held_sound b).outputs.few)

  -- the same outputs for each value
  same_answers : (v : ℕ) → outputs_for a.commands v ≡ outputs_for b.commands v
  unfolding outputs_for
  same_answers v = rw (signals_is a v ∙ sym (signals_is b v), same_outputs_lem)

  -- the same set on each pattern, by its mark
  same_set : (p : ℕ) → p < 2 ^ inputs_of a.commands → set_on a.commands p ≡ set_on b.commands p
  same_set p l =
      ⊎_elim
      (λ y.
      let m : get_or (gathered a.commands).marks p 0 ≡ row_mark = eqb→eq (get_or (gathered a.commands).marks p 0) row_mark y in
      sym (set_marked a.commands (held_sound a) p l alikes own m)
      ∙ subst (λ (x : Sheet). bit_and (get_or x.limits p 0) alikes ≡ set_on b.commands p) (sym same)
      (set_marked b.commands (held_sound b) p l' alikes other (rw same at m)))
      (λ y.
      let m : get_or (gathered a.commands).marks p 0 ≡ row_mark → ⊥ = λ f. T_not (eqb (get_or (gathered a.commands).marks p 0) row_mark) y (eq_test f) in
      sym (set_unmarked a.commands (held_sound a) p l m) ∙ rw same (set_unmarked b.commands (held_sound b) p l' (rw same at m)))
      (decide (eqb (get_or (gathered a.commands).marks p 0) row_mark))
    where
      l' : p < 2 ^ inputs_of b.commands
      l' = subst (λ n. p < 2 ^ n) same_inputs l

      answers_alike : ℕ → Bool
      answers_alike v = same_list (outputs_for a.commands v) (outputs_for a.commands (get_or (gathered a.commands).values p 0))

      alikes : ℕ
      alikes = told max_values answers_alike

      own : HasAlike a.commands (get_or (gathered a.commands).values p 0) alikes
      own v h = told_test answers_alike max_values v h

      other : HasAlike b.commands (get_or (gathered b.commands).values p 0) alikes
      other v h = own v h ∙ rw same (ap₂ same_list (same_answers v) (same_answers (get_or (gathered b.commands).values p 0)))

  same_relation : relation_in a.commands ≡ relation_in b.commands
  unfolding relation_in
  same_relation =
      rw (← same_inputs, ← same_wires)
      (ap (λ x. record { n = inputs_of a.commands; m = wires_of a.commands; sets = x })
      (tabulate_cong max_patterns (λ p. cond (ltb p (2 ^ inputs_of a.commands)) (set_on a.commands p) 0)
      (λ p. cond (ltb p (2 ^ inputs_of a.commands)) (set_on b.commands p) 0)
      (λ p _. cond_has₂ (λ x y. x ≡ y) (ltb p (2 ^ inputs_of a.commands)) (λ h. same_set p (ltb→lt p (2 ^ inputs_of a.commands) h)) (λ _. refl))))

  pub same_formed : formed_of a.bytes ≡ formed_of b.bytes
  same_formed =
      sym (after_check a.bytes a.commands a.held)
      ∙ ap (λ (r : Relation). checked_reply r (check_of max_inputs r)) same_relation
      ∙ after_check b.bytes b.commands b.held
