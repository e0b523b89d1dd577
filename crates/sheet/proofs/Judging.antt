-- A command after the commands before it, as the code judges it on what was gathered from them.
use Prim.Native.Nat.{ℕ, ◌+◌, ◌<◌, ◌≤◌, ◌^◌, min}
use mathlib.Core.Path.{◌≡◌, refl, sym, ap, ◌∙◌}
use mathlib.Core.Bool.{Bool, true, false, cond, not, ◌||◌}
use mathlib.Core.List.{List, [], ◌∷◌, ◌++◌}
use lib.Dec.{leb, eqb}
use lib.ListN.{length, get_or}
use borrow.Author.Tests.{leb-false, lt-ltb, le-ltb}
use Rattle.std.specs.Prelude.{Ok, Err, Some, None}
use Rattle.base.specs.declared.Refusal.{Refusal}
use Rattle.base.specs.Refusals.{refusal_at, no_signal, repeated, too_many, trailing, missing_row}
use Rattle.sheet.specs.Limits.{max_inputs, max_patterns, max_gates, max_outputs}
use Rattle.base.specs.Lowest.{lowest}
use Rattle.base.specs.Inner.Lowest.{first_below}
use Rattle.sheet.specs.declared.Command.{Command}
use Rattle.sheet.specs.declared.Command.TheVariants.{End, Sizes, Row, DontCare, Gate, Output, Limit}
use Rattle.sheet.specs.declared.Sheet.{Sheet}
use Rattle.sheet.specs.Commands.{is_empty, inputs_of, is_marked}
use Rattle.sheet.specs.Gathered.{gathered, no_mark}
use Rattle.sheet.specs.Judged.{holds, refused, is_not_made, is_repeated, is_too_many, judged, missing, ending}
use Rattle.sheet.specs.Inner.Gathering.{fault_of, gathered_reply}
use Rattle.base.proofs.Lowest.{lowest_cong, some_lowest, none_lowest}
use Rattle.sheet.proofs.Lists.{is_empty_nil}
use Rattle.sheet.proofs.Powers.{uncapped}
use Rattle.sheet.proofs.Sizes.{pattern_place}
use Rattle.sheet.proofs.Fields.{mark_field, mark_none, mark_some, mark_test}
use Rattle.sheet.proofs.Growing.{limited, rowed, freed, gated, led, end_adds, limit_adds, row_adds, dont_care_adds, gate_adds, output_adds}

-- a gate and an output on a signal that the sheet does not make
abbrev pub gate_unmade : Sheet → ℕ → ℕ → Bool
gate_unmade h a b = leb (h.m + h.gate_count) a || leb (h.m + h.gate_count) b

abbrev pub output_unmade : Sheet → ℕ → Bool
output_unmade h s = leb (h.m + h.gate_count) s

module _ (at : ℕ) where
  no_fault : (u t : Bool) → fault_of u t at ≡ Ok tt → (u ≡ false) × (t ≡ false)
  no_fault true t z = absurd cc
  no_fault false true z = absurd cc
  no_fault false false z = (refl, refl)

  -- without a fault there is room for one more
  pub room : (u : Bool) (most count : ℕ) → fault_of u (leb most count) at ≡ Ok tt → count < most
  room u most count z = leb-false most count (no_fault u (leb most count) z).1

module _ (before : List Command) (at : ℕ) where
  pub sizes_taken : (n m : ℕ) → is_empty before ≡ true → Ok (gathered (Sizes n m ∷ [])) ≡ gathered_reply (judged before (Sizes n m) at)
  unfolding judged gathered_reply
  sizes_taken n m e = rw (is_empty_nil before e)

  -- a command that cannot be repeated is judged by its fault alone
  module _ (c : Command) (once : is_repeated before c ≡ false) where
    for_fault : (f : Refusal) → fault_of (is_not_made before c) (is_too_many before c) at ≡ Err f → judged before c at ≡ refused f
    unfolding judged
    for_fault f z = rw once (by_fault (is_not_made before c) (is_too_many before c) z)
      where
        by_fault : (u t : Bool) → fault_of u t at ≡ Err f
            → cond u (refused (refusal_at no_signal at)) (cond t (refused (refusal_at too_many at)) (holds (before ++ c ∷ [])))
            ≡ refused f
        by_fault true t z = cc
        by_fault false true z = cc
        by_fault false false z = absurd cc

    without_fault : fault_of (is_not_made before c) (is_too_many before c) at ≡ Ok tt → judged before c at ≡ holds (before ++ c ∷ [])
    unfolding judged
    without_fault z = let n = no_fault at (is_not_made before c) (is_too_many before c) z in rw (n.0, once, n.1)

  module _ (h : Sheet) (e : h ≡ gathered before) where
    pub end_taken : Ok h ≡ gathered_reply (judged before End at)
    unfolding judged gathered_reply
    end_taken = ap Ok (e ∙ sym (end_adds before))

    pub limit_taken : (p w : ℕ) → p < max_patterns → limited h p w ≡ gathered (before ++ Limit p w ∷ [])
    limit_taken p w l = rw e (limit_adds before p w l)

    module _ (p : ℕ) (l : p < max_patterns) where
      some : (get_or h.marks p 0 ≡ no_mark → ⊥) → is_marked p before ≡ true
      some f = mark_some p before (λ z. f (ap (λ (x : Sheet). get_or x.marks p 0) e ∙ mark_field before p l ∙ z))

      none : get_or h.marks p 0 ≡ no_mark → is_marked p before ≡ false
      none f = mark_none p before (sym (mark_field before p l) ∙ ap (λ (x : Sheet). get_or x.marks p 0) (sym e) ∙ f)

      pub row_repeated : (v : ℕ) → (get_or h.marks p 0 ≡ no_mark → ⊥)
          → Err (refusal_at repeated at) ≡ gathered_reply (judged before (Row p v) at)
      unfolding judged gathered_reply
      row_repeated v f = simp (some f)

      pub row_taken : (v : ℕ) → get_or h.marks p 0 ≡ no_mark → Ok (rowed h p v) ≡ gathered_reply (judged before (Row p v) at)
      unfolding judged gathered_reply
      row_taken v f = simp (none f) (ap Ok (rw e (row_adds before p v l (none f))))

      pub dont_care_repeated : (get_or h.marks p 0 ≡ no_mark → ⊥)
          → Err (refusal_at repeated at) ≡ gathered_reply (judged before (DontCare p) at)
      unfolding judged gathered_reply
      dont_care_repeated f = simp (some f)

      pub dont_care_taken : get_or h.marks p 0 ≡ no_mark → Ok (freed h p) ≡ gathered_reply (judged before (DontCare p) at)
      unfolding judged gathered_reply
      dont_care_taken f = simp (none f) (ap Ok (rw e (dont_care_adds before p l)))

    -- a gate and an output on the sheet: refused for the fault that the code finds, or taken where there is none
    module _ (k a b : ℕ) where
      gate_fault : fault_of (gate_unmade h a b) (leb max_gates h.gate_count) at ≡ fault_of (is_not_made before (Gate k a b)) (is_too_many before (Gate k a b)) at
      unfolding gathered
      gate_fault = rw e

      pub gate_refused : (f : Refusal) → fault_of (gate_unmade h a b) (leb max_gates h.gate_count) at ≡ Err f → Err f ≡ gathered_reply (judged before (Gate k a b) at)
      unfolding gathered_reply
      gate_refused f z = ap gathered_reply (sym (for_fault (Gate k a b) refl f (sym gate_fault ∙ z)))

      pub gate_taken : fault_of (gate_unmade h a b) (leb max_gates h.gate_count) at ≡ Ok tt → Ok (gated h k a b) ≡ gathered_reply (judged before (Gate k a b) at)
      unfolding gathered gathered_reply
      gate_taken z =
          rw (without_fault (Gate k a b) refl (sym gate_fault ∙ z))
          (ap Ok (rw e (gate_adds before k a b (rw e at (room at (gate_unmade h a b) max_gates h.gate_count z)))))

    module _ (s : ℕ) where
      output_fault : fault_of (output_unmade h s) (leb max_outputs h.output_count) at ≡ fault_of (is_not_made before (Output s)) (is_too_many before (Output s)) at
      unfolding gathered
      output_fault = rw e

      pub output_refused : (f : Refusal) → fault_of (output_unmade h s) (leb max_outputs h.output_count) at ≡ Err f → Err f ≡ gathered_reply (judged before (Output s) at)
      unfolding gathered_reply
      output_refused f z = ap gathered_reply (sym (for_fault (Output s) refl f (sym output_fault ∙ z)))

      pub output_taken : fault_of (output_unmade h s) (leb max_outputs h.output_count) at ≡ Ok tt → Ok (led h s) ≡ gathered_reply (judged before (Output s) at)
      unfolding gathered gathered_reply
      output_taken z =
          rw (without_fault (Output s) refl (sym output_fault ∙ z))
          (ap Ok (rw e (output_adds before s (rw e at (room at (output_unmade h s) max_outputs h.output_count z)))))

-- the end, judged on what was gathered
module _ (cs : List Command) (h : Sheet) (e : h ≡ gathered cs) (small : inputs_of cs ≤ max_inputs) (s : List ℕ) (to : ℕ) where
  pub end_trailing : to < length s → Err (refusal_at trailing to) ≡ gathered_reply (ending s to cs)
  unfolding ending gathered_reply
  end_trailing l = simp (lt-ltb _ _ l)

  module _ (past : length s ≤ to) (count : ℕ) (q : count ≡ min max_patterns (2 ^ h.n)) where
    count_is : count ≡ 2 ^ inputs_of cs
    unfolding gathered
    count_is = rw e at q ∙ uncapped max_inputs (inputs_of cs) small

    -- the test of the code, and the lowest pattern that it finds
    abbrev unmarked : ℕ → Bool
    unmarked i = eqb (get_or h.marks i 0) no_mark

    missing_is : lowest count unmarked ≡ missing cs
    missing_is =
        ap (λ k. lowest k unmarked) count_is
        ∙ lowest_cong (2 ^ inputs_of cs) unmarked (λ i. not (is_marked i cs)) λ i l.
        ap (λ x. eqb x no_mark) (ap (λ (x : Sheet). get_or x.marks i 0) e ∙ mark_field cs i (pattern_place (inputs_of cs) i small l)) ∙ mark_test i cs

    pub end_missing : (p : ℕ) → first_below count unmarked ≡ Some p → Err (refusal_at missing_row p) ≡ gathered_reply (ending s to cs)
    unfolding ending gathered_reply
    end_missing p z =
        let l = some_lowest count unmarked p z in
        rw (sym l.0, missing_is) (simp (le-ltb _ _ past, lt-ltb (missing cs) (2 ^ inputs_of cs) (rw (missing_is, count_is) at l.1)))

    pub end_accepted : first_below count unmarked ≡ None → Ok h ≡ gathered_reply (ending s to cs)
    unfolding ending gathered_reply
    end_accepted z =
        simp (le-ltb _ _ past, le-ltb (missing cs) (2 ^ inputs_of cs) (let l = none_lowest count unmarked z in rw (missing_is, count_is) at l)) (ap Ok e)
