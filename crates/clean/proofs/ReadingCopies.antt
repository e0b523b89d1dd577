-- A clean copy of a sheet that was read is read, and says what the sheet says.
use Prim.Native.Nat.{ℕ, ◌^◌, ◌<◌, ◌≤◌}
use mathlib.Core.Path.{◌≡◌, refl, sym, ap, subst, ◌∙◌}
use mathlib.Core.Logic.{⊎_elim}
use mathlib.Core.Bool.{true, cond}
use mathlib.Core.List.{List, [], ◌∷◌}
use native.Mathlib.Nat.{lt_of_lt_of_le}
use native.Mathlib.Omega.{arith}
use lib.Dec.{eqb, eqb→eq, ltb, ltb→lt, nltb→le}
use lib.ListN.{length, get_or}
use lib.Pow.{pow_pos}
use borrow.Author.Tests.{eq-eqb}
use Rattle.base.proofs.Each.{each_none}
use Rattle.base.proofs.Tests.{decide, cond_has, cond_has₂}
use Rattle.sheet.specs.declared.Command.{Command}
use Rattle.sheet.specs.declared.Command.TheVariants.{End, Limit}
use Rattle.sheet.specs.SaySame.{SaySame}
use Rattle.sheet.specs.Commands.{collect, row_in, dont_care_in, limit_in, gate_in, output_in, inputs_of, wires_of, rows_on, dont_cares_on, limits_on, gates_of, outputs_of}
use Rattle.sheet.specs.Commands.{is_marked, no_gate}
use Rattle.sheet.specs.Gathered.{gathered, meet, limit_on, gate_at, output_at}
use Rattle.sheet.specs.Limits.{max_inputs, max_patterns, max_wires, all_ones}
use Rattle.sheet.specs.Judged.{holds}
use Rattle.sheet.proofs.SayingSame.{say_same_gathered}
use Rattle.sheet.proofs.Fields.{wires_field, value_field, limit_field, output_field, pattern_room, present_mark, present_value, impossible_mark}
use Rattle.sheet.proofs.Lists.{about_same, silent}
use Rattle.sheet.proofs.Permitted.{out_of_all, limit_below}
use Rattle.sheet.proofs.Sizes.{sizes_fit}
use Rattle.reader.specs.Reading.{reading_of}
use Rattle.reader.proofs.Marks.{Given, present, impossible, rows_fit, dont_cares_fit}
use Rattle.reader.proofs.Passages.{Complete}
use Rattle.reader.proofs.ReadBack.{commands_back}
use Rattle.reader.proofs.Sound.{Sound}
use Rattle.reader.proofs.Placed.{gate_of, gate_held_lem, placed_all}
use Rattle.clean.specs.Copy.{listed, copy_mark, copy_limit, copy_commands, copy_bytes}
use Rattle.clean.proofs.Listed.{listed_cong, listed_none, listed_one, listed_all}
use Rattle.clean.proofs.Saying.{to_outputs, gates_led, outputs_led, rows_led, dont_cares_led, limits_led, row_other, dont_care_other, limit_other}
use Rattle.clean.proofs.Ordering.{InPlace, ordered_copy}

-- the one 06 of a narrowed set permits that set, and none permits all values
permitted_by : (p m w : ℕ) → m ≤ max_wires → w < 2 ^ (2 ^ m)
    → meet (all_ones m) (collect (limit_in p) (cond (eqb w (all_ones m)) [] (Limit p w ∷ []))) ≡ w
unfolding collect meet
permitted_by p m w h l =
    cond_has (λ cs. meet (all_ones m) (collect (limit_in p) cs) ≡ w) (eqb w (all_ones m)) (λ t. sym (eqb→eq w (all_ones m) t))
    (λ _. rw (about_same p w) (out_of_all m w h l))

module _ (cs : List Command) (s : Sound cs) where
  room : (p : ℕ) → p < 2 ^ inputs_of cs → p < max_patterns
  room = pattern_room cs s.sizes.n_most

  in_place : InPlace (gathered cs)
  unfolding gathered
  in_place =
      record {
        sizes = sizes_fit max_inputs (inputs_of cs) (wires_of cs) s.sizes;
        values = λ p l. value_below p l (s.each_pattern p l);
        limits = λ p l. subst (λ w. w < 2 ^ (2 ^ wires_of cs)) (sym (limit_field cs p (room p l))) (limit_below p cs s.sizes.m_most);
        wiring = placed_all cs s;
      }
    where
      value_below : (p : ℕ) → p < 2 ^ inputs_of cs → Given p cs → get_or (gathered cs).values p 0 < 2 ^ wires_of cs
      value_below p l (present v r d b) = rw (present_value cs p (room p l) v r) b
      value_below p l (impossible r d) = rw (value_field cs p (room p l), r) (pow_pos (wires_of cs))

  -- what is made of all that is said of a pattern: of one below 2 ^ n by its own piece, of another by none
  of_pattern : {A B : Type 0} (made : List A → B) (f : ℕ → List A) (y : B) (p : ℕ) → ((q : ℕ) → (q ≡ p → ⊥) → f q ≡ [])
      → (p < 2 ^ inputs_of cs → made (f p) ≡ y) → (2 ^ inputs_of cs ≤ p → y ≡ made []) → made (listed (2 ^ inputs_of cs) f) ≡ y
  of_pattern made f y p other own none =
      ⊎_elim (λ t. let l = ltb→lt p (2 ^ inputs_of cs) t in ap made (listed_one (2 ^ inputs_of cs) f p l other) ∙ own l)
      (λ t. let l = nltb→le p (2 ^ inputs_of cs) t in ap made (listed_none (2 ^ inputs_of cs) f (λ q b. other q (λ e. omega arith))) ∙ sym (none l))
      (decide (ltb p (2 ^ inputs_of cs)))

  own_row : (p : ℕ) → p < 2 ^ inputs_of cs → Given p cs → collect (row_in p) (copy_mark (gathered cs) p) ≡ rows_on p cs
  unfolding collect
  own_row p l (present v r d b) = rw (present_mark cs p (room p l) v r d, present_value cs p (room p l) v r, about_same p v, r)
  own_row p l (impossible r d) = rw (impossible_mark cs p (room p l) d, r)

  own_care : (p : ℕ) → p < 2 ^ inputs_of cs → Given p cs → collect (dont_care_in p) (copy_mark (gathered cs) p) ≡ dont_cares_on p cs
  unfolding collect
  own_care p l (present v r d b) = rw (present_mark cs p (room p l) v r d, d)
  own_care p l (impossible r d) = rw (impossible_mark cs p (room p l) d, about_same p p, d)

  abbrev copy : List Command
  copy = copy_commands (gathered cs)

  -- a set as a pattern's only limit
  abbrev only_limit : ℕ → List ℕ
  only_limit w = cond (eqb w (all_ones (wires_of cs))) [] (w ∷ [])

  -- all of the copy but its end
  front : List Command
  front = to_outputs (gathered cs) (length (outputs_of cs))

  ended : {A : Type 0} (says : Command → List A) → says End ≡ [] → collect says copy ≡ collect says front
  unfolding gathered copy_commands front
  ended says e = silent says front End e

  same_rows : (p : ℕ) → rows_on p copy ≡ rows_on p cs
  unfolding front gathered
  same_rows p =
      ended (row_in p) refl ∙ rows_led (gathered cs) p (length (outputs_of cs))
      ∙ of_pattern (λ xs. xs) (λ q. collect (row_in p) (copy_mark (gathered cs) q)) (rows_on p cs) p (row_other (gathered cs) p)
      (λ l. own_row p l (s.each_pattern p l))
      (λ b. each_none _ (rows_on p cs) (rows_fit cs s.in_range p) (λ v h. omega (arith, h.0)))

  same_cares : (p : ℕ) → dont_cares_on p copy ≡ dont_cares_on p cs
  unfolding front gathered
  same_cares p =
      ended (dont_care_in p) refl ∙ dont_cares_led (gathered cs) p (length (outputs_of cs))
      ∙ of_pattern (λ xs. xs) (λ q. collect (dont_care_in p) (copy_mark (gathered cs) q)) (dont_cares_on p cs) p (dont_care_other (gathered cs) p)
      (λ l. own_care p l (s.each_pattern p l))
      (λ b. each_none _ (dont_cares_on p cs) (dont_cares_fit cs s.in_range p) (λ v h. omega (arith, h.0)))

  same_gates : gates_of copy ≡ gates_of cs
  unfolding front gathered
  same_gates =
      ended gate_in refl ∙ gates_led (gathered cs) (length (outputs_of cs))
      ∙ listed_cong (length (gates_of cs)) (λ i. gate_of (gathered cs) i ∷ []) (λ i. gate_at i cs ∷ []) (λ i l. ap (λ g. g ∷ []) (gate_held_lem cs s i l))
      ∙ listed_all (gates_of cs) no_gate

  same_outputs_lem : outputs_of copy ≡ outputs_of cs
  unfolding front gathered
  same_outputs_lem =
      ended output_in refl ∙ outputs_led (gathered cs) (length (outputs_of cs))
      ∙ listed_cong (length (outputs_of cs)) (λ i. get_or (gathered cs).signals i 0 ∷ []) (λ i. output_at i cs ∷ [])
      (λ i l. ap (λ x. x ∷ []) (output_field cs i (lt_of_lt_of_le l s.outputs.few)))
      ∙ listed_all (outputs_of cs) 0

  same_inputs : inputs_of copy ≡ inputs_of cs
  unfolding collect copy_commands gathered
  same_inputs = refl

  same_wires : wires_of copy ≡ wires_of cs
  unfolding collect copy_commands gathered
  same_wires = refl

  own_limit : (p : ℕ) → p < 2 ^ inputs_of cs → meet (all_ones (wires_of cs)) (collect (limit_in p) (copy_limit (gathered cs) p)) ≡ limit_on p cs
  unfolding gathered
  own_limit p l = permitted_by p (wires_of cs) (get_or (gathered cs).limits p 0) s.sizes.m_most (in_place.limits p l) ∙ limit_field cs p (room p l)

  limits_in : (p : ℕ) → limits_on p copy ≡ listed (2 ^ inputs_of cs) (λ q. collect (limit_in p) (copy_limit (gathered cs) q))
  unfolding front gathered
  limits_in p = ended (limit_in p) refl ∙ limits_led (gathered cs) p (length (outputs_of cs))

  -- no other pattern has a limit
  unlimited : (p : ℕ) → 2 ^ inputs_of cs ≤ p → limits_on p cs ≡ []
  unlimited p b = each_none _ (limits_on p cs) (s.limits p) (λ w h. omega (arith, h.0))

  same_limits : (p : ℕ) → limit_on p copy ≡ limit_on p cs
  same_limits p =
      rw (same_wires, limits_in p)
      (of_pattern (meet (all_ones (wires_of cs))) (λ q. collect (limit_in p) (copy_limit (gathered cs) q)) (limit_on p cs) p
      (limit_other (gathered cs) p) (own_limit p)
      (λ b. ap (meet (all_ones (wires_of cs))) (unlimited p b)))

  -- the copy has a pattern's permitted set as its one limit, or none where that is all values
  limits_are : (p : ℕ) → limits_on p copy ≡ only_limit (limit_on p cs)
  unfolding collect meet
  limits_are p =
      limits_in p
      ∙ of_pattern (λ xs. xs) (λ q. collect (limit_in p) (copy_limit (gathered cs) q)) (only_limit (limit_on p cs)) p (limit_other (gathered cs) p)
      (λ l. own l) (λ b. rw (unlimited p b, eq-eqb (all_ones (wires_of cs)) (all_ones (wires_of cs)) refl))
    where
      own : p < 2 ^ inputs_of cs → collect (limit_in p) (copy_limit (gathered cs) p) ≡ only_limit (limit_on p cs)
      own l =
          rw (limit_field cs p (room p l), wires_field cs)
          (cond_has₂ (λ cs ws. collect (limit_in p) cs ≡ ws) (eqb (limit_on p cs) (all_ones (wires_of cs))) (λ _. refl) (λ _. rw (about_same p (limit_on p cs))))

  pub copy_limits : (p : ℕ) → limits_on p copy ≡ cond (eqb (limit_on p copy) (all_ones (wires_of copy))) [] (limit_on p copy ∷ [])
  copy_limits p = rw (same_limits p, same_wires) (limits_are p)

  pub copy_says : SaySame cs (copy_commands (gathered cs))
  copy_says =
      record {
        inputs = sym same_inputs;
        wires = sym same_wires;
        rows = λ p. sym (same_rows p);
        dont_cares = λ p. sym (same_cares p);
        permitted = λ p. sym (same_limits p);
        gates = sym same_gates;
        outputs = sym same_outputs_lem;
      }

  -- the copy gathers the same
  pub copy_gathers : gathered (copy_commands (gathered cs)) ≡ gathered cs
  copy_gathers = sym (say_same_gathered cs copy copy_says)

  complete : Complete copy
  complete p l = rw (same_cares p, same_rows p) (go (s.each_pattern p (subst (λ n. p < 2 ^ n) same_inputs l)))
    where
      go : Given p cs → is_marked p cs ≡ true
      go (present v r d b) = rw (d, r)
      go (impossible r d) = rw d

  -- and is read
  pub copy_read : reading_of (copy_bytes (gathered cs)) ≡ holds (copy_commands (gathered cs))
  unfolding copy_commands
  copy_read = commands_back (to_outputs (gathered cs) (gathered cs).output_count) (ordered_copy (gathered cs) in_place) refl complete
