-- The commands of a copy are in order, each after those before it, where what was gathered comes from a sheet that was read.
use Prim.Native.Nat.{ℕ, zero, suc, ◌+◌, ◌^◌, ◌<◌}
use mathlib.Core.Path.{◌≡◌, refl, ap, subst, ◌∙◌}
use mathlib.Core.Bool.{Bool, false, not, ◌||◌}
use mathlib.Core.List.{List, [], ◌++◌, append_assoc, append-nil}
use native.Mathlib.Nat.{lt_of_lt_of_le}
use native.Mathlib.Omega.{arith}
use lib.ListN.{length, get_or}
use borrow.Author.Tests.{lt-leb, le-ltb}
use Rattle.base.proofs.Tests.{cond_has}
use Rattle.sheet.specs.declared.Command.{Command}
use Rattle.sheet.specs.declared.Command.TheVariants.{Sizes, Row, DontCare, Gate, Output, Limit}
use Rattle.sheet.specs.declared.Sheet.{Sheet}
use Rattle.sheet.specs.Commands.{is_empty, collect, row_in, dont_care_in, rows_on, dont_cares_on, gates_of, outputs_of, is_marked}
use Rattle.sheet.specs.Limits.{max_inputs, max_gates, max_outputs, sizes_out}
use Rattle.reader.specs.Reader.{last_kind}
use Rattle.reader.proofs.ReadBack.{AllInOrder, none_yet, next_in_order}
use Rattle.reader.proofs.Placed.{gate_of, Placed}
use Rattle.clean.specs.Copy.{listed, marks_dont_care, permits_all, copy_mark, copy_limit, copy_gate, copy_output}
use Rattle.clean.proofs.Listed.{listed_none, singles_length, collect_then}
use Rattle.clean.proofs.Saying.{to_sizes, to_marks, to_limits, to_gates, to_outputs, gates_wired, gates_led, outputs_led, row_other, dont_care_other}

-- one piece after the other
ordered_listed : (cs : List Command) (f : ℕ → List Command) (k : ℕ) → AllInOrder cs
    → ((i : ℕ) → i < k → AllInOrder (cs ++ listed i f) → AllInOrder (cs ++ listed i f ++ f i)) → AllInOrder (cs ++ listed k f)
unfolding listed
ordered_listed cs f zero p h = rw (append-nil cs) p
ordered_listed cs f (suc k) p h =
    subst AllInOrder (append_assoc cs (listed k f) (f k)) (h k (omega arith) (ordered_listed cs f k p (λ i l. h i (omega arith))))

both_fail : {a b : Bool} → a ≡ false → b ≡ false → a || b ≡ false
both_fail {a} {b} e f = rw (e, f)

-- what a sheet's entries need to be
pub record InPlace (h : Sheet) : Type 0 where
  pub sizes : sizes_out max_inputs h.n h.m ≡ false
  pub values : (p : ℕ) → p < 2 ^ h.n → get_or h.values p 0 < 2 ^ h.m
  pub limits : (p : ℕ) → p < 2 ^ h.n → get_or h.limits p 0 < 2 ^ (2 ^ h.m)
  pub wiring : Placed h

module _ (h : Sheet) (in_place : InPlace h) where
  -- pattern i has no mark before its own
  fresh : (i : ℕ) → is_marked i (to_marks h i) ≡ false
  unfolding collect
  fresh i =
      let rows : rows_on i (to_marks h i) ≡ [] =
      collect_then (row_in i) (to_sizes h) i (copy_mark h) ∙ listed_none i (λ q. collect (row_in i) (copy_mark h q)) (λ q l. row_other h i q (λ e. omega arith)) in
      let cares : dont_cares_on i (to_marks h i) ≡ [] =
      collect_then (dont_care_in i) (to_sizes h) i (copy_mark h)
      ∙ listed_none i (λ q. collect (dont_care_in i) (copy_mark h q)) (λ q l. dont_care_other h i q (λ e. omega arith)) in
      both_fail (ap (λ xs. not (is_empty xs)) cares) (ap (λ xs. not (is_empty xs)) rows)

  ordered_marks : AllInOrder (to_marks h (2 ^ h.n))
  unfolding collect
  ordered_marks =
      let first : AllInOrder (to_sizes h) =
      next_in_order [] (Sizes h.n h.m) none_yet (record { first = refl; in_range = in_place.sizes; made = refl; new = refl; room = refl }) refl in
      ordered_listed (to_sizes h) (copy_mark h) (2 ^ h.n) first λ i l p.
      let v = get_or h.values i 0 in
      let pattern = lt-leb (2 ^ h.n) i l in
      cond_has (λ cs. AllInOrder (to_marks h i ++ cs)) (marks_dont_care (get_or h.marks i 0))
      (λ _. next_in_order (to_marks h i) (DontCare i) p (record { first = refl; in_range = pattern; made = refl; new = fresh i; room = refl }) refl)
      (λ _.
      let value = lt-leb (2 ^ h.m) v (in_place.values i l) in
      next_in_order (to_marks h i) (Row i v) p (record { first = refl; in_range = both_fail pattern value; made = refl; new = fresh i; room = refl }) refl)

  ordered_limits : AllInOrder (to_limits h (2 ^ h.n))
  unfolding collect
  ordered_limits =
      ordered_listed (to_marks h (2 ^ h.n)) (copy_limit h) (2 ^ h.n) ordered_marks λ i l p.
      let w = get_or h.limits i 0 in
      let range = both_fail (lt-leb (2 ^ h.n) i l) (lt-leb (2 ^ (2 ^ h.m)) w (in_place.limits i l)) in
      cond_has (λ cs. AllInOrder (to_limits h i ++ cs)) (permits_all h.m (get_or h.limits i 0))
      (λ _. rw (append-nil (to_limits h i)) p)
      (λ _. next_in_order (to_limits h i) (Limit i w) p (record { first = refl; in_range = range; made = refl; new = refl; room = refl }) refl)

  ordered_gates : AllInOrder (to_gates h h.gate_count)
  unfolding collect
  ordered_gates =
      ordered_listed (to_limits h (2 ^ h.n)) (copy_gate h) h.gate_count ordered_limits λ i l p.
      let g = gate_of h i in
      let w = in_place.wiring.wired i l in
      let made : length (gates_of (to_gates h i)) ≡ i = ap length (gates_wired h i) ∙ singles_length i (gate_of h) in
      next_in_order (to_gates h i) (Gate g.kind g.left g.right) p
      (record {
        first = refl;
        in_range = le-ltb last_kind g.kind w.kind_known;
        made = rw made (both_fail (lt-leb (h.m + i) g.left w.left_made) (lt-leb (h.m + i) g.right w.right_made));
        new = refl;
        room = rw made (lt-leb max_gates i (lt_of_lt_of_le l in_place.wiring.few_gates));
      })
      refl

  pub ordered_copy : AllInOrder (to_outputs h h.output_count)
  unfolding collect
  ordered_copy =
      ordered_listed (to_gates h h.gate_count) (copy_output h) h.output_count ordered_gates λ i l p.
      let s = get_or h.signals i 0 in
      let made : length (gates_of (to_outputs h i)) ≡ h.gate_count = ap length (gates_led h i) ∙ singles_length h.gate_count (gate_of h) in
      let given : length (outputs_of (to_outputs h i)) ≡ i = ap length (outputs_led h i) ∙ singles_length i (λ j. get_or h.signals j 0) in
      next_in_order (to_outputs h i) (Output s) p
      (record {
        first = refl;
        in_range = refl;
        made = rw made (lt-leb (h.m + h.gate_count) s (in_place.wiring.made i l));
        new = refl;
        room = rw given (lt-leb max_outputs i (lt_of_lt_of_le l in_place.wiring.few_outputs));
      })
      refl
