-- Laws of the outputs for a wire value, and of the words that hold them for all values.
use Prim.Native.Nat.{ℕ, zero, suc, ◌<◌, ◌≤◌}
use mathlib.Core.Path.{◌≡◌, refl, sym, ap, ap₂, subst, ◌∙◌}
use mathlib.Core.Bool.{Bool}
use mathlib.Core.List.{List, [], ◌∷◌, map}
use native.Mathlib.Nat.{not-suc-le-zero, le_of_suc-le-suc, lt_of_lt_of_le}
use lib.Dec.{T, eqb, eqb→eq, eqb_refl}
use lib.ListN.{length, get_or, length-map, get_or-eq_default}
use lib.Seq.{ext_get_or}
use Rattle.base.proofs.Tests.{and_intro, and_left, and_right, eq_test, test_ext}
use Rattle.table.specs.Bits.{bit}
use Rattle.table.proofs.Bits.{all_at, all_intro}
use Rattle.sheet.specs.Limits.{max_outputs, max_values}
use Rattle.sheet.specs.declared.Command.{Command}
use Rattle.sheet.specs.declared.Sheet.{Sheet}
use Rattle.sheet.specs.Commands.{outputs_of}
use Rattle.sheet.specs.Gathered.{output_at}
use Rattle.sheet.proofs.Fields.{outputs_field, output_field}
use Rattle.unit.specs.Gates.{signals_on, outputs_for}
use Rattle.unit.specs.Relation.{same_list}
use Rattle.reader.specs.Inner.WasRead.{WasRead}
use Rattle.unit.specs.Inner.Forming.{SignalWords, OutputWords, same_bit, same_outputs}
use Rattle.reader.proofs.Placed.{placed}
use Rattle.unit.proofs.HeldSignals.{signals_made_lem, output_room}

get_d_map : (f : ℕ → ℕ) (l : List ℕ) (i : ℕ) → i < length l → get_or (map f l) i 0 ≡ f (get_or l i 0)
get_d_map f [] i h = absurd (not-suc-le-zero h)
get_d_map f (x ∷ xs) zero h = refl
get_d_map f (x ∷ xs) (suc i) h = get_d_map f xs i (le_of_suc-le-suc h)

-- two lists are the same where the test says so
pub same_list_lem : (xs ys : List ℕ) → T (same_list xs ys) → xs ≡ ys
unfolding same_list
same_list_lem [] [] t = refl
same_list_lem [] (y ∷ ys) t = absurd t
same_list_lem (x ∷ xs) [] t = absurd t
same_list_lem (x ∷ xs) (y ∷ ys) t = ap₂ ◌∷◌ (eqb→eq x y (and_left (eqb x y) (same_list xs ys) t)) (same_list_lem xs ys (and_right (eqb x y) (same_list xs ys) t))

list_self : (xs : List ℕ) → T (same_list xs xs)
unfolding same_list
list_self [] = tt
list_self (x ∷ xs) = and_intro (eqb x x) (same_list xs xs) (eqb_refl x) (list_self xs)

pub list_same : (xs ys : List ℕ) → xs ≡ ys → T (same_list xs ys)
list_same xs ys e = subst (λ z. T (same_list xs z)) e (list_self xs)

module _ (cs : List Command) where
  outputs_length : (v : ℕ) → length (outputs_for cs v) ≡ length (outputs_of cs)
  unfolding outputs_for
  outputs_length v = length-map (outputs_of cs) (λ s. get_or (signals_on cs v) s 0)

  outputs_at : (v i : ℕ) → i < length (outputs_of cs) → get_or (outputs_for cs v) i 0 ≡ get_or (signals_on cs v) (get_or (outputs_of cs) i 0) 0
  unfolding outputs_for
  outputs_at v i l = get_d_map (λ s. get_or (signals_on cs v) s 0) (outputs_of cs) i l

  -- "G(v) = G(u)" exactly where every word has the same bit for both
  pub words_test : length (outputs_of cs) ≤ max_outputs → (words : List ℕ) → OutputWords cs words → (u v : ℕ) → u < max_values → v < max_values
      → same_outputs words u v ≡ same_list (outputs_for cs v) (outputs_for cs u)
  unfolding same_outputs
  words_test few words is u v lu lv =
      let same : ℕ → Bool = λ i. same_bit (get_or words i 0) u v in
      test_ext (same_outputs words u v) (same_list (outputs_for cs v) (outputs_for cs u))
      (λ t. list_same (outputs_for cs v) (outputs_for cs u)
      (ext_get_or 0 (outputs_for cs v) (outputs_for cs u) (outputs_length v ∙ sym (outputs_length u))
      (λ i l.
      let b : i < max_outputs = lt_of_lt_of_le l (rw (outputs_length v) few) in
      sym (is i v b lv) ∙ eqb→eq (bit (get_or words i 0) v) (bit (get_or words i 0) u) (all_at max_outputs same t i b) ∙ is i u b lu)))
      (λ t.
      let e = same_list_lem (outputs_for cs v) (outputs_for cs u) t in
      all_intro max_outputs same (λ i b. eq_test (is i v b lv ∙ ap (λ l. get_or l i 0) e ∙ sym (is i u b lu))))

-- the outputs as the code gathers them, from words that hold the signals
module _ {sheet : Sheet} (h : WasRead sheet) where
  count : sheet.output_count ≡ length (outputs_of h.commands)
  count = subst (λ x. x.output_count ≡ length (outputs_of h.commands)) (sym h.gathers) (outputs_field h.commands)

  named : (i : ℕ) → i < sheet.output_count → get_or sheet.signals i 0 ≡ output_at i h.commands
  named i l =
      subst (λ x. get_or x.signals i 0 ≡ output_at i h.commands) (sym h.gathers)
      (output_field h.commands i (output_room h i l))

  pub output_is : (words : List ℕ) → SignalWords h.commands words → (i v : ℕ) → i < sheet.output_count → v < max_values
      → bit (get_or words (get_or sheet.signals i 0) 0) v ≡ get_or (outputs_for h.commands v) i 0
  output_is words is i v l b =
      is (get_or sheet.signals i 0) v (rw (signals_made_lem h) ((placed h).made i l)) b
      ∙ ap (λ s. get_or (signals_on h.commands v) s 0) (named i l)
      ∙ sym (outputs_at h.commands v i (rw count at l))

  pub output_past : (i v : ℕ) → sheet.output_count ≤ i → get_or (outputs_for h.commands v) i 0 ≡ 0
  output_past i v l = get_or-eq_default (outputs_for h.commands v) 0 (rw (outputs_length h.commands v, ← count) l)
