-- What the reader tells where it hands back a command.
use Prim.Native.Nat.{ℕ, ◌+◌, ◌-◌, ◌<◌, ◌≤◌}
use mathlib.Core.Path.{◌≡◌, refl, sym, subst, ◌∙◌}
use mathlib.Core.Bool.{Bool, true, false, cond, not}
use mathlib.Core.List.{List, [], ◌∷◌, ◌++◌, append-nil}
use native.Mathlib.Omega.{arith}
use lib.Dec.{T, eqb, eqb→eq, leb, ltb, nleb→lt, nltb→le}
use lib.ListN.{length, get_or}
use borrow.Author.Tests.{eqb-false}
use Rattle.base.proofs.Tests.{cond_has, test_yes, test_no}
use Rattle.sheet.specs.declared.Command.{Command}
use Rattle.sheet.specs.declared.Command.TheVariants.{End, Sizes, Row, DontCare, Gate, Output, Limit}
use Rattle.reader.specs.declared.Reader.{Reader}
use Rattle.std.specs.Prelude.{Some, None, Result, Ok, Err}
use Rattle.base.specs.declared.Refusal.{Refusal}
use Rattle.sheet.specs.Commands.{is_empty, collect, is_sizes, inputs_in, wires_in}
use Rattle.reader.specs.Inner.Widths.{width_known}
use Rattle.reader.specs.Reader.{width_of, command_of, is_out_of_turn, is_out_of_range, reader_at, moved_past, next_of}
use Rattle.sheet.proofs.Lists.{collect_snoc, is_empty_nil, is_empty_append}

-- the command c with the reader t moved past it, handed back by the reader r
pub record HandedBack (s : List ℕ) (r : Reader) (c : Command) (t : Reader) : Type 0 where
  pub first : is_sizes c ≡ not r.started
  pub in_range : is_out_of_range r.n r.m c ≡ false
  pub moved : t ≡ moved_past r c t.at
  pub ahead : r.at < t.at
  pub within : t.at ≤ length s

abbrev pub StepTells : List ℕ → Reader → Result (Command × Reader) Refusal → Type 0
StepTells s r (Ok (c, t)) = HandedBack s r c t
StepTells s r (Err f) = Unit

-- what the width of a command tells of its first byte
by_width : (x w : ℕ) (b : Bool) → eqb x 0 ≡ b → cond b None (Some x) ≡ Some w → (eqb w 0 ≡ false) × (x ≡ w)
by_width x w true e s = absurd cc
by_width x w false e s = let same : x ≡ w = cc in (rw (sym same) e, same)

pub known_width : (b w : ℕ) → width_known b ≡ Some w → (eqb w 0 ≡ false) × (width_of b ≡ w)
known_width b w e = by_width (width_of b) w (eqb (width_of b) 0) refl e

by_none : (x : ℕ) (b : Bool) → eqb x 0 ≡ b → cond b None (Some x) ≡ None → eqb x 0 ≡ true
by_none x true e s = e
by_none x false e s = absurd cc

pub unknown_width : (b : ℕ) → width_known b ≡ None → eqb (width_of b) 0 ≡ true
unknown_width b e = by_none (width_of b) (eqb (width_of b) 0) refl e

-- 01 is the command that names sizes
sizes_byte : (b x y z : ℕ) → is_sizes (command_of b x y z) ≡ eqb b 1
sizes_byte b x y z =
    cond_has (λ c. is_sizes c ≡ eqb b 1) (eqb b 0) (λ t. rw (eqb→eq b 0 t)) λ _.
    cond_has (λ c. is_sizes c ≡ eqb b 1) (eqb b 1) (λ t. sym (test_yes (eqb b 1) t)) λ t.
    rw (test_no (eqb b 1) t)
    (cond_has (λ c. is_sizes c ≡ false) (eqb b 2) (λ _. refl) λ _.
    cond_has (λ c. is_sizes c ≡ false) (eqb b 3) (λ _. refl) λ _.
    cond_has (λ c. is_sizes c ≡ false) (eqb b 4) (λ _. refl) λ _.
    cond_has (λ c. is_sizes c ≡ false) (eqb b 5) (λ _. refl) λ _. refl)

in_turn : (t started : Bool) → T (not (cond t started (not started))) → t ≡ not started
in_turn true true h = absurd h
in_turn true false h = refl
in_turn false true h = refl
in_turn false false h = absurd h

pub next_tells : (s : List ℕ) (r : Reader) → StepTells s r (next_of s r)
unfolding next_of
next_tells s r =
    let at = r.at in
    let b = get_or s at 0 in
    let x = get_or s (at + 1) 0 in
    let y = get_or s (at + 2) 0 in
    let z = get_or s (at + 3) 0 in
    cond_has (StepTells s r) (leb (length s) at) (λ _. tt) λ e1.
    cond_has (StepTells s r) (eqb (width_of b) 0) (λ _. tt) λ e2.
    cond_has (StepTells s r) (is_out_of_turn r.started b) (λ _. tt) λ e3.
    cond_has (StepTells s r) (ltb (length s - at) (width_of b)) (λ _. tt) λ e4.
    cond_has (StepTells s r) (is_out_of_range r.n r.m (command_of b x y z)) (λ _. tt) λ e5.
    let l : at < length s = nleb→lt (length s) at e1 in
    let w : width_of b ≤ length s - at = nltb→le (length s - at) (width_of b) e4 in
    let p : 0 < width_of b = positive (width_of b) (eqb-false (width_of b) 0 (test_no (eqb (width_of b) 0) e2)) in
    record {
      first = sizes_byte b x y z ∙ in_turn (eqb b 1) r.started e3;
      in_range = test_no (is_out_of_range r.n r.m (command_of b x y z)) e5;
      moved = refl;
      ahead = onward at (width_of b) p;
      within = bounded at (width_of b) (length s) l w;
    }
  where
    positive : (k : ℕ) → (k ≡ 0 → ⊥) → 0 < k
    positive k h = omega arith

    onward : (at w : ℕ) → 0 < w → at < at + w
    onward at w h = omega arith

    bounded : (at w k : ℕ) → at < k → w ≤ k - at → at + w ≤ k
    bounded at w k h l = omega arith

pub handed_back : (s : List ℕ) (r : Reader) (c : Command) (t : Reader) → next_of s r ≡ Ok (c, t) → HandedBack s r c t
handed_back s r c t e = subst (StepTells s r) e (next_tells s r)

plain : (at to : ℕ) (before : List Command) (c : Command) → inputs_in c ≡ [] → wires_in c ≡ [] → is_empty before ≡ false
    → moved_past (reader_at at before) c to ≡ reader_at to (before ++ c ∷ [])
plain at to before c i w e = simp (i, w, collect_snoc, is_empty_append, append-nil, e)

-- the reader past the commands before and one more is the reader that `next` hands back
pub reader_moved : (at to : ℕ) (before : List Command) (c : Command) → is_sizes c ≡ is_empty before
    → moved_past (reader_at at before) c to ≡ reader_at to (before ++ c ∷ [])
unfolding collect
reader_moved at to before (Sizes n m) e = rw (is_empty_nil before (sym e))
reader_moved at to before End e = plain at to before End refl refl (sym e)
reader_moved at to before (Row p v) e = plain at to before (Row p v) refl refl (sym e)
reader_moved at to before (DontCare p) e = plain at to before (DontCare p) refl refl (sym e)
reader_moved at to before (Gate k a b) e = plain at to before (Gate k a b) refl refl (sym e)
reader_moved at to before (Output s) e = plain at to before (Output s) refl refl (sym e)
reader_moved at to before (Limit p w) e = plain at to before (Limit p w) refl refl (sym e)
