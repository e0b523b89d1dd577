-- What the equations of cleaning a sheet promise.
use Prim.Native.Nat.{ℕ, ◌≤◌}
use mathlib.Core.Path.{◌≡◌, refl, sym, ap, subst, ◌∙◌}
use mathlib.Core.Bool.{not}
use mathlib.Core.List.{List, ◌++◌}
use native.Mathlib.Omega.{arith}
use lib.Dec.{T, ltb}
use lib.ListN.{length, take, drop}
use Rattle.base.specs.declared.Refusal.{Refusal}
use Rattle.std.specs.Prelude.{Err}
use Rattle.base.specs.Cases.{Case, accepting, accepted_outcome, is_refused, written_case}
use Rattle.base.specs.Refusals.{empty, short_buffer}
use Rattle.base.specs.Buffers.{fitted, buffer_with}
use Rattle.base.proofs.Buffers.{fitted_room, front_written}
use Rattle.base.proofs.Tests.{cond_has}
use Rattle.sheet.specs.declared.Command.{Command}
use Rattle.sheet.specs.declared.Sheet.{Sheet}
use Rattle.sheet.specs.Cases.{sheet_reply}
use Rattle.sheet.specs.Gathered.{gathered}
use Rattle.sheet.specs.Judged.{Reading, holds, refused}
use Rattle.sheet.proofs.SayingSame.{say_same_gathered}
use Rattle.reader.specs.Reading.{reading_of, reply_told}
use Rattle.reader.proofs.Numbers.{reading_early}
use Rattle.reader.proofs.Replies.{refused_reply_lem}
use Rattle.reader.proofs.Sound.{Sound, sound}
use Rattle.reader.specs.Inner.WasRead.{WasRead}
use Rattle.unit.proofs.Alike.{same_formed}
use Rattle.unit.proofs.Rivals.{commands_only}
use Rattle.reader.proofs.Placed.{placed_all}
use Rattle.nodes.specs.declared.BoardKind.{BoardKind}
use Rattle.quote.specs.Quote.{quoted_of, buffer_quoted}
use Rattle.clean.specs.Copy.{copy_commands, copy_bytes, longest_copy}
use Rattle.clean.specs.Cleaned.{cleaned_from, cleaned_of, buffer_cleaned_from, buffer_cleaned}
use Rattle.clean.specs.CleanCopy.{GatherAlike, SameCopy, CleanCopy, CleanPromise}
use Rattle.clean.proofs.ReadingCopies.{copy_read, copy_gathers, copy_says, copy_limits}
use Rattle.clean.proofs.CopyLengths.{copy_length_lem, copy_short}

-- 10 is neither a refusal of reading nor 12
never_ten : (sheet : List ℕ) (room : ℕ) (x : Reading) → reading_of sheet ≡ x → (cleaned_from x room).number ≡ empty → ⊥
unfolding cleaned_from
never_ten sheet room (refused f) e q = let told : f.number ≡ empty = q in omega (arith, reading_early sheet f e, told)
never_ten sheet room (holds cs) e q = let told : (fitted (copy_bytes (gathered cs)) room).number ≡ empty = q in by_room told
  where
    short_is_other : short_buffer ≡ empty → ⊥
    short_is_other z = omega arith

    none_is_other : 0 ≡ empty → ⊥
    none_is_other z = omega arith

    by_room : (fitted (copy_bytes (gathered cs)) room).number ≡ empty → ⊥
    by_room =
        cond_has (λ (c : Case). c.number ≡ empty → ⊥) (ltb room (length (copy_bytes (gathered cs)))) (λ _. short_is_other) (λ _. none_is_other)

-- a sheet that was read, by its commands
module _ (sheet : List ℕ) (cs : List Command) (e : reading_of sheet ≡ holds cs) where
  s : Sound cs
  s = sound sheet cs e

  text : List ℕ
  text = copy_bytes (gathered cs)

  alike : GatherAlike sheet text
  unfolding text
  alike = record { commands = cs; held = e; others = copy_commands (gathered cs); held_others = copy_read cs s; gathers = sym (copy_gathers cs s) }

  short : length text ≤ longest_copy
  unfolding text
  short = subst (λ k. k ≤ longest_copy) (sym (copy_length_lem (gathered cs))) (copy_short (gathered cs) (placed_all cs s))

  equal_from : (other : List ℕ) (ds : List Command) → reading_of other ≡ holds ds → gathered cs ≡ gathered ds → SameCopy sheet other
  unfolding cleaned_of cleaned_from buffer_cleaned buffer_cleaned_from
  equal_from other ds held same buffer = (rw (e, held, same), rw (e, held, same))

  equal : (other : List ℕ) → GatherAlike sheet other → SameCopy sheet other
  equal other g =
      equal_from other g.others g.held_others (ap gathered (commands_only sheet cs g.commands e g.held) ∙ g.gathers)

  again : (buffer : List ℕ) → length text ≤ length buffer
      → (cleaned_of text (length buffer) ≡ accepting accepted_outcome (length text)) × (buffer_cleaned text buffer ≡ text ++ drop (length text) buffer)
  unfolding text cleaned_of cleaned_from buffer_cleaned buffer_cleaned_from
  again buffer l =
      let fits : fitted text (length buffer) ≡ accepting accepted_outcome (length text) = fitted_room text (length buffer) l in
      (rw (copy_read cs s, copy_gathers cs s) fits, rw (copy_read cs s, copy_gathers cs s) (ap (buffer_with text buffer) fits))

  -- the copy and the sheet form the same relation
  same_quote : (kind : BoardKind) (budget : ℕ) (buffer : List ℕ)
      → (quoted_of kind text budget (length buffer) ≡ quoted_of kind sheet budget (length buffer))
      × (buffer_quoted kind text budget buffer ≡ buffer_quoted kind sheet budget buffer)
  unfolding text quoted_of buffer_quoted
  same_quote kind budget buffer =
      let own : WasRead (gathered cs) = record { bytes = sheet; commands = cs; held = e; gathers = refl } in
      let copied : WasRead (gathered cs) =
      record { bytes = text; commands = copy_commands (gathered cs); held = copy_read cs s; gathers = sym (copy_gathers cs s) } in
      let same = same_formed copied own in
      (rw same, rw same)

  clean_copy : CleanCopy sheet text
  unfolding text alike
  clean_copy =
      record {
        same = alike;
        says_same = copy_says cs s;
        one_limit = copy_limits cs s;
        length_told = copy_length_lem (gathered cs);
        short = short;
        again = again;
        equal = equal;
        equal_said = λ other ds held said. equal_from other ds held (say_same_gathered cs ds said);
        same_quote = same_quote;
      }

-- the promise of the equations
pub clean_promised : (sheet buffer : List ℕ) → CleanPromise sheet (cleaned_of sheet (length buffer)) (buffer_cleaned sheet buffer)
unfolding cleaned_of cleaned_from buffer_cleaned buffer_cleaned_from text
clean_promised sheet buffer = record {
  never_empty = never_ten sheet (length buffer) (reading_of sheet) refl;
  copied = copied (reading_of sheet) refl;
}
  where
    copied : (x : Reading) → reading_of sheet ≡ x → T (not (is_refused (cleaned_from x (length buffer))))
        → CleanCopy sheet (take (cleaned_from x (length buffer)).value (buffer_cleaned_from x buffer))
    copied (refused f) e h = absurd h
    copied (holds cs) e h = subst (CleanCopy sheet) (sym (front_written (copy_bytes (gathered cs)) buffer h)) (clean_copy sheet cs e)

-- what `clean` leaves where reading refuses, and where the copy is written
module _ (sheet buffer : List ℕ) where
  pub refused_cleaned : (f : Refusal) → sheet_reply (Err f) ≡ reply_told (reading_of sheet)
      → (written_case (Err f) ≡ cleaned_of sheet (length buffer)) × (buffer ≡ buffer_cleaned sheet buffer)
  unfolding cleaned_of cleaned_from buffer_cleaned buffer_cleaned_from
  refused_cleaned f e = let x = refused_reply_lem f (reading_of sheet) e in (rw x, rw x)

  pub written_cleaned : (read : Sheet) (own : WasRead read) → own.bytes ≡ sheet → {c : Case} {after : List ℕ}
      → (c ≡ fitted (copy_bytes read) (length buffer))
      × (after ≡ buffer_with (copy_bytes read) buffer (fitted (copy_bytes read) (length buffer)))
      → (c ≡ cleaned_of sheet (length buffer)) × (after ≡ buffer_cleaned sheet buffer)
  unfolding cleaned_of cleaned_from buffer_cleaned buffer_cleaned_from
  written_cleaned read own same h =
      let held : reading_of sheet ≡ holds own.commands = ap reading_of (sym same) ∙ own.held in
      rw held (rw own.gathers at h)

-- the three clauses of the contract from the two equations
pub clauses : (sheet buffer : List ℕ) {c : Case} {after : List ℕ} → (c ≡ cleaned_of sheet (length buffer)) × (after ≡ buffer_cleaned sheet buffer)
    → (c ≡ cleaned_of sheet (length buffer)) × ((after ≡ buffer_cleaned sheet buffer) × CleanPromise sheet c after)
clauses sheet buffer h = (h.0, (h.1, rw (h.0, h.1) (clean_promised sheet buffer)))
