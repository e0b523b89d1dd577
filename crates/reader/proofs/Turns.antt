-- One turn of the loop over the commands, and what is left of the reading after it.
use Prim.Native.Nat.{ℕ, suc, ◌+◌, ◌-◌, ◌<◌, ◌≤◌}
use mathlib.Core.Path.{◌≡◌, sym, ap, subst, ◌∙◌}
use mathlib.Core.Bool.{true, false, not, not-not}
use mathlib.Core.List.{List, [], ◌∷◌, ◌++◌}
use native.Mathlib.Nat.{sub-zero}
use native.Mathlib.Omega.{arith}
use lib.ListN.{length}
use Rattle.base.specs.declared.Refusal.{Refusal}
use Rattle.sheet.specs.Limits.{max_inputs}
use Rattle.base.specs.Refusals.{refusal_at, cut_short}
use Rattle.sheet.specs.declared.Command.{Command}
use Rattle.sheet.specs.declared.Command.TheVariants.{Sizes}
use Rattle.reader.specs.declared.Reader.{Reader}
use Rattle.sheet.specs.declared.Sheet.{Sheet}
use Rattle.std.specs.Prelude.{Option, Some, None, Ok, Err}
use Rattle.reader.specs.declared.Turn.{Turn}
use Rattle.sheet.specs.Commands.{is_empty, collect, is_sizes, inputs_of}
use Rattle.sheet.specs.Gathered.{gathered}
use Rattle.reader.specs.Reader.{reader_at, moved_past, next_of}
use Rattle.sheet.specs.Judged.{Reading, holds, judged, ending, refused}
use Rattle.reader.specs.Reading.{is_end, Passage, over, on, onward, after_step, one_command, continued, reading_from, reading_of}
use Rattle.reader.specs.Inner.Turns.{turn_of}
use Rattle.sheet.specs.Inner.Gathering.{gathered_reply}
use Rattle.sheet.proofs.Fields.{nothing}
use Rattle.reader.proofs.Steps.{HandedBack, reader_moved}
use Rattle.reader.proofs.InRange.{inputs_fit}
use Rattle.reader.proofs.Passages.{Grown, grown, JudgedTells, judged_tells, PassageTells, passage_tells}

-- an accepted command is one more
accepted_holds : (before : List Command) (c : Command) (x : Reading) (sheet : Sheet) → JudgedTells before c x
    → gathered_reply x ≡ Ok sheet → x ≡ holds (before ++ c ∷ [])
unfolding gathered_reply
accepted_holds before c (holds cs) sheet t e = ap holds t.0
accepted_holds before c (refused f) sheet t e = absurd cc

refused_is : (x : Reading) (f : Refusal) → gathered_reply x ≡ Err f → x ≡ refused f
unfolding gathered_reply
refused_is (holds cs) f e = absurd cc
refused_is (refused g) f e = cc

no_reader : (r : Reader) → Some r ≡ None → ⊥
no_reader r e = absurd cc

abbrev made : Sheet → Option Reader → Turn
made sheet next = record { sheet = sheet; next = next }

module _ (before : List Command) (c : Command) (at : ℕ) (s : List ℕ) where
  pub accepted_is : (sheet : Sheet) → gathered_reply (judged before c at) ≡ Ok sheet → judged before c at ≡ holds (before ++ c ∷ [])
  accepted_is sheet e = accepted_holds before c (judged before c at) sheet (judged_tells before c at) e

  pub accepted_sheet : (sheet : Sheet) → gathered_reply (judged before c at) ≡ Ok sheet → sheet ≡ gathered (before ++ c ∷ [])
  unfolding gathered_reply
  accepted_sheet sheet e =
      let f : Ok (gathered (before ++ c ∷ [])) ≡ Ok sheet = ap gathered_reply (sym (accepted_is sheet e)) ∙ e in
      cc

  pub follow_refused : (to : ℕ) (f : Refusal) → gathered_reply (judged before c at) ≡ Err f → Err f ≡ turn_of (onward s c to (judged before c at))
  follow_refused to f e = rw (refused_is (judged before c at) f e)

whole_turn : (x : Reading) (sheet : Sheet) → gathered_reply x ≡ Ok sheet → Ok (made sheet None) ≡ turn_of (over x)
unfolding gathered_reply
whole_turn (holds cs) sheet e = let same : gathered cs ≡ sheet = cc in ap (λ (x : Sheet). Ok (made x None)) (sym same)
whole_turn (refused f) sheet e = absurd cc

module _ (cs : List Command) (c : Command) (s : List ℕ) (to : ℕ) where
  pub follow_end : (sheet : Sheet) → is_end c ≡ true → gathered_reply (ending s to cs) ≡ Ok sheet
      → Ok (made sheet None) ≡ turn_of (onward s c to (holds cs))
  follow_end sheet g e = rw g (whole_turn (ending s to cs) sheet e)

  pub follow_short : (f : Refusal) → is_end c ≡ true → gathered_reply (ending s to cs) ≡ Err f → Err f ≡ turn_of (onward s c to (holds cs))
  follow_short f g e = rw (g, refused_is (ending s to cs) f e)

  pub follow_on : (sheet : Sheet) (t : Reader) → sheet ≡ gathered cs → t ≡ reader_at to cs → is_end c ≡ false
      → Ok (made sheet (Some t)) ≡ turn_of (onward s c to (holds cs))
  follow_on sheet t e q g = rw (g, e, q)

-- one command that the reader hands back, or refuses
module _ (s : List ℕ) (before : List Command) (r : Reader) (e : r ≡ reader_at r.at before) where
  pub one_read : (c : Command) (t : Reader) → next_of s r ≡ Ok (c, t) → onward s c t.at (judged before c r.at) ≡ one_command s r.at before
  unfolding one_command
  one_read c t f = ap (after_step s r.at before) (sym f ∙ ap (next_of s) e)

  pub one_refused : (f : Refusal) → next_of s r ≡ Err f → over (refused f) ≡ one_command s r.at before
  unfolding one_command
  one_refused f g = ap (after_step s r.at before) (sym g ∙ ap (next_of s) e)

  module _ (c : Command) (t : Reader) (b : HandedBack s r c t) where
    pub sizes_first : is_sizes c ≡ is_empty before
    sizes_first = b.first ∙ ap (λ (x : Reader). not x.started) e ∙ not-not (is_empty before)

    pub reader_past : t ≡ reader_at t.at (before ++ c ∷ [])
    reader_past = b.moved ∙ ap (λ (x : Reader). moved_past x c t.at) e ∙ reader_moved r.at t.at before c sizes_first

    pub reader_small : r.n ≤ max_inputs → t.n ≤ max_inputs
    reader_small h = rw b.moved (inputs_fit r c t.at h b.in_range)

-- where the loop stands: what was gathered, where the reader is, and that what is left gives the whole reading
pub record Going (s : List ℕ) (left : ℕ) (sheet : Sheet) (reader : Reader) : Type 0 where
  pub before : List Command
  pub gathered_is : sheet ≡ gathered before
  pub reader_is : reader ≡ reader_at reader.at before
  pub small : reader.n ≤ max_inputs
  pub rest : reading_from left s reader.at before ≡ reading_of s

pub going_first : (s : List ℕ) (sheet : Sheet) (reader : Reader)
    → sheet ≡ gathered (Sizes 0 0 ∷ []) → reader ≡ reader_at 0 [] → Going s (length s - 0) sheet reader
unfolding reading_of collect
going_first s sheet reader e f =
    record {
      before = [];
      gathered_is = e ∙ nothing;
      reader_is = f ∙ ap (λ (x : ℕ). reader_at x []) (sym (ap (λ (x : Reader). x.at) f));
      small = rw f (omega arith);
      rest = rw f (rw sub-zero);
    }

still_small : (before cs : List Command) → inputs_of before ≤ max_inputs → Grown before cs → inputs_of cs ≤ max_inputs
still_small before cs h (grown c o) =
    subst (λ (x : Reader). x.n ≤ max_inputs) (reader_moved 0 0 before c o.first) (inputs_fit (reader_at 0 before) c 0 h o.in_range)

module _ (s : List ℕ) (before : List Command) (at k : ℕ) (h : inputs_of before ≤ max_inputs) (t : Turn) where
  passed : (x : Passage) (r : Reader) → PassageTells s at before x → continued (reading_from k s) x ≡ reading_of s
      → Ok t ≡ turn_of x → t.next ≡ Some r → Going s k t.sheet r
  passed (over (holds cs)) r p f e q = let told : t ≡ made (gathered cs) None = cc in absurd (no_reader r (sym q ∙ ap (λ (x : Turn). x.next) told))
  passed (over (refused g)) r p f e q = absurd cc
  passed (on cs to) r p f e q =
      let told : t ≡ made (gathered cs) (Some (reader_at to cs)) = cc in
      let moved : r ≡ reader_at to cs = on_same (sym q ∙ ap (λ (x : Turn). x.next) told) in
      let place : r.at ≡ to = ap (λ (x : Reader). x.at) moved in
      record {
        before = cs;
        gathered_is = ap (λ (x : Turn). x.sheet) told;
        reader_is = moved ∙ ap (λ (x : ℕ). reader_at x cs) (sym place);
        small = subst (λ (x : Reader). x.n ≤ max_inputs) (sym moved) (still_small before cs h p.0);
        rest = ap (λ (x : ℕ). reading_from k s x cs) place ∙ f;
      }
    where
      on_same : {a b : Reader} → Some a ≡ Some b → a ≡ b
      on_same e = cc

  stopped : (x : Passage) → continued (reading_from k s) x ≡ reading_of s
      → Ok t ≡ turn_of x → t.next ≡ None → Ok t.sheet ≡ gathered_reply (reading_of s)
  unfolding gathered_reply
  stopped (over (holds cs)) f e q =
      let told : t ≡ made (gathered cs) None = cc in
      ap (λ (x : Turn). Ok x.sheet) told ∙ ap gathered_reply f
  stopped (over (refused g)) f e q = absurd cc
  stopped (on cs to) f e q =
      let told : t ≡ made (gathered cs) (Some (reader_at to cs)) = cc in
      absurd (no_reader (reader_at to cs) (sym (ap (λ (x : Turn). x.next) told) ∙ q))

cut : (x : Passage) (f : Refusal) (k : ℕ) (s : List ℕ) → continued (reading_from k s) x ≡ reading_of s
    → Err f ≡ turn_of x → Err f ≡ gathered_reply (reading_of s)
unfolding gathered_reply
cut (over (holds cs)) f k s g e = absurd cc
cut (over (refused h)) f k s g e = let same : f ≡ h = cc in ap Err same ∙ ap gathered_reply g
cut (on cs to) f k s g e = absurd cc

module _ (s : List ℕ) (sheet : Sheet) (reader : Reader) (n i : ℕ) (g : Going s (n - i) sheet reader) where
  small_before : inputs_of g.before ≤ max_inputs
  small_before = subst (λ (x : Reader). x.n ≤ max_inputs) g.reader_is g.small

  left : i < n → n - i ≡ suc (n - (i + 1))
  left l = omega arith

  unfolded : i < n → continued (reading_from (n - (i + 1)) s) (one_command s reader.at g.before) ≡ reading_of s
  unfolding reading_from
  unfolded l = rw (left l) at g.rest

  pub goes_on : (t : Turn) (r : Reader) → i < n → Ok t ≡ turn_of (one_command s reader.at g.before) → t.next ≡ Some r → Going s (n - (i + 1)) t.sheet r
  goes_on t r l e q =
      passed s g.before reader.at (n - (i + 1)) small_before t (one_command s reader.at g.before) r
      (passage_tells s reader.at g.before) (unfolded l) e q

  pub stops : (t : Turn) → i < n → Ok t ≡ turn_of (one_command s reader.at g.before) → t.next ≡ None → Ok t.sheet ≡ gathered_reply (reading_of s)
  stops t l e q = stopped s g.before reader.at (n - (i + 1)) small_before t (one_command s reader.at g.before) (unfolded l) e q

  pub cuts : (f : Refusal) → i < n → Err f ≡ turn_of (one_command s reader.at g.before) → Err f ≡ gathered_reply (reading_of s)
  cuts f l e = cut (one_command s reader.at g.before) f (n - (i + 1)) s (unfolded l) e

  pub ends : n ≤ i → Err (refusal_at cut_short reader.at) ≡ gathered_reply (reading_of s)
  unfolding reading_from gathered_reply
  ends l = let k : n - i ≡ 0 = omega arith in ap gathered_reply (rw k at g.rest)
