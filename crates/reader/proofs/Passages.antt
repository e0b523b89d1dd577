-- What is known of the commands that a sheet holds: each was in order after those before it, and at the end no pattern is missing.
use Prim.Native.Nat.{ℕ, zero, suc, ◌<◌, ◌≤◌, ◌^◌}
use mathlib.Core.Path.{◌≡◌, refl, sym, subst, ◌∙◌}
use mathlib.Core.Bool
use mathlib.Core.Bool.{true, false, not}
use mathlib.Core.List.{List, [], ◌∷◌, ◌++◌}
use native.Mathlib.Omega.{arith}
use lib.Dec.{ltb, nltb→le, not_T}
use lib.ListN.{length}
use Rattle.base.proofs.Tests.{cond_has, test_yes, test_no, not_not}
use Rattle.base.proofs.Lowest.{lowest_below}
use Rattle.sheet.specs.declared.Command.{Command}
use Rattle.reader.specs.declared.Reader.{Reader}
use Rattle.std.specs.Prelude.{Result, Ok, Err}
use Rattle.base.specs.declared.Refusal.{Refusal}
use Rattle.sheet.specs.Commands.{is_empty, is_sizes, inputs_of, is_marked, wires_of}
use Rattle.reader.specs.Reader.{is_out_of_range, reader_at, next_of}
use Rattle.sheet.specs.Judged.{Reading, holds, is_not_made, is_repeated, is_too_many, judged, missing, ending, refused}
use Rattle.reader.specs.Reading.{is_end, Passage, over, on, onward, after_step, one_command, continued, reading_from, reading_of}
use Rattle.reader.proofs.Steps.{HandedBack, StepTells, next_tells}

-- a command that is in order after the commands before it
pub record InOrder (before : List Command) (c : Command) : Type 0 where
  pub first : is_sizes c ≡ is_empty before
  pub in_range : is_out_of_range (inputs_of before) (wires_of before) c ≡ false
  pub made : is_not_made before c ≡ false
  pub new : is_repeated before c ≡ false
  pub room : is_too_many before c ≡ false

-- one command more, in order
pub data Grown (before : List Command) : List Command → Type 0 where
  grown : (c : Command) → InOrder before c → Grown before (before ++ c ∷ [])

-- each pattern has 02 or 03
abbrev pub Complete : List Command → Type 0
Complete cs = (p : ℕ) → p < 2 ^ inputs_of cs → is_marked p cs ≡ true

abbrev pub JudgedTells : List Command → Command → Reading → Type 0
JudgedTells before c (holds cs) = (cs ≡ before ++ c ∷ []) × (is_not_made before c ≡ false) × (is_repeated before c ≡ false) × (is_too_many before c ≡ false)
JudgedTells before c (refused f) = Unit

pub judged_tells : (before : List Command) (c : Command) (at : ℕ) → JudgedTells before c (judged before c at)
unfolding judged
judged_tells before c at =
    cond_has (JudgedTells before c) (is_not_made before c) (λ _. tt) λ e1.
    cond_has (JudgedTells before c) (is_repeated before c) (λ _. tt) λ e2.
    cond_has (JudgedTells before c) (is_too_many before c) (λ _. tt) λ e3.
    (refl, test_no (is_not_made before c) e1, test_no (is_repeated before c) e2, test_no (is_too_many before c) e3)

abbrev EndTells : List Command → Reading → Type 0
EndTells before (holds cs) = Grown before cs × Complete cs
EndTells before (refused f) = Unit

abbrev pub PassageTells : List ℕ → ℕ → List Command → Passage → Type 0
PassageTells s at before (over x) = EndTells before x
PassageTells s at before (on cs to) = Grown before cs × (at < to) × (to ≤ length s)

ending_tells : (s : List ℕ) (to : ℕ) (before cs : List Command) → Grown before cs → EndTells before (ending s to cs)
unfolding ending
ending_tells s to before cs g =
    cond_has (EndTells before) (ltb to (length s)) (λ _. tt) λ _.
    cond_has (EndTells before) (ltb (missing cs) (2 ^ inputs_of cs)) (λ _. tt) λ e. (
      g,
      λ p l. test_yes (is_marked p cs) (not_not (is_marked p cs) (not_T (not (is_marked p cs)) λ t.
          omega (arith, lowest_below (2 ^ inputs_of cs) (λ q. not (is_marked q cs)) p l t, nltb→le (missing cs) (2 ^ inputs_of cs) e))),
    )

onward_tells : (s : List ℕ) (at : ℕ) (before : List Command) (c : Command) (t : Reader) (x : Reading)
    → HandedBack s (reader_at at before) c t → JudgedTells before c x → PassageTells s at before (onward s c t.at x)
onward_tells s at before c t (refused f) b j = tt
onward_tells s at before c t (holds cs) b j =
    cond_has (PassageTells s at before) (is_end c) (λ _. ending_tells s t.at before cs g) (λ _. (g, b.ahead, b.within))
  where
    order : InOrder before c
    order = record { first = b.first ∙ Bool.not-not (is_empty before); in_range = b.in_range; made = j.1; new = j.2; room = j.3 }

    g : Grown before cs
    g = subst (Grown before) (sym j.0) (grown c order)

pub passage_tells : (s : List ℕ) (at : ℕ) (before : List Command) → PassageTells s at before (one_command s at before)
unfolding one_command
passage_tells s at before = go (next_of s (reader_at at before)) (next_tells s (reader_at at before))
  where
    go : (x : Result (Command × Reader) Refusal) → StepTells s (reader_at at before) x → PassageTells s at before (after_step s at before x)
    go (Ok (c, t)) b = onward_tells s at before c t (judged before c at) b (judged_tells before c at)
    go (Err f) b = tt

some : (before cs : List Command) → Grown before cs → is_empty cs ≡ false
some [] cs (grown c o) = refl
some (x ∷ before) cs (grown c o) = refl

-- what holds of no commands, and of one more in order where it holds of those before, holds of the commands of every sheet
module _ (P : List Command → Type 0) (none : P [])
    (more : (before : List Command) (c : Command) → P before → InOrder before c → P (before ++ c ∷ [])) (s : List ℕ) where
  kept : (before cs : List Command) → P before → Grown before cs → P cs
  kept before cs p (grown c o) = more before c p o

  from : (k at : ℕ) (before cs : List Command) → P before → reading_from k s at before ≡ holds cs → P cs × Complete cs × (is_empty cs ≡ false)
  unfolding reading_from
  from zero at before cs p e = let z : ◌≡◌ {A = ℕ} 0 1 = cc in absurd (omega arith)
  from (suc k) at before cs p e =
      go (one_command s at before) (passage_tells s at before) e (λ to x q f. from k to x cs q f)
    where
      go : (x : Passage) → PassageTells s at before x → continued (reading_from k s) x ≡ holds cs
          → ((to : ℕ) (x : List Command) → P x → reading_from k s to x ≡ holds cs → P cs × Complete cs × (is_empty cs ≡ false))
          → P cs × Complete cs × (is_empty cs ≡ false)
      go (over (holds x)) t e ih =
          let z : x ≡ cs = cc in
          subst (λ y. P y × Complete y × (is_empty y ≡ false)) z (kept before x p t.0, t.1, some before x t.0)
      go (over (refused f)) t e ih = let z : ◌≡◌ {A = ℕ} 0 1 = cc in absurd (omega arith)
      go (on x to) t e ih = ih to x (kept before x p t.0) e

  pub every_sheet : (cs : List Command) → reading_of s ≡ holds cs → P cs × Complete cs × (is_empty cs ≡ false)
  unfolding reading_of
  every_sheet cs e = from (length s) 0 [] cs none e
