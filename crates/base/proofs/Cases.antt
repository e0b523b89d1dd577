-- Laws of cases: they tell an acceptance from a refusal, one refusal from another, and with a way back from its cases an answer from every other.
use Prim.Native.Nat.{ℕ}
use mathlib.Core.Path.{◌≡◌, refl, sym, ap, ap₂, ◌∙◌}
use mathlib.Core.Bool.{cond}
use native.Mathlib.Omega.{arith}
use Rattle.base.specs.declared.Refusal.{Refusal}
use Rattle.std.specs.Prelude.{Result, Ok, Err}
use Rattle.base.specs.Refusals.{refusal_at}
use Rattle.base.specs.Cases.{Case, accepted_case, refusing, refused_case, is_refused, verdict_case, written_case}

pub accepted_refused : {A : Type 0} (f : Refusal) → accepted_case ≡ refused_case f → A
accepted_refused f e = absurd (omega (arith, ap (λ (c : Case). c.outcome) e))

pub refused_accepted : {A : Type 0} (f : Refusal) → refused_case f ≡ accepted_case → A
refused_accepted f e = absurd (omega (arith, ap (λ (c : Case). c.outcome) e))

pub same_refusal : (o : ℕ) (f g : Refusal) → refusing o f ≡ refusing o g → f ≡ g
same_refusal o f g e = ap₂ refusal_at (ap (λ (c : Case). c.number) e) (ap (λ (c : Case). c.place) e)

-- answers that can be had back from what is told of them are the same where they are told alike
pub told_one : {A B : Type 0} (told : A → B) (back : B → A) → ((a : A) → back (told a) ≡ a) → (a b : A) → told a ≡ told b → a ≡ b
told_one told back undo a b e = sym (undo a) ∙ ap back e ∙ undo b

-- and those that can be had back from their cases, where their cases are
pub case_one : {A : Type 0} (case : A → Case) (back : Case → A) → ((a : A) → back (case a) ≡ a) → (a b : A) → case a ≡ case b → a ≡ b
case_one = told_one

-- the case of a verdict tells the verdict
abbrev verdict_of : Case → Result Unit Refusal
verdict_of c = cond (is_refused c) (Err (refusal_at c.number c.place)) (Ok tt)

verdict_back : (v : Result Unit Refusal) → verdict_of (verdict_case v) ≡ v
verdict_back (Ok u) = refl
verdict_back (Err f) = refl

pub verdict_one : (v w : Result Unit Refusal) → verdict_case v ≡ verdict_case w → v ≡ w
verdict_one = case_one verdict_case verdict_of verdict_back

-- and so does that of what was written
abbrev written_back : Case → Result ℕ Refusal
written_back c = cond (is_refused c) (Err (refusal_at c.number c.place)) (Ok c.value)

written_undo : (a : Result ℕ Refusal) → written_back (written_case a) ≡ a
written_undo (Ok k) = refl
written_undo (Err f) = refl

pub written_one : (a b : Result ℕ Refusal) → written_case a ≡ written_case b → a ≡ b
written_one = case_one written_case written_back written_undo
