-- Counting refusals as the second's changes the outcome of a refusal and nothing else, so that a quote's promise stays.
use Prim.Native.Nat.{ℕ, ◌<◌}
use mathlib.Core.Path.{◌≡◌, refl, sym, ◌∙◌}
use mathlib.Core.Logic.{⊎_elim, inl, inr}
use mathlib.Core.Bool.{Bool, true, false, cond}
use mathlib.Core.List.{List}
use native.Mathlib.Omega.{arith}
use Rattle.base.specs.Cases.{Case, is_refused, refused_outcome, second_refused_outcome}
use Rattle.table.specs.Drawing.{Drawing}
use Rattle.quote.specs.Cases.{QuoteReply}
use Rattle.quote.specs.AnyQuote.{PromisedOf}
use Rattle.joined.specs.Joint.{as_second, quoted_as_second}

-- by the test
abbrev chosen : Bool → Case → Case
chosen b c = cond b (record { outcome = second_refused_outcome; number = c.number; place = c.place; value = c.value }) c

outcome_by : (b : Bool) (c : Case) (k : ℕ) → k < refused_outcome → (chosen b c).outcome ≡ k → c.outcome ≡ k
outcome_by true c k h e = absurd (omega arith)
outcome_by false c k h e = e

number_by : (b : Bool) (c : Case) → (chosen b c).number ≡ c.number
number_by true c = refl
number_by false c = refl

same_outcome : (c : Case) (k : ℕ) → k < refused_outcome → (as_second c).outcome ≡ k → c.outcome ≡ k
unfolding as_second
same_outcome c = outcome_by (is_refused c) c

same_number : (c : Case) → (as_second c).number ≡ c.number
unfolding as_second
same_number c = number_by (is_refused c) c

pub second_promise : (D : Drawing) (n m : ℕ) (Wanted : List D.Shape → Type 0) (None : Type 0) (budget : ℕ) (r : QuoteReply) (buffer : List ℕ)
    → PromisedOf D n m Wanted None budget r buffer → PromisedOf D n m Wanted None budget (quoted_as_second r) buffer
second_promise D n m Wanted None budget r buffer p =
    let back : (k : ℕ) → k < refused_outcome → (as_second r.mark).outcome ≡ k → r.mark.outcome ≡ k = same_outcome r.mark in
    record {
      best = λ h. p.best (back 0 (omega arith) h);
      stopped = λ h. p.stopped (back 1 (omega arith) h);
      own = λ a. p.own (⊎_elim (λ h. inl (back 0 (omega arith) h)) (λ h. inr (back 1 (omega arith) h)) a);
      within = p.within;
      spent = λ h. p.spent (back 1 (omega arith) h);
      refused = (λ e. p.refused.0 (sym (same_number r.mark) ∙ e), λ h. same_number r.mark ∙ p.refused.1 h);
    }
