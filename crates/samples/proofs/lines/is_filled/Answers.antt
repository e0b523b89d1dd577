-- `is_filled` meets its contract: each byte is as it was filled just where `all_filled` says so.
use Rattle.std.proofs.Common.{ℕ, zero, suc, ◌≡◌, ◌↔◌, List, [], ◌∷◌, get_or, rules, refl, eqb, true, false, Bool, arith, IsTrue, EachIndex}
use borrow.Author.Tests.{eq-eqb}
use lib.Dec.{eqb→eq}
use Rattle.base.proofs.Tests.{cond_has}
use Rattle.samples.specs.Inner.Lines.{fill, all_filled}
use Rattle.samples.proofs.lines.is_filled.Goals as goal

Filled : List ℕ → Type 0
Filled xs = EachIndex xs (λ k. get_or xs k 0 ≡ fill)

one_more : (x : ℕ) (xs : List ℕ) → x ≡ fill → Filled xs → Filled (x ∷ xs)
unfolding Filled
one_more x xs e a zero h = e
one_more x xs e a (suc k) h = a k (omega arith)

untrue : (b : Bool) → (IsTrue b → ⊥) → b ≡ false
untrue true h = absurd (h refl)
untrue false h = refl

tells : (xs : List ℕ) (b : Bool) → (IsTrue b ↔ Filled xs) → b ≡ all_filled xs
unfolding all_filled Filled
tells [] b t = t.1 (λ k h. absurd (omega arith))
tells (x ∷ xs) b t =
    cond_has (λ f. b ≡ f) (eqb x fill)
    (λ e. tells xs b (λ p k h. t.0 p (suc k) (omega arith), λ a. t.1 (one_more x xs (eqb→eq x fill e) a)))
    (λ n. untrue b (λ p. rw (eq-eqb x fill (t.0 p 0 (omega arith))) at n))

pub returns : goal.returns
unfolding Filled
returns c = tells c.args.bytes.now c.all.result (search rules)
