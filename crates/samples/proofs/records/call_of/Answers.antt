-- `call_of` meets its contract: each arm is the case of `call_of` for its letter.
use Prim.Native.Nat.{ℕ}
use mathlib.Core.Path.{◌≡◌, sym, ap}
use native.Mathlib.Omega.{arith}
use borrow.Author.Tests.{ne_eqb}
use Rattle.samples.specs.Inner.Records.{call_of}
use Rattle.samples.proofs.records.call_of.Goals as goal

-- a letter that is no small one of a call
stays : (b : ℕ) → (b ≡ 0x71 → ⊥) → (b ≡ 0x61 → ⊥) → (b ≡ 0x73 → ⊥) → (b ≡ 0x77 → ⊥) → (b ≡ 0x72 → ⊥) → call_of b ≡ b
unfolding call_of
stays b q a s w r = rw (ne_eqb b _ q, ne_eqb b _ a, ne_eqb b _ s, ne_eqb b _ w, ne_eqb b _ r)

pub returns-in-113 : goal.returns-in-113
unfolding call_of
returns-in-113 c = sym (ap call_of c.in-113.is)

pub returns-in-97 : goal.returns-in-97
unfolding call_of
returns-in-97 c = sym (ap call_of c.in-97.is)

pub returns-in-115 : goal.returns-in-115
unfolding call_of
returns-in-115 c = sym (ap call_of c.in-115.is)

pub returns-in-119 : goal.returns-in-119
unfolding call_of
returns-in-119 c = sym (ap call_of c.in-119.is)

pub returns-in-114 : goal.returns-in-114
unfolding call_of
returns-in-114 c = sym (ap call_of c.in-114.is)

-- what no arm before took is none of their letters
pub returns-in_default : goal.returns-in_default
returns-in_default c = sym (stays _ (λ e. omega arith) (λ e. omega arith) (λ e. omega arith) (λ e. omega arith) (λ e. omega arith))
