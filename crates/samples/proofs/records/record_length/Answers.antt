-- `record_length` meets its contract: each arm is the case of `record_length` for its call.
use Prim.Native.Nat.{ℕ, ◌+◌, ◌≤◌}
use mathlib.Core.Path.{◌≡◌, ap, ◌∙◌}
use native.Mathlib.Omega.{arith}
use borrow.Author.Tests.{ne_eqb}
use Rattle.samples.specs.Inner.Lengths.{longest_part, longest_record}
use Rattle.samples.specs.Inner.Records.{call_of, record_length}
use Rattle.samples.proofs.records.record_length.Goals as goal

-- a head of so many bytes, and a part of the length that is told
told : {length part two : ℕ} (head : ℕ) → 1 ≤ head → head ≤ 9 → (part ≡ two) × (part ≤ longest_part) → length ≡ head + two
    → (head + part ≡ length) × (1 ≤ head + part) × (head + part ≤ longest_record)
told head low high l e = (omega arith, omega arith, omega arith)

pub returns-in-81 : goal.returns-in-81
unfolding record_length
returns-in-81 c = told _ (omega arith) (omega arith) c.length_at.ensures (simp (← (c.call_of-call.ensures ∙ ap call_of c.byte_at.ensures), c.in-81.is) (omega arith))

pub returns-in-65 : goal.returns-in-65
unfolding record_length
returns-in-65 c =
    let k = c.length_at-in-65.ensures in
    let l = c.length_at-in-65-2.ensures in (
      simp (← (c.call_of-call.ensures ∙ ap call_of c.byte_at.ensures), c.in-65.is) (omega (arith, k.0, l.0)),
      omega arith,
      omega (arith, k.1, l.1),
    )

pub returns-in-83 : goal.returns-in-83
unfolding record_length
returns-in-83 c = (simp (← (c.call_of-call.ensures ∙ ap call_of c.byte_at.ensures), c.in-83.is), omega arith, omega arith)

pub returns-in-87 : goal.returns-in-87
unfolding record_length
returns-in-87 c = (simp (← (c.call_of-call.ensures ∙ ap call_of c.byte_at.ensures), c.in-87.is), omega arith, omega arith)

pub returns-in-82 : goal.returns-in-82
unfolding record_length
returns-in-82 c = told _ (omega arith) (omega arith) c.length_at-in-82.ensures (simp (← (c.call_of-call.ensures ∙ ap call_of c.byte_at.ensures), c.in-82.is) (omega arith))

pub returns-in-67 : goal.returns-in-67
unfolding record_length
returns-in-67 c = told _ (omega arith) (omega arith) c.length_at-in-67.ensures (simp (← (c.call_of-call.ensures ∙ ap call_of c.byte_at.ensures), c.in-67.is) (omega arith))

-- what no arm before took is none of their letters
pub returns-in_default : goal.returns-in_default
unfolding record_length
returns-in_default c =
    let call = c.call_of-call.result in
    let q : call ≡ 0x51 → ⊥ = λ e. omega arith in
    let a : call ≡ 0x41 → ⊥ = λ e. omega arith in
    let s : call ≡ 0x53 → ⊥ = λ e. omega arith in
    let w : call ≡ 0x57 → ⊥ = λ e. omega arith in
    let r : call ≡ 0x52 → ⊥ = λ e. omega arith in
    let k : call ≡ 0x43 → ⊥ = λ e. omega arith in (
      simp (
        ← (c.call_of-call.ensures ∙ ap call_of c.byte_at.ensures),
        ne_eqb call 0x51 q,
        ne_eqb call 0x41 a,
        ne_eqb call 0x53 s,
        ne_eqb call 0x57 w,
        ne_eqb call 0x52 r,
        ne_eqb call 0x43 k,
      ),
      omega arith,
      omega arith,
    )
