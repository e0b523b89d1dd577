-- Laws of writing bytes at the start of a lent buffer: what is answered, and what the buffer holds then.
use Prim.Native.Nat.{ℕ, ◌<◌, ◌≤◌}
use mathlib.Core.Path.{◌≡◌, refl, ap, ◌∙◌}
use mathlib.Core.Bool.{Bool, true, false, cond, not}
use mathlib.Core.List.{List, ◌++◌}
use native.Mathlib.Nat.{zero-add}
use lib.Dec.{T, ltb}
use lib.ListN.{length, take, drop}
use lib.Seq.{sets, sets-eq, take_at}
use borrow.Author.Tests.{lt-ltb, le-ltb}
use Rattle.base.specs.declared.Refusal.{Refusal}
use Rattle.base.specs.Refusals.{refusal_at, short_buffer}
use Rattle.base.specs.Cases.{Case, accepting, accepted_outcome, refused_case, is_refused}
use Rattle.base.specs.Buffers.{fitted, buffer_with}

-- the answer by the test of the room
abbrev answered : List ℕ → Bool → Case
answered bytes short = cond short (refused_case (refusal_at short_buffer (length bytes))) (accepting accepted_outcome (length bytes))

module _ (bytes : List ℕ) (room : ℕ) where
  pub fitted_short : room < length bytes → fitted bytes room ≡ refused_case (refusal_at short_buffer (length bytes))
  fitted_short h = ap (answered bytes) (lt-ltb room (length bytes) h)

  pub fitted_room : length bytes ≤ room → fitted bytes room ≡ accepting accepted_outcome (length bytes)
  fitted_room h = ap (answered bytes) (le-ltb room (length bytes) h)

-- a run of bytes stored at the start of a buffer that is long enough: the bytes, and what was behind their places
front : (l b s : List ℕ) → length s ≤ length l → b ≡ sets l 0 s → b ≡ s ++ drop (length s) l
front l b s h e = e ∙ sets-eq s l 0 (rw (zero-add (length s)) h) ∙ simp zero-add

-- the buffer after a refusal, and after the bytes were stored
module _ (bytes buffer : List ℕ) where
  pub buffer_left : (f : Refusal) {c : Case} → c ≡ refused_case f → buffer ≡ buffer_with bytes buffer c
  buffer_left f e = rw e refl

  pub buffer_stored : (after : List ℕ) {c : Case} → c ≡ accepting accepted_outcome (length bytes) → length bytes ≤ length buffer
      → after ≡ sets buffer 0 bytes → after ≡ buffer_with bytes buffer c
  buffer_stored after e h s = rw e (front buffer after bytes h s)

  -- what was written stands at the start
  pub front_written : T (not (is_refused (fitted bytes (length buffer))))
      → take (fitted bytes (length buffer)).value (buffer_with bytes buffer (fitted bytes (length buffer))) ≡ bytes
  front_written h = go (ltb (length buffer) (length bytes)) h
    where
      go : (t : Bool) → T (not (is_refused (answered bytes t))) → take (answered bytes t).value (buffer_with bytes buffer (answered bytes t)) ≡ bytes
      go true h = absurd h
      go false h = take_at bytes (drop (length bytes) buffer) (length bytes) refl
