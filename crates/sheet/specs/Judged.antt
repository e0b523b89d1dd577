-- Document 01, "Refusals": what is refused of a command, and of the end, for the commands before; else what the commands come to.
use Rattle.std.specs.Prelude.{ℕ, ◌^◌, Bool, false, cond, not, ◌||◌, List, [], ◌∷◌, ◌++◌, length, ltb, leb}
use Rattle.base.specs.declared.Refusal.{Refusal}
use Rattle.base.specs.Refusals.{refusal_at, trailing, no_signal, repeated, too_many, missing_row}
use Rattle.base.specs.Lowest.{lowest}
use Rattle.sheet.specs.declared.Command.{Command}
use Rattle.sheet.specs.declared.Command.TheVariants.{End, Sizes, Row, DontCare, Gate, Output, Limit}
use Rattle.sheet.specs.Limits.{max_gates, max_outputs}
use Rattle.sheet.specs.Commands.{inputs_of, is_marked, gates_of, outputs_of, signals_made}

-- what bytes hold: the commands in their order, 00 among them, or one refusal
pub data Reading : Type 0 where
  holds : List Command → Reading
  refused : Refusal → Reading

-- a gate or an output on a signal that the commands before do not make
abbrev pub is_not_made : List Command → Command → Bool
is_not_made before End = false
is_not_made before (Sizes n m) = false
is_not_made before (Row p v) = false
is_not_made before (DontCare p) = false
is_not_made before (Gate k a b) = leb (signals_made before) a || leb (signals_made before) b
is_not_made before (Output s) = leb (signals_made before) s
is_not_made before (Limit p w) = false

-- a 02 or a 03 for a pattern that has one
abbrev pub is_repeated : List Command → Command → Bool
is_repeated before End = false
is_repeated before (Sizes n m) = false
is_repeated before (Row p v) = is_marked p before
is_repeated before (DontCare p) = is_marked p before
is_repeated before (Gate k a b) = false
is_repeated before (Output s) = false
is_repeated before (Limit p w) = false

-- a gate or an output beyond the limits
abbrev pub is_too_many : List Command → Command → Bool
is_too_many before End = false
is_too_many before (Sizes n m) = false
is_too_many before (Row p v) = false
is_too_many before (DontCare p) = false
is_too_many before (Gate k a b) = leb max_gates (length (gates_of before))
is_too_many before (Output s) = leb max_outputs (length (outputs_of before))
is_too_many before (Limit p w) = false

-- a command whose first byte is at a place, after the commands before it: the refusals from the state, in their order, or taken
unfoldable pub judged : List Command → Command → ℕ → Reading
judged before c at =
    cond (is_not_made before c) (refused (refusal_at no_signal at))
    (cond (is_repeated before c) (refused (refusal_at repeated at))
    (cond (is_too_many before c) (refused (refusal_at too_many at))
    (holds (before ++ c ∷ []))))

-- the lowest pattern that has neither 02 nor 03; their number where each has one
abbrev pub missing : List Command → ℕ
missing cs = lowest (2 ^ inputs_of cs) (λ p. not (is_marked p cs))

-- the end, 00 being read up to a place: nothing may follow it, then each pattern needs its 02 or 03
unfoldable pub ending : List ℕ → ℕ → List Command → Reading
ending s to cs =
    cond (ltb to (length s)) (refused (refusal_at trailing to))
    (cond (ltb (missing cs) (2 ^ inputs_of cs)) (refused (refusal_at missing_row (missing cs)))
    (holds cs))
