-- Which refusal comes first, computed from the meaning at sheets that call for two of them at once.
use mathlib.Core.Path.{◌≡◌, refl}
use mathlib.Core.List.{List, [], ◌∷◌}
use Prim.Native.Nat.{ℕ, zero, suc}
use Rattle.base.specs.Refusals.{refusal_at, cut_short, unknown, out_of_range, trailing, out_of_turn, no_signal, repeated, too_many, missing_row}
use Rattle.base.specs.Lowest.{lowest}
use Rattle.sheet.specs.Commands.{collect}
use Rattle.reader.specs.Reader.{next_of}
use Rattle.reader.specs.Reading.{one_command, reading_from, reading_of}
use Rattle.sheet.specs.Judged.{judged, ending, refused}

-- 2 before 5: an unknown first byte where 01 is due
pub unknown_first : reading_of (7 ∷ []) ≡ refused (refusal_at unknown 0)
unfolding reading_of reading_from one_command next_of collect
unknown_first = refl

-- 5 before 1: a 02 without operands where 01 is due
pub turn_next : reading_of (2 ∷ []) ≡ refused (refusal_at out_of_turn 0)
unfolding reading_of reading_from one_command next_of collect
turn_next = refl

-- 1 before 3: five inputs, and no second operand
pub cut_next : reading_of (1 ∷ 5 ∷ []) ≡ refused (refusal_at cut_short 0)
unfolding reading_of reading_from one_command next_of collect
cut_next = refl

-- 3 before 6: an unknown kind on signals that are not made
pub range_next : reading_of (1 ∷ 1 ∷ 1 ∷ 4 ∷ 6 ∷ 9 ∷ 9 ∷ []) ≡ refused (refusal_at out_of_range 3)
unfolding reading_of reading_from one_command next_of judged collect
range_next = refl

-- so many gates, each on wire 0
pub gates : ℕ → List ℕ → List ℕ
gates zero rest = rest
gates (suc k) rest = 4 ∷ 0 ∷ 0 ∷ 0 ∷ gates k rest

-- 6 before 8: a 33rd gate on a signal that is not made
pub signal_next : reading_of (1 ∷ 1 ∷ 1 ∷ gates 32 (4 ∷ 0 ∷ 33 ∷ 0 ∷ [])) ≡ refused (refusal_at no_signal 131)
unfolding gates reading_of reading_from one_command next_of judged collect
signal_next = refl

-- 8: the 33rd gate itself
pub gate_33 : reading_of (1 ∷ 1 ∷ 1 ∷ gates 32 (4 ∷ 0 ∷ 32 ∷ 0 ∷ [])) ≡ refused (refusal_at too_many 131)
unfolding gates reading_of reading_from one_command next_of judged collect
gate_33 = refl

-- 7: a pattern with 02 gets a 03
pub two_marks : reading_of (1 ∷ 1 ∷ 1 ∷ 2 ∷ 0 ∷ 1 ∷ 3 ∷ 0 ∷ 0 ∷ []) ≡ refused (refusal_at repeated 6)
unfolding reading_of reading_from one_command next_of judged collect
two_marks = refl

-- 4 before 9: a byte behind 00, and patterns without 02 and 03
pub trailing_first : reading_of (1 ∷ 1 ∷ 1 ∷ 0 ∷ 0 ∷ []) ≡ refused (refusal_at trailing 4)
unfolding reading_of reading_from one_command next_of judged ending collect
trailing_first = refl

-- 9: the lowest pattern without
pub lowest_missing : reading_of (1 ∷ 2 ∷ 1 ∷ 2 ∷ 0 ∷ 1 ∷ 3 ∷ 2 ∷ 0 ∷ []) ≡ refused (refusal_at missing_row 1)
unfolding reading_of reading_from one_command next_of judged ending collect lowest
lowest_missing = refl
