-- The refusals of reading are 1 to 9, so 10 is not among them (document 01, "Refusals").
use Prim.Native.Nat.{ℕ, zero, suc, ◌+◌, ◌-◌, ◌^◌, ◌≤◌}
use mathlib.Core.Path.{◌≡◌, subst}
use mathlib.Core.List.{List, []}
use native.Mathlib.Omega.{arith}
use lib.Dec.{ltb, leb, eqb}
use lib.ListN.{length, get_or}
use Rattle.base.specs.declared.Refusal.{Refusal}
use Rattle.base.proofs.Tests.{cond_has}
use Rattle.sheet.specs.declared.Command.{Command}
use Rattle.reader.specs.declared.Reader.{Reader}
use Rattle.std.specs.Prelude.{Result, Ok, Err}
use Rattle.sheet.specs.Commands.{inputs_of}
use Rattle.reader.specs.Reader.{width_of, command_of, is_out_of_turn, is_out_of_range, next_of, reader_at}
use Rattle.sheet.specs.Judged.{Reading, holds, is_not_made, is_repeated, is_too_many, judged, missing, ending, refused}
use Rattle.reader.specs.Reading.{is_end, Passage, over, on, onward, after_step, one_command, continued, reading_from, reading_of}

-- a reading, a step and a passage whose refusal, if it is one, is at most 9
abbrev Early : Reading → Type 0
Early (holds cs) = Unit {0}
Early (refused f) = f.number ≤ 9

abbrev EarlyStep : Result (Command × Reader) Refusal → Type 0
EarlyStep (Ok (c, r)) = Unit {0}
EarlyStep (Err f) = f.number ≤ 9

abbrev EarlyPassage : Passage → Type 0
EarlyPassage (over x) = Early x
EarlyPassage (on cs to) = Unit {0}

next_early : (s : List ℕ) (r : Reader) → EarlyStep (next_of s r)
unfolding next_of
next_early s r =
    let b = get_or s r.at 0 in
    let c = command_of b (get_or s (r.at + 1) 0) (get_or s (r.at + 2) 0) (get_or s (r.at + 3) 0) in
    cond_has EarlyStep (leb (length s) r.at) (λ _. omega arith)
    (λ _. cond_has EarlyStep (eqb (width_of b) 0) (λ _. omega arith)
    (λ _. cond_has EarlyStep (is_out_of_turn r.started b) (λ _. omega arith)
    (λ _. cond_has EarlyStep (ltb (length s - r.at) (width_of b)) (λ _. omega arith)
    (λ _. cond_has EarlyStep (is_out_of_range r.n r.m c) (λ _. omega arith) (λ _. tt)))))

judged_early : (before : List Command) (c : Command) (at : ℕ) → Early (judged before c at)
unfolding judged
judged_early before c at =
    cond_has Early (is_not_made before c) (λ _. omega arith)
    (λ _. cond_has Early (is_repeated before c) (λ _. omega arith) (λ _. cond_has Early (is_too_many before c) (λ _. omega arith) (λ _. tt)))

ending_early : (s : List ℕ) (to : ℕ) (cs : List Command) → Early (ending s to cs)
unfolding ending
ending_early s to cs =
    cond_has Early (ltb to (length s)) (λ _. omega arith) (λ _. cond_has Early (ltb (missing cs) (2 ^ inputs_of cs)) (λ _. omega arith) (λ _. tt))

onward_early : (s : List ℕ) (c : Command) (to : ℕ) (x : Reading) → Early x → EarlyPassage (onward s c to x)
onward_early s c to (refused f) e = e
onward_early s c to (holds cs) e = cond_has EarlyPassage (is_end c) (λ _. ending_early s to cs) (λ _. tt)

step_early : (s : List ℕ) (at : ℕ) (before : List Command) (x : Result (Command × Reader) Refusal) → EarlyStep x → EarlyPassage (after_step s at before x)
step_early s at before (Err f) e = e
step_early s at before (Ok (c, r)) e = onward_early s c r.at (judged before c at) (judged_early before c at)

one_early : (s : List ℕ) (at : ℕ) (before : List Command) → EarlyPassage (one_command s at before)
unfolding one_command
one_early s at before = step_early s at before (next_of s (reader_at at before)) (next_early s (reader_at at before))

continued_early : (go : ℕ → List Command → Reading) → ((to : ℕ) (cs : List Command) → Early (go to cs))
    → (x : Passage) → EarlyPassage x → Early (continued go x)
continued_early go h (over x) e = e
continued_early go h (on cs to) e = h to cs

from_early : (k : ℕ) (s : List ℕ) (at : ℕ) (before : List Command) → Early (reading_from k s at before)
unfolding reading_from
from_early zero s at before = omega arith
from_early (suc k) s at before = continued_early (reading_from k s) (from_early k s) (one_command s at before) (one_early s at before)

pub reading_early : (s : List ℕ) (f : Refusal) → reading_of s ≡ refused f → f.number ≤ 9
unfolding reading_of
reading_early s f e = subst Early e (from_early (length s) s 0 [])
