-- Laws of a copy put into a buffer section by section.
use Prim.Native.Nat.{ℕ, ◌+◌, ◌^◌}
use mathlib.Core.Path.{◌≡◌, refl}
use mathlib.Core.List.{List, [], ◌∷◌, ◌++◌, append-nil}
use native.Mathlib.Numerals.{add-one}
use lib.Seq.{sets}
use Rattle.base.specs.Inner.Put.{Put}
use Rattle.base.proofs.Stores.{put_none, put_then}
use Rattle.sheet.specs.declared.Command.{Command}
use Rattle.sheet.specs.declared.Command.TheVariants.{End, Sizes}
use Rattle.sheet.specs.declared.Sheet.{Sheet}
use Rattle.sheet.specs.Bytes.{command_bytes, bytes_of}
use Rattle.sheet.specs.Commands.{collect}
use Rattle.sheet.proofs.Lists.{collect_append}
use Rattle.clean.specs.Copy.{listed, copy_mark, copy_limit, copy_gate, copy_output, copy_commands, copy_bytes}
use Rattle.clean.proofs.Saying.{to_sizes, to_marks, to_limits, to_gates, to_outputs}

-- a command by itself, and none
pub one_command_lem : (c : Command) → bytes_of (c ∷ []) ≡ command_bytes c
unfolding collect
one_command_lem c = append-nil (command_bytes c)

pub no_command : bytes_of [] ≡ []
unfolding collect
no_command = refl

-- the commands of two lists, one after the other
then_put : {l b c : List ℕ} {at next r : ℕ} (xs ys : List Command) → Put l at (bytes_of xs) b next → Put b next (bytes_of ys) c r
    → Put l at (bytes_of (xs ++ ys)) c r
then_put xs ys p q = rw (collect_append command_bytes xs ys) (put_then p q)

-- no piece yet, and one piece more
pub no_pieces : (l : List ℕ) (at : ℕ) (f : ℕ → List Command) → Put l at (bytes_of (listed 0 f)) l at
unfolding listed collect
no_pieces l at f = put_none

pub one_more : {l b c : List ℕ} {at next r : ℕ} (f : ℕ → List Command) (i : ℕ) → Put l at (bytes_of (listed i f)) b next
    → Put b next (bytes_of (f i)) c r → Put l at (bytes_of (listed (i + 1) f)) c r
unfolding listed
one_more f i p q = rw (add-one i) (then_put (listed i f) (f i) p q)

-- the sections of a copy, one after the other
pub copy_put : {l b1 b2 b3 b4 b5 c : List ℕ} {r1 r2 r3 r4 r5 r : ℕ} (h : Sheet) (patterns : ℕ) → patterns ≡ 2 ^ h.n
    → Put l 0 (command_bytes (Sizes h.n h.m)) b1 r1
    → Put b1 r1 (bytes_of (listed patterns (copy_mark h))) b2 r2 → Put b2 r2 (bytes_of (listed patterns (copy_limit h))) b3 r3
    → Put b3 r3 (bytes_of (listed h.gate_count (copy_gate h))) b4 r4 → Put b4 r4 (bytes_of (listed h.output_count (copy_output h))) b5 r5
    → Put b5 r5 (command_bytes End) c r → c ≡ sets l 0 (copy_bytes h)
unfolding copy_commands
copy_put {l} {b1} {b5 = b5} {c = c} {r1 = r1} {r5 = r5} {r = r} h patterns e p1 p2 p3 p4 p5 p6 =
    let q1 : Put l 0 (bytes_of (to_sizes h)) b1 r1 = rw (one_command_lem (Sizes h.n h.m)) p1 in
    let q2 = then_put (to_sizes h) (listed (2 ^ h.n) (copy_mark h)) q1 (rw e at p2) in
    let q3 = then_put (to_marks h (2 ^ h.n)) (listed (2 ^ h.n) (copy_limit h)) q2 (rw e at p3) in
    let q4 = then_put (to_limits h (2 ^ h.n)) (listed h.gate_count (copy_gate h)) q3 p4 in
    let q5 = then_put (to_gates h h.gate_count) (listed h.output_count (copy_output h)) q4 p5 in
    let q6 : Put b5 r5 (bytes_of (End ∷ [])) c r = rw (one_command_lem End) p6 in
    (then_put (to_outputs h h.output_count) (End ∷ []) q5 q6).stored
