-- One command at a place: what can be told from the bytes and the sizes.
use Rattle.std.specs.Prelude.{ℕ, ◌+◌, ◌-◌, ◌*◌, ◌^◌, List, Bool, false, cond, not, ◌||◌, length, get_or, ltb, leb, eqb}
use Rattle.base.specs.Refusals.{refusal_at, cut_short, unknown, out_of_turn, out_of_range}
use Rattle.sheet.specs.declared.Command.{Command}
use Rattle.sheet.specs.declared.Command.TheVariants.{End, Sizes, Row, DontCare, Gate, Output, Limit}
use Rattle.reader.specs.declared.Reader.{Reader}
use Rattle.std.specs.Prelude.{Result, Ok, Err}
use Rattle.base.specs.declared.Refusal.{Refusal}
use Rattle.sheet.specs.Limits.{max_inputs, sizes_out, is_beyond}
use Rattle.sheet.specs.Commands.{is_empty, is_sizes, inputs_in, wires_in, inputs_of, wires_of}

-- how many bytes a command has, by its first, which counts too; 0 where there is no such command
abbrev pub width_of : ℕ → ℕ
width_of b =
    cond (eqb b 0) 1
    (cond (eqb b 1) 3
    (cond (eqb b 2) 3
    (cond (eqb b 3) 2
    (cond (eqb b 4) 4
    (cond (eqb b 5) 2
    (cond (eqb b 6) 4 0))))))

-- the command that starts with b, a known byte, and has the operand bytes x y z, as many as it needs; the set of 06 takes two, the lower first
abbrev pub command_of : ℕ → ℕ → ℕ → ℕ → Command
command_of b x y z =
    cond (eqb b 0) End
    (cond (eqb b 1) (Sizes x y)
    (cond (eqb b 2) (Row x y)
    (cond (eqb b 3) (DontCare x)
    (cond (eqb b 4) (Gate x y z)
    (cond (eqb b 5) (Output x)
    (Limit x (y + 256 * z)))))))

-- 01 anywhere but at the start, or another command there
abbrev pub is_out_of_turn : Bool → ℕ → Bool
is_out_of_turn started b = cond (eqb b 1) started (not started)

-- the kinds of gates are 0 to this one
abbrev pub last_kind : ℕ
last_kind = 5

-- some operand is too small or too large: refusal 3
abbrev pub is_out_of_range : ℕ → ℕ → Command → Bool
is_out_of_range n m End = false
is_out_of_range n m (Sizes n' m') = sizes_out max_inputs n' m'
is_out_of_range n m (Row p v) = is_beyond n p || is_beyond m v
is_out_of_range n m (DontCare p) = is_beyond n p
is_out_of_range n m (Gate k a b) = ltb last_kind k
is_out_of_range n m (Output s) = false
is_out_of_range n m (Limit p w) = is_beyond n p || is_beyond (2 ^ m) w

-- the reader at a place, past the commands of a list
abbrev pub reader_at : ℕ → List Command → Reader
reader_at at cs = record { at = at; started = not (is_empty cs); n = inputs_of cs; m = wires_of cs }

-- the reader at the place after a command, with the sizes that it names
abbrev pub moved_past : Reader → Command → ℕ → Reader
moved_past r c to = record { at = to; started = is_sizes c || r.started; n = get_or (inputs_in c) 0 r.n; m = get_or (wires_in c) 0 r.m }

abbrev pub step_refused : ℕ → ℕ → Result (Command × Reader) Refusal
step_refused number at = Err (refusal_at number at)

-- One command (document 01, "Refusals"): what can be refused without the commands before, in the document's order, at the command's own place; else the
-- command and the reader after it. What the commands before refuse comes after (`judged`).
unfoldable pub next_of : List ℕ → Reader → Result (Command × Reader) Refusal
next_of s r =
    let at = r.at in
    let b = get_or s at 0 in
    let c = command_of b (get_or s (at + 1) 0) (get_or s (at + 2) 0) (get_or s (at + 3) 0) in
    cond (leb (length s) at) (step_refused cut_short at)
    (cond (eqb (width_of b) 0) (step_refused unknown at)
    (cond (is_out_of_turn r.started b) (step_refused out_of_turn at)
    (cond (ltb (length s - at) (width_of b)) (step_refused cut_short at)
    (cond (is_out_of_range r.n r.m c) (step_refused out_of_range at)
    (Ok (c, moved_past r c (at + width_of b)))))))
