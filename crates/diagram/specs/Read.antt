-- Document 02, E2, with document 01's "Refusals": reading a wire that is a decision diagram. For 26 j c the refusals come in the order 2, 5, 1, 3, and 5 for a
-- wire that is not the next one; its place is where the command starts. An entry and the top have places of their own, and each is judged before the next is looked at.
use Rattle.std.specs.Prelude.{ℕ, zero, suc, ◌+◌, Bool, cond, ◌||◌, List, [], ◌∷◌, ltb, leb, eqb}
use Rattle.base.specs.Refusals.{refusal_at, out_of_range, no_signal, not_ascending}
use Rattle.sheet.specs.Limits.{count_out}
use Rattle.stage.specs.Steps.{Read, taken, fault, and_then, unless_refused, due, operand, turn_number}
use Rattle.diagram.specs.Diagram.{Entry, entry, Diagram, diagram, next_number, input_at, most_entries}

-- the first bytes of the sheet's commands
abbrev pub diagram_known : ℕ → Bool
diagram_known b = eqb b 0x20 || eqb b 0x26 || eqb b 0x2F

-- the number of an entry's refusal, 0 where it may follow those before it: 3 where there is no such input, 6 where a number that it names is not lower than its
-- own, 11 where a number that it names tests no later input
unfoldable pub entry_refusal : ℕ → List Entry → Entry → ℕ
entry_refusal n before e =
    cond (count_out e.input n) out_of_range
    (cond (leb (next_number before) e.on_zero || leb (next_number before) e.on_one) no_signal
    (cond (leb (input_at n before e.on_zero) e.input || leb (input_at n before e.on_one) e.input) not_ascending 0))

-- an entry after those before it: three bytes, 1 where one is missing
unfoldable pub entry_at : ℕ → List Entry → ℕ → List ℕ → Read Entry
entry_at n before at =
    operand fault at
    (λ i. operand fault at
    (λ z. operand fault at
    (λ o rest. unless_refused fault at (entry_refusal n before (entry i z o)) (taken (entry i z o) (at + 3) rest))))

-- the first c entries: those before the last, and the last after them
unfoldable pub entries_at : ℕ → ℕ → ℕ → List ℕ → Read (List Entry)
entries_at zero n at bytes = taken [] at bytes
entries_at (suc c) n at bytes =
    and_then (entries_at c n at bytes)
    (λ before at' rest. and_then (entry_at n before at' rest) (λ e at'' rest''. taken (e ∷ before) at'' rest''))

-- the top after all entries: 1 where it is missing, 6 where no entry and no constant has its number
unfoldable pub top_at : List Entry → ℕ → List ℕ → Read Diagram
top_at es at = operand fault at (λ x rest. cond (leb (next_number es) x) (fault (refusal_at no_signal at)) (taken (diagram es x) (at + 1) rest))

-- 26 i c, the c entries and the top of wire j, which is due: 3 where there is no wire i or c is too large, 5 where i is another wire than j
unfoldable pub diagram_wire_at : ℕ → ℕ → ℕ → ℕ → List ℕ → Read Diagram
diagram_wire_at n m j at =
    due diagram_known fault 0x26 at
    (operand fault at
    (λ i. operand fault at
    (λ c rest. unless_refused fault at (turn_number m j i (ltb most_entries c)) (and_then (entries_at c n (at + 3) rest) top_at))))
