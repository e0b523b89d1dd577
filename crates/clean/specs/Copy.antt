-- Document 02, E1: the clean copy of a sheet, as commands, as bytes, and its length. It is a function of what was gathered and of nothing else.
use Rattle.std.specs.Prelude.{ℕ, zero, suc, ◌+◌, ◌*◌, ◌^◌, Bool, cond, List, [], ◌∷◌, ◌++◌, eqb, get_or}
use Rattle.table.specs.Bits.{sum}
use Rattle.sheet.specs.declared.Command.{Command}
use Rattle.sheet.specs.declared.Command.TheVariants.{End, Sizes, Row, DontCare, Gate, Output, Limit}
use Rattle.sheet.specs.declared.Sheet.{Sheet}
use Rattle.sheet.specs.Bytes.{bytes_of}
use Rattle.sheet.specs.Commands.{no_gate}
use Rattle.sheet.specs.Gathered.{dont_care_mark}
use Rattle.sheet.specs.Limits.{max_patterns, max_gates, max_outputs, all_ones}

-- the lists f 0, .., f (k - 1), one after the other
unfoldable pub listed {ℓ} : {A : Type ℓ} → ℕ → (ℕ → List A) → List A
listed zero f = []
listed (suc k) f = listed k f ++ f k

-- a mark that calls its pattern impossible: an external don't care
abbrev pub marks_dont_care : ℕ → Bool
marks_dont_care mark = eqb mark dont_care_mark

-- a set with every value that m wires have limits nothing
abbrev pub permits_all : (m set : ℕ) → Bool
permits_all m set = eqb set (all_ones m)

-- what a copy has for pattern p: its 03 or its 02,
abbrev pub copy_mark : Sheet → ℕ → List Command
copy_mark h p = cond (marks_dont_care (get_or h.marks p 0)) (DontCare p ∷ []) (Row p (get_or h.values p 0) ∷ [])

-- and one 06 with the set that is permitted, unless that limits nothing
abbrev pub copy_limit : Sheet → ℕ → List Command
copy_limit h p = cond (permits_all h.m (get_or h.limits p 0)) [] (Limit p (get_or h.limits p 0) ∷ [])

-- what it has for gate i, and for output i
abbrev pub copy_gate : Sheet → ℕ → List Command
copy_gate h i = let g = get_or h.gates i no_gate in Gate g.kind g.left g.right ∷ []

abbrev pub copy_output : Sheet → ℕ → List Command
copy_output h i = Output (get_or h.signals i 0) ∷ []

-- the sizes; the patterns' marks; their limits; the gates; the outputs; the end
unfoldable pub copy_commands : Sheet → List Command
copy_commands h =
    Sizes h.n h.m ∷ []
    ++ listed (2 ^ h.n) (copy_mark h)
    ++ listed (2 ^ h.n) (copy_limit h)
    ++ listed h.gate_count (copy_gate h)
    ++ listed h.output_count (copy_output h)
    ++ End ∷ []

abbrev pub copy_bytes : Sheet → List ℕ
copy_bytes h = bytes_of (copy_commands h)

-- how many bytes that is: of a pattern by its mark, and by its permitted set; and in all
abbrev pub mark_length : ℕ → ℕ
mark_length mark = cond (marks_dont_care mark) 2 3

abbrev pub limit_length : (m set : ℕ) → ℕ
limit_length m set = cond (permits_all m set) 0 4

unfoldable pub copy_length : Sheet → ℕ
copy_length h =
    3
    + sum (2 ^ h.n) (λ p. mark_length (get_or h.marks p 0))
    + sum (2 ^ h.n) (λ p. limit_length h.m (get_or h.limits p 0))
    + 4 * h.gate_count
    + 2 * h.output_count
    + 1

-- a copy of a sheet within the limits has no more
abbrev pub longest_copy : ℕ
longest_copy = 3 + 3 * max_patterns + 4 * max_patterns + 4 * max_gates + 2 * max_outputs + 1
