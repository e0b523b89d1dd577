-- The parts of the reply lines that the report does not have, as bytes.
use Rattle.std.specs.Prelude.{ℕ, Bool, true, false, cond, List, [], ◌∷◌, ◌++◌, eqb, get_or, drop}
use Rattle.text.specs.Text.{space, decimal}
use Rattle.report.specs.Lines.{newline}

-- a number with a space behind it
unfoldable pub spaced_text : ℕ → List ℕ
spaced_text x = decimal x ++ space ∷ []

-- the four tables, each with a space behind it
unfoldable pub tables_text : List ℕ → List ℕ
tables_text t = spaced_text (get_or t 0 0) ++ spaced_text (get_or t 1 0) ++ spaced_text (get_or t 2 0) ++ spaced_text (get_or t 3 0)

-- what a lent buffer is filled with before a call
abbrev pub fill : ℕ
fill = 0xEE

-- every byte is as it was filled
unfoldable pub all_filled : List ℕ → Bool
all_filled [] = true
all_filled (x ∷ xs) = cond (eqb x fill) (all_filled xs) false

-- " +" and " -", each with the end of its line
abbrev pub plus_text : List ℕ
plus_text = space ∷ 0x2B ∷ newline ∷ []

abbrev pub minus_text : List ℕ
minus_text = space ∷ 0x2D ∷ newline ∷ []

-- a plus where every byte of a buffer from a place on is as it was filled, else a minus
abbrev pub kept_text : List ℕ → ℕ → List ℕ
kept_text buffer from = cond (all_filled (drop from buffer)) plus_text minus_text
