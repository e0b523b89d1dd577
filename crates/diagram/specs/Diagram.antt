-- Document 02, E2: what drives a wire on the board that shares selectors, a decision diagram told as a list of entries. Any such list will do that the reader
-- accepts, also one with entries that repeat others or that nothing leads to.
use Rattle.std.specs.Prelude.{ℕ, zero, suc, ◌+◌, ◌-◌, ◌<◌, ◌≤◌, Bool, cond, ◌&&◌, List, [], ◌∷◌, eqb, length}
use Rattle.table.specs.Bits.{bit}
use Rattle.table.specs.Cells.{selector_cells}

-- a selector: the input that it tests, and the numbers that it goes on to where the input is 0 and where it is 1
pub record Entry : Type 0 where
  pub input : ℕ
  pub on_zero : ℕ
  pub on_one : ℕ

abbrev pub entry : ℕ → ℕ → ℕ → Entry
entry i z o = record { input = i; on_zero = z; on_one = o }

-- the entries of a wire, the latest first, and the number that the wire takes
pub record Diagram : Type 0 where
  pub entries : List Entry
  pub top : ℕ

abbrev pub diagram : List Entry → ℕ → Diagram
diagram es x = record { entries = es; top = x }

-- numbers 0 and 1 are the constants; an entry has the number that follows those before it
abbrev pub first_number : ℕ
first_number = 2

abbrev pub next_number : List Entry → ℕ
next_number before = length before + first_number

-- the input that number x tests; a constant tests none, and stands for an input after all n
unfoldable pub input_at : ℕ → List Entry → ℕ → ℕ
input_at n [] x = suc n
input_at n (e ∷ before) x = cond (eqb x (next_number before)) e.input (input_at n before x)

-- the constant to which pattern p leads from number x; input i is bit n - i of the pattern
unfoldable pub follow_entry : ℕ → ℕ → List Entry → ℕ → ℕ
follow_entry n p [] x = x
follow_entry n p (e ∷ before) x =
    let z = follow_entry n p before e.on_zero in
    let o = follow_entry n p before e.on_one in
    let other = follow_entry n p before x in
    cond (eqb x (next_number before)) (cond (eqb (bit p (n - e.input)) 0) z o) other

abbrev pub follow_diagram : ℕ → ℕ → Diagram → ℕ
follow_diagram n p d = follow_entry n p d.entries d.top

-- an entry may follow those before it: it tests one of the n inputs, and names lower numbers, which test later inputs
pub record FitsAfter (n : ℕ) (before : List Entry) (e : Entry) : Type 0 where
  pub least : 1 ≤ e.input
  pub most : e.input ≤ n
  pub zero_lower : e.on_zero < next_number before
  pub one_lower : e.on_one < next_number before
  pub zero_above : e.input < input_at n before e.on_zero
  pub one_above : e.input < input_at n before e.on_one

unfoldable pub EntriesFit : ℕ → List Entry → Type 0
EntriesFit n [] = Unit {0}
EntriesFit n (e ∷ before) = FitsAfter n before e × EntriesFit n before

-- so many entries at most: their numbers are bytes
abbrev pub most_entries : ℕ
most_entries = 253

pub record WellFormed (n : ℕ) (d : Diagram) : Type 0 where
  pub few : length d.entries ≤ most_entries
  pub fit : EntriesFit n d.entries
  pub top_there : d.top ≤ length d.entries + 1

-- an entry that is soldered through (E4): it goes on to the constants 0 and 1 themselves
unfoldable pub wired_entry : Entry → Bool
wired_entry e = eqb e.on_zero 0 && eqb e.on_one 1

-- what an entry counts for
unfoldable pub entry_price : Entry → ℕ
entry_price e = selector_cells (wired_entry e)

-- the cells of a diagram: every entry that is not soldered through counts, whether or not it repeats another and whether or not anything leads to it
unfoldable pub entries_cells : List Entry → ℕ
entries_cells [] = zero
entries_cells (e ∷ before) = entry_price e + entries_cells before

abbrev pub diagram_cells : Diagram → ℕ
diagram_cells d = entries_cells d.entries
