-- The numbers of a diagram as the stage reader keeps them: what each drives and which input it tests.
use Rattle.std.specs.Prelude.{ℕ, zero, suc, ◌+◌, ◌<◌, ◌≤◌, ◌≡◌, List, [], ◌∷◌, get_or}
use Rattle.sheet.specs.Limits.{max_inputs}
use Rattle.table.specs.Drawing.{drawn_table}
use Rattle.diagram.specs.Diagram.{Entry, entry, diagram, first_number, next_number, input_at, most_entries, EntriesFit, entries_cells}
use Rattle.diagram.specs.Diagrams.{diagram_drawing}
use Rattle.stage_reader.specs.Inner.Listed.{Listed, listed}
use Rattle.stage_reader.specs.declared.numbers.Entry.{Entry as EntryRead}
use Rattle.stage_reader.specs.declared.numbers.Numbers.TheInside.{Inside}

-- the two constants and as many entries as a wire can have
abbrev pub most_numbers : ℕ
most_numbers = first_number + most_entries

-- the entry that stands at a place of the sheet
abbrev pub entry_there : List ℕ → ℕ → Entry
entry_there s at = entry (get_or s at 0) (get_or s (at + 1) 0) (get_or s (at + 2) 0)

-- an entry that was read
abbrev pub as_entry : EntryRead → Entry
as_entry e = entry e.input e.on_zero e.on_one

-- what stands at a number past the array
abbrev pub no_entry : EntryRead
no_entry = record { input = 0; on_zero = 0; on_one = 0 }

-- the first so many entries, the latest first; the constants stand before them
unfoldable pub entries_in : List EntryRead → ℕ → List Entry
entries_in all zero = []
entries_in all (suc k) = as_entry (get_or all (k + first_number) no_entry) ∷ entries_in all k

abbrev pub entries_so_far : Inside → List Entry
entries_so_far x = entries_in x.entries x.count

abbrev pub listed_in : Inside → Listed
listed_in x = listed x.n (entries_so_far x)

-- what stands at a number is the table that the number drives, and the input that it tests
pub record Tells (n : ℕ) (es : List Entry) (x t : ℕ) (e : EntryRead) : Type 0 where
  pub table : t ≡ drawn_table diagram_drawing n (diagram es x)
  pub input : e.input ≡ input_at n es x

-- the same of every number so far
abbrev pub TellsEach : (n : ℕ) → List Entry → (tables : List ℕ) → (all : List EntryRead) → Type 0
TellsEach n es tables all = (x : ℕ) → x < next_number es → Tells n es x (get_or tables x 0) (get_or all x no_entry)

-- the entries fit one after the other, the numbers tell them, and their cells are counted
pub record Told (x : Inside) : Type 0 where
  pub small : x.n ≤ max_inputs
  pub few : x.count ≤ most_entries
  pub fit : EntriesFit x.n (entries_so_far x)
  pub tell : TellsEach x.n (entries_so_far x) x.tables x.entries
  pub counted : x.cells ≡ entries_cells (entries_so_far x)
