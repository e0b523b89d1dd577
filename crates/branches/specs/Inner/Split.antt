-- What a split reads of its pattern, and what it tells of the part that is split.
use Rattle.std.specs.Prelude.{ℕ, ◌/◌, ◌<◌, ◌≡◌, List, get_or}
use Rattle.sheet.specs.Limits.{max_wires}
use Rattle.table.specs.Bits.{bit}
use Rattle.lanes.specs.Inner.Lanes.{lane_of, LanesBelow}
use Rattle.parts.specs.Inner.Boards.{lent_kind, lent_inputs}
use Rattle.parts.specs.Inner.Masks.{row_patterns, mask_row}
use Rattle.parts.specs.Inner.Picks.{table_of}
use Rattle.branches.specs.declared.Pattern.{Pattern}

-- the set and the row of the masks are those of the pattern as they stand
abbrev pub Standing : (sets masks : List ℕ) → Pattern → Type 0
Standing sets masks at = (at.set ≡ get_or sets at.p 0) × (at.row ≡ mask_row masks (at.p / row_patterns))

-- the bits driven are those of the part's tables on the pattern
abbrev pub Driven : (e sets : List ℕ) → Pattern → Type 0
Driven e sets at =
    LanesBelow 2 at.driven × ((i : ℕ) → i < max_wires → lane_of at.driven i ≡ bit (table_of (lent_kind e) (lent_inputs e) sets i) at.p)
