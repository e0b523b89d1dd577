-- What the code carries of a part: its sets, the masks of its wires' projections, and its picks with their cells.
use Rattle.std.specs.Prelude.{ℕ, ◌^◌, ◌<◌, ◌≡◌, List, length, get_or}
use Rattle.sheet.specs.Limits.{max_patterns}
use Rattle.sheet.specs.Inner.Sized.{Sized}
use Rattle.nodes.specs.declared.BoardKind.{BoardKind}
use Rattle.nodes.specs.Counts.{most_inputs}
use Rattle.relation.specs.Inner.Source.{WellDefined}
use Rattle.relation.specs.Tests.{of_sets}
use Rattle.relation.specs.Inner.Narrowed.{NonePast}
use Rattle.parts.specs.Inner.Words.{pairs_of}
use Rattle.parts.specs.Inner.Masks.{mask_count, Halved, words_of}
use Rattle.parts.specs.declared.states.Running.{Running}
use Rattle.parts.specs.Inner.States.{AtHand}
use Rattle.parts.specs.Inner.Picks.{tables_of, cells_of}

-- the sets of a part: as many as there may be patterns, of values there are, empty past the last pattern, none empty before
pub record PartSets (n m : ℕ) (sets : List ℕ) : Type 0 where
  pub long : length sets ≡ max_patterns
  pub small : (p : ℕ) → get_or sets p 0 < 2 ^ (2 ^ m)
  pub past : NonePast n sets
  pub defined : WellDefined n m (of_sets sets)

-- sets s, masks w, tables (those of the first section and, in the state l, of the others) and cells c are those of one part
pub record Carried (kind : BoardKind) (n m : ℕ) (s w : List ℕ) (l : Running) (low c : ℕ) : Type 0 where
  pub sized : Sized (most_inputs kind) n m
  pub sets : PartSets n m s
  pub long : length w ≡ mask_count
  pub halved : Halved w
  pub masks : words_of w ≡ pairs_of s
  pub tables : AtHand low l (tables_of kind n s)
  pub cells : c ≡ cells_of kind n s
