-- Where a part is split.
use Rattle.std.specs.Prelude.{ℕ, ◌+◌, ◌*◌, ◌^◌, ◌<◌, ◌≤◌, ◌≡◌, ◌⊎◌, Bool, true, cond, Option, None, Some, List, T, get_or}
use Rattle.relation.specs.Source.{Rel, Tables, value}
use Rattle.relation.specs.Tests.{of_sets, compatible, conflict, open_wire}
use Rattle.table.specs.Cells.{wires}
use Rattle.table.specs.Inner.Pairs.{narrow_patterns}
use Rattle.table.specs.Inner.Wide.{sections}
use Rattle.relation.specs.Inner.Side.{side_by_side}
use Rattle.by_value.specs.Inner.ByValue.{value_word_place, filled, SectionWords, allows_at}
use Rattle.parts.specs.declared.states.Running.{Running}
use Rattle.parts.specs.Inner.States.{rest_count, AtHand}

-- the tables' values are allowed on the patterns below k
abbrev pub Settled : ℕ → List ℕ → List ℕ → ℕ → Type 0
Settled m sets tables k = (q : ℕ) → q < k → T (of_sets sets q (value m (wires tables) q))

-- the first pattern in conflict with its first open wire; none where the tables are compatible (document 01, "Search", step 4)
unfoldable pub split_place : ℕ → ℕ → Rel → Tables → Option (ℕ × ℕ)
split_place n m R X =
    let p = conflict n m R X in
    cond (compatible n m R X) None (Some (p, open_wire m (R p)))

-- the words of section q of a relation by value are those of the sets S, with every value past the patterns that there are
abbrev pub SectionSeen : (n : ℕ) → (S whole : List ℕ) → ℕ → Type 0
SectionSeen n S whole q =
    SectionWords (filled (2 ^ n) S) q (get_or whole (value_word_place q 0) 0) (get_or whole (value_word_place q 1) 0) (get_or whole (value_word_place q 2) 0) (get_or whole (value_word_place q 3) 0)

-- those of the first section are, and those of all sections where the board is wide
abbrev pub Seen : (wide : Bool) (n : ℕ) → (S whole : List ℕ) → Type 0
Seen wide n S whole = (q : ℕ) → q < sections → (q ≡ 0) ⊎ T wide → SectionSeen n S whole q

-- the tables of the part at hand are these on the sections past the first
abbrev pub RestAtHand : (rest tables : List ℕ) → Type 0
RestAtHand rest tables = (i : ℕ) → i < rest_count → get_or rest i 0 ≡ side_by_side tables (i + 1)

-- on section q the tables' values are allowed on the patterns below k
abbrev pub ClearTo : (n q : ℕ) → (S tables : List ℕ) → ℕ → Type 0
ClearTo n q S tables k = (p : ℕ) → p < k → T (allows_at (filled (2 ^ n) S) tables (narrow_patterns * q + p))

-- below r, which is a pattern that there is, or on the whole section
abbrev pub Cleared : (n q : ℕ) → (S tables : List ℕ) → Option ℕ → Type 0
Cleared n q S tables (Some r) = ClearTo n q S tables r × (narrow_patterns * q + r < 2 ^ n)
Cleared n q S tables None = ClearTo n q S tables narrow_patterns

-- that is what r says of all sets whose words the relation has on section q, and of all tables that are side by side there
abbrev pub ClearedBy : (whole : List ℕ) → (q tables : ℕ) → Option ℕ → Type 0
ClearedBy whole q tables r = (n : ℕ) → (S ts : List ℕ) → SectionSeen n S whole q → tables ≡ side_by_side ts q → Cleared n q S ts r

-- the tables' values are allowed by S on the patterns below r from k on, and r is at most the number of patterns
abbrev pub AllowedFrom : (n k : ℕ) → (S tables : List ℕ) → ℕ → Type 0
AllowedFrom n k S tables r = (r ≤ 2 ^ n) × ((p : ℕ) → k ≤ p → p < r → T (allows_at S tables p))

-- that is what r says, from the second section on, of all sets whose words the state has and of the tables of the part at hand
abbrev pub AllowedLater : Running → (count r : ℕ) → Type 0
AllowedLater state count r =
    (n : ℕ) → (S ts : List ℕ) → count ≡ 2 ^ n → Seen true n S state.whole → RestAtHand state.rest ts → AllowedFrom n narrow_patterns S ts r

-- and of all patterns below r, where the words of the sections past the first are of a wide board only
abbrev pub AllowedBelow : (wide : Bool) (n low : ℕ) → Running → ℕ → Type 0
AllowedBelow wide n low state r = (S ts : List ℕ) → Seen wide n S state.whole → AtHand low state ts → AllowedFrom n 0 S ts r
