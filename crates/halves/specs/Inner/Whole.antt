-- The whole relation beside a part of it: what splits have dropped is no value of the picks, so that the whole tells where the picks are in conflict.
use Rattle.std.specs.Prelude.{ℕ, ◌^◌, ◌<◌, Bool, List, T, get_or}
use Rattle.sheet.specs.Limits.{max_wires}
use Rattle.table.specs.Bits.{bit}
use Rattle.relation.specs.Tests.{occurs}
use Rattle.relation.specs.Inner.Members.{member}
use Rattle.visits.specs.Inner.Conflicts.{Seen}

-- a value that fits the projections of the part S on a pattern, and is allowed there by the whole W, is allowed by the part
abbrev pub Agrees : (n : ℕ) → (W S : List ℕ) → Type 0
Agrees n W S =
    (p v : ℕ) → p < 2 ^ n → ((j : ℕ) → j < max_wires → T (occurs max_wires (member (get_or S p 0)) j (bit v j))) → T (member (get_or W p 0) v) → T (member (get_or S p 0) v)

-- the relation by value in the state is that of a whole which the part agrees with
pub record Whole (wide : Bool) (n : ℕ) (S state : List ℕ) : Type 0 where
  pub sets : List ℕ
  pub seen : Seen wide n sets state
  pub agrees : Agrees n sets S
