-- What a call that puts bytes into a lent buffer leaves: printed text, commands, parts of a stage.
use Rattle.std.specs.Prelude.{ℕ, ◌+◌, ◌≤◌, ◌≡◌, List, length}
use Rattle.std.proofs.lemmas.List.Edits.{sets}

-- the text stands from a place on, and nothing else has changed; bytes that find no room are dropped, and the next place is told as if they had it
pub record Put (before : List ℕ) (at : ℕ) (text after : List ℕ) (next : ℕ) : Type 0 where
  pub stored : after ≡ sets before at text
  pub past : next ≡ at + length text

-- the same of a text of at most so many bytes, which is what a sum of places needs to know
pub record PutWithin (most : ℕ) (before : List ℕ) (at : ℕ) (text after : List ℕ) (next : ℕ) : Type 0 where
  pub put : Put before at text after next
  pub short : next ≤ at + most

-- no text ends past this place: far more than any buffer here holds, and small enough that a sum of two such places wraps around nowhere
abbrev pub last_place : ℕ
last_place = 1000000
