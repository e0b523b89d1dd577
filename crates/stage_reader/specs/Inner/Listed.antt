-- What the numbers of a diagram are told by while it is read: how many inputs it has, and its entries so far, the latest first.
use Rattle.std.specs.Prelude.{ℕ, List}
use Rattle.diagram.specs.Diagram.{Entry}

pub record Listed : Type 0 where
  pub inputs : ℕ
  pub entries : List Entry

abbrev pub listed : ℕ → List Entry → Listed
listed n es = record { inputs = n; entries = es }
