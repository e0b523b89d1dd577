-- Stages drawn that are compatible with a relation: multiple-output functions as they are drawn, wire by wire.
use Rattle.std.specs.Prelude.{ℕ, ◌^◌, ◌<◌, List, T}
use Rattle.table.specs.Drawing.{Drawing, Drawn, drawn_value}
use Rattle.relation.specs.Source.{Rel}

-- on every pattern the value that the drawings drive is allowed
pub record Family (D : Drawing) (n m : ℕ) (R : Rel) (stage : List D.Shape) : Type 0 where
  pub drawn : Drawn D n m stage
  pub allowed : (p : ℕ) → p < 2 ^ n → T (R p (drawn_value D n stage p))
