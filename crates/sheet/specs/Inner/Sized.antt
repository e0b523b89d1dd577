-- Sizes that are in their ranges, with at most so many inputs.
use Rattle.std.specs.Prelude.{ℕ, ◌≤◌}
use Rattle.sheet.specs.Limits.{max_wires}

pub record Sized (most n m : ℕ) : Type 0 where
  pub n_least : 1 ≤ n
  pub n_most : n ≤ most
  pub m_least : 1 ≤ m
  pub m_most : m ≤ max_wires
