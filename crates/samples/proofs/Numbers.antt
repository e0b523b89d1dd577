-- Numbers of several bytes, the lowest first: what the library reads of the bytes at a place.
use Rattle.std.proofs.Common.{ℕ, ◌+◌, ◌≡◌, List, arith}
use Rattle.std.specs.Int.{w16, w32, w64, from_le_bytes}
use Rattle.base.specs.Tabulate.{tabulate}
use Rattle.samples.specs.Inner.Records.{byte_at, two_at, four_at, eight_at}

module _ (s : List ℕ) (at : ℕ) where
  pub two_read : from_le_bytes w16 (tabulate 2 (λ i. byte_at s (at + i))) ≡ two_at s at
  unfolding tabulate
  two_read = grind arith

  pub four_read : from_le_bytes w32 (tabulate 4 (λ i. byte_at s (at + i))) ≡ four_at s at
  unfolding tabulate
  four_read = grind arith

  pub eight_read : from_le_bytes w64 (tabulate 8 (λ i. byte_at s (at + i))) ≡ eight_at s at
  unfolding tabulate
  eight_read = grind arith
