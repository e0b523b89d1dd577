-- Commands in range name patterns and inputs in range.
use Prim.Native.Nat.{ℕ, ◌<◌, ◌≤◌, ◌^◌}
use mathlib.Core.Path.{◌≡◌}
use mathlib.Core.Bool.{false}
use native.Mathlib.Omega.{arith}
use borrow.Author.Tests.{leb-false}
use Rattle.base.proofs.Tests.{neither}
use Rattle.sheet.specs.Limits.{max_inputs, max_patterns, is_beyond}
use Rattle.sheet.specs.declared.Command.{Command}
use Rattle.sheet.specs.declared.Command.TheVariants.{End, Sizes, Row, DontCare, Gate, Output, Limit}
use Rattle.sheet.specs.Inner.Gathering.{pattern_of}
use Rattle.sheet.proofs.Sizes.{sizes_in, pattern_place}
use Rattle.reader.specs.declared.Reader.{Reader}
use Rattle.reader.specs.Reader.{is_out_of_range, moved_past}

below : (n p : ℕ) → n ≤ max_inputs → is_beyond n p ≡ false → p < max_patterns
below n p h e = pattern_place n p h (leb-false (2 ^ n) p e)

-- a command in range names a pattern that a sheet has room for
pub pattern_fits : (n m : ℕ) (c : Command) → n ≤ max_inputs → is_out_of_range n m c ≡ false → pattern_of c < max_patterns
pattern_fits n m End h e = omega arith
pattern_fits n m (Sizes n' m') h e = omega arith
pattern_fits n m (Row p v) h e = below n p h (neither (is_beyond n p) (is_beyond m v) e).0
pattern_fits n m (DontCare p) h e = below n p h e
pattern_fits n m (Gate k a b) h e = omega arith
pattern_fits n m (Output s) h e = omega arith
pattern_fits n m (Limit p w) h e = below n p h (neither (is_beyond n p) (is_beyond (2 ^ m) w) e).0

-- the inputs stay in range
pub inputs_fit : (r : Reader) (c : Command) (to : ℕ) → r.n ≤ max_inputs → is_out_of_range r.n r.m c ≡ false → (moved_past r c to).n ≤ max_inputs
inputs_fit r End to h e = h
inputs_fit r (Sizes n m) to h e = (sizes_in max_inputs n m e).n_most
inputs_fit r (Row p v) to h e = h
inputs_fit r (DontCare p) to h e = h
inputs_fit r (Gate k a b) to h e = h
inputs_fit r (Output s) to h e = h
inputs_fit r (Limit p w) to h e = h
