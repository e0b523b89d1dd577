-- `bits_of` meets its contract: each bit is 0 or 1.
use Prim.Native.Nat.{◌+◌, ◌*◌}
use mathlib.Core.Path.{◌≡◌, refl, ap₂, ◌∙◌}
use mathlib.Core.Bool.{Bool, true, false}
use native.Mathlib.Omega.{arith}
use Rattle.std.specs.Int.{from_bool}
use Rattle.table.specs.Bits.{is_one}
use Rattle.table.specs.Inner.Pairs.{upper_half}
use Rattle.table.proofs.BitColumns.{is_one_lt_two}
use Rattle.parts.proofs.pairs.bits_of.Goals as goal

-- a test as a number, as the library has it
byte_one : (b : Bool) → from_bool b ≡ is_one b
unfolding is_one
byte_one true = refl
byte_one false = refl

pub returns : goal.returns
returns c =
    let a = c.args in
    let e = ap₂ (λ x y. x + upper_half * y) (c.from.ensures ∙ byte_one a.ones) (c.from-2.ensures ∙ byte_one a.zeros) in
    (e, omega (arith, e, is_one_lt_two a.ones, is_one_lt_two a.zeros))
