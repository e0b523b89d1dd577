use Prim.Native.Nat.{ℕ, ◌^◌, ◌*◌, ◌%◌, ◌-◌, ◌≤◌}
use mathlib.Core.Path.{◌≡◌, ap, ◌∙◌}
use native.Mathlib.Omega.{arith}
use lib.Pow.{pow_pos, pow_mono}
use Rattle.sheet.specs.Limits.{word_bits}
use Rattle.sheet.proofs.Powers.{one_shifted}
use Rattle.sheet.proofs.limits.all_ones.Goals as goal

-- the power has room in 32 bits, and one less in 16
shifted : (v : ℕ) → v ≤ word_bits → 1 * 2 ^ v % 2 ^ 32 ≡ 2 ^ v
shifted v h = one_shifted v 32 (omega arith)

pub overflow_sub-result : goal.overflow_sub-result
overflow_sub-result c = rw (shifted c.power.result c.power.ensures.1) (pow_pos c.power.result)

pub overflow_cast-result-2 : goal.overflow_cast-result-2
overflow_cast-result-2 c =
    let v = c.power.result in
    let h : 2 ^ v ≤ 2 ^ word_bits = pow_mono c.power.ensures.1 in
    rw (shifted v c.power.ensures.1) (record { fits = omega (arith, pow_pos v) })

pub returns : goal.returns
returns c =
    let v = c.power.result in
    ap (λ x. x - 1) (shifted v c.power.ensures.1 ∙ ap (λ e. 2 ^ e) c.power.ensures.0)
