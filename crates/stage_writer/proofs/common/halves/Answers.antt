-- `halves` meets its contract: there are fewer patterns of v inputs than a table has bits.
use Rattle.std.proofs.Common.{ℕ, ◌≡◌, suc, ◌*◌, ◌%◌, ◌/◌, ◌^◌, ◌<◌, ◌≤◌, ap, ◌∙◌, arith}
use lib.Pow.{pow_pos, pow_mono}
use Rattle.sheet.specs.Limits.{max_inputs, max_patterns}
use Rattle.sheet.proofs.Powers.{one_shifted}
use Rattle.table.specs.Cells.{low, high}
use Rattle.stage_writer.proofs.common.halves.Goals as goal

few : (v p : ℕ) → v < max_inputs → p ≡ 2 ^ v → p < max_patterns
few v p l e =
    let m : 2 ^ suc v ≤ max_patterns = pow_mono {j = max_inputs} (omega arith) in
    omega (arith, m, pow_pos v)

-- the number that halves a table, as it is shifted
half_is : (v p : ℕ) → v < max_inputs → p ≡ 2 ^ v → (1 * 2 ^ p) % 2 ^ max_patterns ≡ 2 ^ (2 ^ v)
half_is v p l e = one_shifted p max_patterns (few v p l e) ∙ ap (λ k. 2 ^ k) e

some_power : (k p : ℕ) → k ≡ 2 ^ p → 0 < k
some_power k p e = rw e (pow_pos p)

pub overflow_shl-half : goal.overflow_shl-half
overflow_shl-half c = few c.args.v c.patterns_of.result c.requires (c.patterns_of.ensures.2 (omega arith))

pub nonzero_rem-result : goal.nonzero_rem-result
nonzero_rem-result c = some_power _ (2 ^ c.args.v) (half_is c.args.v c.patterns_of.result c.requires (c.patterns_of.ensures.2 (omega arith)))

pub nonzero_div-result : goal.nonzero_div-result
nonzero_div-result c = some_power _ (2 ^ c.args.v) (half_is c.args.v c.patterns_of.result c.requires (c.patterns_of.ensures.2 (omega arith)))

pub returns : goal.returns
unfolding low high
returns c =
    let half = half_is c.args.v c.patterns_of.result c.requires (c.patterns_of.ensures.2 (omega arith)) in
    (ap (λ k. c.args.t % k) half, ap (λ k. c.args.t / k) half)
