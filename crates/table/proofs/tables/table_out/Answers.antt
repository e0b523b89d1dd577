use Prim.Native.Nat.{ℕ, ◌^◌, ◌<◌, min}
use mathlib.Core.Path.{◌≡◌, sym, ap, ◌∙◌}
use borrow.Author.Tests.{le-ltb}
use lib.Dec.{leb}
use Rattle.sheet.specs.Limits.{max_inputs, max_patterns, is_beyond}
use Rattle.sheet.proofs.Powers.{shifted, below_power, beyond_capped}
use Rattle.table.proofs.tables.table_out.Goals as goal

-- the test against the patterns as far as a sheet has room for them
by_patterns : (n t r : ℕ) → r ≡ min max_patterns (2 ^ n) → t < 2 ^ max_patterns → is_beyond r t ≡ is_beyond (2 ^ n) t
by_patterns n t r e l = ap (λ x. leb (2 ^ x) t) e ∙ beyond_capped t max_inputs n l

pub returns-then-bits-lt-TABLE_BITS : goal.returns-then-bits-lt-TABLE_BITS
returns-then-bits-lt-TABLE_BITS c =
    let s = c in
    let r = c.patterns_of-bits.result in
    shifted s.args.t r ∙ by_patterns s.args.n s.args.t r c.patterns_of-bits.ensures.0 s.ranges.t.fits

pub returns-else-bits-lt-TABLE_BITS : goal.returns-else-bits-lt-TABLE_BITS
returns-else-bits-lt-TABLE_BITS c =
    let s = c in
    let r = c.patterns_of-bits.result in
    le-ltb r max_patterns c.if-bits-lt-TABLE_BITS.false
    ∙ sym (below_power s.args.t max_patterns r s.ranges.t.fits c.if-bits-lt-TABLE_BITS.false)
    ∙ by_patterns s.args.n s.args.t r c.patterns_of-bits.ensures.0 s.ranges.t.fits
