use borrow.Author.Rules.{rules}
use mathlib.Core.Path.{refl}
use Prim.Native.Nat.{ℕ, ◌<◌}
use native.Mathlib.Omega.{arith}
use lib.Bits.{bit_and}
use lib.ListN.{length, get_or, length-set}
use Rattle.base.proofs.Tabulate.{filled_more, filled_tabulate}
use Rattle.sheet.specs.Limits.{max_patterns}
use Rattle.relation.proofs.patterns.in_both.Goals as goal

pub loop-at-init : goal.loop-at-init
loop-at-init c = (omega arith, search rules, λ q l. absurd (omega arith))

pub loop-at-preserved : goal.loop-at-preserved
loop-at-preserved c =
    let a = c.args in
    let l = c.loop-at in
    let f : ℕ → ℕ = λ q. bit_and (get_or a.first q 0) (get_or a.second q 0) in
    let b : l.at < length l.both = omega arith in (
      omega arith,
      simp length-set l.invariant.1,
      filled_more f l.both l.at (f l.at) b l.invariant.2 refl,
    )

pub returns : goal.returns
returns c =
    let a = c.args in
    let l = c.loop-at in
    filled_tabulate max_patterns (λ q. bit_and (get_or a.first q 0) (get_or a.second q 0)) l.both l.invariant.1 (λ q d. l.invariant.2 q (omega arith))
