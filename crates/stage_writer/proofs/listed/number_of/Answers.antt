use Rattle.std.proofs.Common.{◌≡◌, sym, ◌∙◌, arith}
use Rattle.diagram.specs.Written.{number_of}
use Rattle.stage_writer.specs.Inner.Listed.{nodes_of}
use Rattle.stage_writer.proofs.Finding.{number_or_zero}
use Rattle.table.proofs.Halves.{low_lt}
use Rattle.stage_writer.proofs.Halves.{number_same, number_node}
use Rattle.stage_writer.proofs.listed.number_of.Goals as goal

pub returns-then-low-high : goal.returns-then-low-high
returns-then-low-high c =
    let l = c.loop-after in
    let ks = nodes_of c.args.listed.now in
    c.unwrap_or.ensures ∙ number_or_zero _ _ c.node_number.ensures
    ∙ sym (number_node l.after l.part _ _ (λ z. absurd (omega arith)) c.halves-low.ensures.0 c.halves-low.ensures.1 ks c.if-low-high.true)
    ∙ l.invariant.1

pub loop-after-preserved : goal.loop-after-preserved
loop-after-preserved c =
    let l = c.loop-after in
    let ks = nodes_of c.args.listed.now in (
      rw c.halves-low.ensures.0 (low_lt _ l.part),
      sym (number_same l.after l.part _ _ (λ z. absurd (omega arith)) c.halves-low.ensures.0 c.halves-low.ensures.1 ks c.if-low-high.false) ∙ l.invariant.1,
    )

pub returns : goal.returns
unfolding number_of
returns c =
    let l = c.loop-after in
    let z : l.after ≡ 0 = omega arith in
    rw z at l.invariant.1
