-- `quote_both` meets its contract: the sizes are compared, then the joined relation is quoted.
use mathlib.Core.Path.{ap, ◌∙◌}
use lib.ListN.{length}
use native.Mathlib.Omega.{arith}
use Rattle.std.proofs.Common.{Err}
use Rattle.nodes.specs.declared.BoardKind.TheVariants.{Tree}
use Rattle.quote.specs.Cases.{quote_reply}
use Rattle.quote.specs.Quote.{searched, buffer_searched}
use Rattle.joined.specs.Joint.{as_second, quoted_as_second}
use Rattle.joined.proofs.JointQuoting.{inputs_apart, wires_apart, both_searched}
use Rattle.joined.proofs.quote_both.Goals as goal
use Rattle.joined.proofs.quote_both.Goals.{then-first-second-via-then-first-second, then-first-second-via-else-first-second+then-first-second-2}

pub returns-then-first-second : goal.returns-then-first-second
unfolding as_second
returns-then-first-second c =
    let a = c.args in
    let told = ap (λ f. quoted_as_second (quote_reply (Err f))) c.at.ensures in
    elim c.then-first-second.branch [
      | then-first-second-via-then-first-second w ↦ inputs_apart a.first a.second a.budget a.buffer.now w.if-first-second.true told
      | then-first-second-via-else-first-second+then-first-second-2 w ↦
          wires_apart a.first a.second a.budget a.buffer.now (omega (arith, w.if-first-second.false)) w.if-first-second-2.true told
    ]

pub returns : goal.returns
returns c =
    let a = c.args in
    let q = c.quote_relation.ensures in
    let room = length a.buffer.now in
    both_searched a.first a.second a.budget a.buffer.now (omega (arith, c.if-first-second.false)) (omega (arith, c.if-first-second-2.false))
    (ap quoted_as_second (q.0 ∙ ap (λ r. searched Tree r a.budget room) c.join-both.ensures))
    (q.1 ∙ ap (λ r. buffer_searched Tree r a.budget a.buffer.now) c.join-both.ensures)
