-- `judge` meets its contract: each test in its order.
use Rattle.std.proofs.Common.{sym}
use Rattle.stage_reader.proofs.Judging.{no_input, no_such_number, too_early, follows}
use Rattle.stage_reader.proofs.numbers.Numbers.judge.Goals as goal

pub returns-then-count_out : goal.returns-then-count_out
returns-then-count_out c =
    rw (← c.self.view_is, no_input c.self.inside c.self.invariant c.args.entry (sym c.if-count_out.ensures), c.at.ensures)

pub returns-then-own-entry : goal.returns-then-own-entry
returns-then-own-entry c =
    rw (
      ← c.self.view_is,
      no_such_number c.self.inside c.self.invariant c.args.entry (sym c.if-count_out.ensures) c.then-own-entry.either,
      c.at-then-own-entry.ensures,
    )

pub returns-then-zero-entry : goal.returns-then-zero-entry
returns-then-zero-entry c =
    rw (
      ← c.self.view_is,
      too_early c.self.inside c.self.invariant c.args.entry (sym c.if-count_out.ensures) c.if-own-entry.false c.if-own-entry-2.false c.then-zero-entry.either,
      c.at-then-zero-entry.ensures,
    )

pub returns : goal.returns
returns c =
    rw (
      ← c.self.view_is,
      follows c.self.inside c.self.invariant c.args.entry (sym c.if-count_out.ensures) c.if-own-entry.false c.if-own-entry-2.false c.if-zero-entry.false c.if-one-entry.false,
    )
