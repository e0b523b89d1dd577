use lib.ListN.{get_or}
use mathlib.Core.Path.{ap, sym, ◌∙◌}
use Rattle.std.proofs.Common.{Err}
use Rattle.reader.proofs.Steps.{known_width, unknown_width}
use borrow.Author.Tests.{le-leb, lt-leb, lt-ltb, le-ltb}
use Rattle.reader.specs.Reader.{next_of}
use Rattle.reader.proofs.Reader.next.Goals as goal

pub returns-then-s-at : goal.returns-then-s-at
unfolding next_of
returns-then-s-at c = simp (le-leb _ _ c.if-s-at.true) (ap Err c.at.ensures)

pub returns-in_default : goal.returns-in_default
unfolding next_of
returns-in_default c = simp (lt-leb _ _ c.if-s-at.false, unknown_width (get_or c.args.s.now c.args.self.at 0) (sym c.width.ensures ∙ c.in_default.is)) (ap Err c.at-in_default.ensures)

pub returns-then-out_of_turn : goal.returns-then-out_of_turn
unfolding next_of
returns-then-out_of_turn c =
    simp (lt-leb _ _ c.if-s-at.false, (known_width (get_or c.args.s.now c.args.self.at 0) c.in-Some.w (sym c.width.ensures ∙ c.in-Some.is)).1, (known_width (get_or c.args.s.now c.args.self.at 0) c.in-Some.w (sym c.width.ensures ∙ c.in-Some.is)).0, ← c.out_of_turn.ensures, c.if-out_of_turn.true) (ap Err c.at-then-out_of_turn.ensures)

pub returns-then-s-at-2 : goal.returns-then-s-at-2
unfolding next_of
returns-then-s-at-2 c =
    simp (
      lt-leb _ _ c.if-s-at.false,
      (known_width (get_or c.args.s.now c.args.self.at 0) c.in-Some.w (sym c.width.ensures ∙ c.in-Some.is)).0,
      (known_width (get_or c.args.s.now c.args.self.at 0) c.in-Some.w (sym c.width.ensures ∙ c.in-Some.is)).1,
      ← c.out_of_turn.ensures,
      c.if-out_of_turn.false,
      lt-ltb _ _ c.if-s-at-2.true,
    ) (ap Err c.at-then-s-at-2.ensures)

pub returns-then-out_of_range : goal.returns-then-out_of_range
unfolding next_of
returns-then-out_of_range c =
    simp (
      lt-leb _ _ c.if-s-at.false,
      (known_width (get_or c.args.s.now c.args.self.at 0) c.in-Some.w (sym c.width.ensures ∙ c.in-Some.is)).0,
      (known_width (get_or c.args.s.now c.args.self.at 0) c.in-Some.w (sym c.width.ensures ∙ c.in-Some.is)).1,
      ← c.out_of_turn.ensures,
      c.if-out_of_turn.false,
      le-ltb _ _ c.if-s-at-2.false,
      ← c.byte_at.ensures,
      ← c.byte_at-2.ensures,
      ← c.byte_at-3.ensures,
      ← c.command-c.ensures,
      ← c.out_of_range.ensures,
      c.if-out_of_range.true,
    ) (ap Err c.at-then-out_of_range.ensures)

pub returns : goal.returns
unfolding next_of
returns c =
    simp (
      lt-leb _ _ c.if-s-at.false,
      (known_width (get_or c.args.s.now c.args.self.at 0) c.in-Some.w (sym c.width.ensures ∙ c.in-Some.is)).0,
      (known_width (get_or c.args.s.now c.args.self.at 0) c.in-Some.w (sym c.width.ensures ∙ c.in-Some.is)).1,
      ← c.out_of_turn.ensures,
      c.if-out_of_turn.false,
      le-ltb _ _ c.if-s-at-2.false,
      ← c.byte_at.ensures,
      ← c.byte_at-2.ensures,
      ← c.byte_at-3.ensures,
      ← c.command-c.ensures,
      ← c.out_of_range.ensures,
      c.if-out_of_range.false,
      ← c.moved_past.ensures,
    )
