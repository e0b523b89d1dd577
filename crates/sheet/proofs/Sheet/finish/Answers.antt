use mathlib.Core.Path.{sym, ap, ◌∙◌}
use Rattle.std.proofs.Common.{Err}
use Rattle.sheet.proofs.Fields.{nothing}
use Rattle.sheet.proofs.Judging.{end_trailing, end_missing, end_accepted}
use Rattle.sheet.proofs.Sheet.finish.Goals as goal

pub returns-then-to-len : goal.returns-then-to-len
returns-then-to-len c =
    let a = c.args in
    record {
      verdict = λ before s e n l. ap Err c.at.ensures ∙ end_trailing before a.self e n s a.to (rw l at c.if-to-len.true);
      blank = rw nothing;
    }

pub returns-in-Some : goal.returns-in-Some
returns-in-Some c =
    let a = c.args in
    record {
      verdict = λ before s e n l.
          ap Err c.at-in-Some.ensures
          ∙ end_missing before a.self e n s a.to (rw l at c.if-to-len.false) c.patterns_of-count.result c.patterns_of-count.ensures.0 c.in-Some.p (sym c.missing.ensures ∙ c.in-Some.is);
      blank = rw nothing;
    }

pub returns-in-None : goal.returns-in-None
returns-in-None c =
    let a = c.args in
    record {
      verdict = λ before s e n l.
          end_accepted before a.self e n s a.to (rw l at c.if-to-len.false) c.patterns_of-count.result c.patterns_of-count.ensures.0 (sym c.missing.ensures ∙ c.in-None.is);
      blank = tt;
    }
