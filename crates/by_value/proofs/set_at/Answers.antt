-- `set_at` meets its contract: one arm for the patterns that there are, one for those past them.
use mathlib.Core.Path.{sym, ap, ◌∙◌}
use mathlib.Core.Bool.{cond}
use lib.Dec.{ltb}
use lib.ListN.{get_or}
use Rattle.sheet.specs.Limits.{max_patterns}
use Rattle.table.proofs.Bits.{tabulate_at}
use Rattle.by_value.specs.Inner.ByValue.{every_value, filled}
use borrow.Author.Tests.{lt-ltb, le-ltb}
use Rattle.by_value.proofs.set_at.Goals as goal

pub returns-then-p-count : goal.returns-then-p-count
unfolding filled
returns-then-p-count c =
    let i = c in
    let a = i.args in
    sym (tabulate_at max_patterns (λ p. cond (ltb p a.count) (get_or a.sets.now p 0) every_value) a.p i.requires
    ∙ ap (λ t. cond t (get_or a.sets.now a.p 0) every_value) (lt-ltb a.p a.count c.if-p-count.true))

pub returns-else-p-count : goal.returns-else-p-count
unfolding filled
returns-else-p-count c =
    let i = c in
    let a = i.args in
    sym (tabulate_at max_patterns (λ p. cond (ltb p a.count) (get_or a.sets.now p 0) every_value) a.p i.requires
    ∙ ap (λ t. cond t (get_or a.sets.now a.p 0) every_value) (le-ltb a.p a.count c.if-p-count.false))
