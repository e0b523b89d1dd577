-- `count` meets its contract: a table is repeated to three inputs, or taken by its halves.
use mathlib.Core.Path.{◌≡◌, ◌∙◌}
use native.Mathlib.Omega.{arith}
use Rattle.table.proofs.Count.{cells_at, entry_small, of_one, of_two, of_four_alike, of_input_one, of_four}
use Rattle.table.proofs.cell_counts.count.Goals as goal

pub returns-then-n-eq1 : goal.returns-then-n-eq1
returns-then-n-eq1 c =
    let i = c in
    cells_at i.args.t c.if-n-eq1.true i.requires.2 (λ h. c.count8.ensures ∙ of_one i.args.t h)

pub returns-then-n-eq2 : goal.returns-then-n-eq2
returns-then-n-eq2 c =
    let i = c in
    cells_at i.args.t c.if-n-eq2.true i.requires.2 (λ h. c.count8-then-n-eq2.ensures ∙ of_two i.args.t h)

pub returns-then-low-high : goal.returns-then-low-high
returns-then-low-high c =
    let i = c in
    let four : i.args.n ≡ 4 = omega arith in
    cells_at i.args.t four i.requires.2 (λ h. c.count8-then-low-high.ensures ∙ of_four_alike i.args.t h c.if-low-high.true)

pub returns-then-t-eq-INPUT_ONE : goal.returns-then-t-eq-INPUT_ONE
returns-then-t-eq-INPUT_ONE c =
    let i = c in
    let four : i.args.n ≡ 4 = omega arith in
    cells_at i.args.t four i.requires.2 (λ h. of_input_one i.args.t h c.if-t-eq-INPUT_ONE.true)

pub overflow_add-result : goal.overflow_add-result
overflow_add-result c = let low = entry_small _ c.count8-2.ensures in omega arith

pub overflow_add-result-2 : goal.overflow_add-result-2
overflow_add-result-2 c =
    let low = entry_small _ c.count8-2.ensures in
    let high = entry_small _ c.count8-3.ensures in
    omega arith

pub returns : goal.returns
returns c =
    let i = c in
    let four : i.args.n ≡ 4 = omega arith in
    cells_at i.args.t four i.requires.2
    (λ h. of_four i.args.t h c.if-low-high.false c.if-t-eq-INPUT_ONE.false c.count8-2.ensures c.count8-3.ensures)
