-- `pick_narrow` meets its contract: either side of the mark its own board's pick.
use mathlib.Core.Path.{◌∙◌}
use Rattle.parts.proofs.LentPicks.{tree_asked, tree_rank, sharing_asked, sharing_rank}
use Rattle.parts.proofs.picks.pick_narrow.Goals as goal

pub pick-requires : goal.pick-requires
pick-requires c =
    let i = c in
    tree_asked _ i.requires.0 _ i.requires.1 c.if-board-lt-SHARING.true _ (i.requires.3, i.requires.4, i.requires.5)

pub pick_shared-requires : goal.pick_shared-requires
pick_shared-requires c =
    let i = c in
    sharing_asked _ i.requires.0 _ i.requires.1 c.if-board-lt-SHARING.false i.requires.2 _ (i.requires.3, i.requires.4, i.requires.5)

pub returns-then-board-lt-SHARING : goal.returns-then-board-lt-SHARING
returns-then-board-lt-SHARING c =
    let i = c in
    c.pick.ensures ∙ tree_rank _ i.requires.0 _ i.requires.1 c.if-board-lt-SHARING.true i.args.x

pub returns-else-board-lt-SHARING : goal.returns-else-board-lt-SHARING
returns-else-board-lt-SHARING c =
    let i = c in
    c.pick_shared.ensures ∙ sharing_rank _ i.requires.0 _ i.requires.1 c.if-board-lt-SHARING.false i.requires.2 i.args.x
