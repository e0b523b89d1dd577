-- `put_tree` meets its contract: the halves of a table are equal, or a selector and the trees of both are stored one after the other.
use Rattle.std.proofs.Common.{◌+◌, ◌-◌, arith}
use Rattle.table.specs.Tree.{reduced}
use Rattle.stage.specs.TreeBytes.{tree_bytes}
use Rattle.stage_writer.proofs.Halves.{reduced_same, reduced_two, same_length, two_length}
use Rattle.stage_writer.proofs.Storing.{selector_stored}
use Rattle.stage_writer.proofs.trees.+put_tree.Goals as goal

pub returns-then-w-eq0 : goal.returns-then-w-eq0
unfolding tree_bytes reduced
returns-then-w-eq0 t c = rw (c.if-w-eq0.true, ← c.constant.ensures) c.put_bytes.ensures

-- a constant is one byte
pub put_bytes-requires : goal.put_bytes-requires
unfolding tree_bytes reduced
put_bytes-requires t c = rw c.if-w-eq0.true at c.requires.1

-- where the halves are equal there is room for the tree of one, else for a selector and both
pub put_tree-requires : goal.put_tree-requires
put_tree-requires t c =
    let same = same_length c.args.w c.args.t _ _ c.if-w-eq0.false c.halves-low.ensures.0 c.halves-low.ensures.1 c.args.k c.if-low-high.true in
    (omega arith, (omega arith, omega (arith, same)))

pub put_bytes-for_zero-requires : goal.put_bytes-for_zero-requires
put_bytes-for_zero-requires t c =
    omega (arith, two_length c.args.w c.args.t _ _ c.if-w-eq0.false c.halves-low.ensures.0 c.halves-low.ensures.1 c.args.k c.if-low-high.false)

pub put_tree-for_one-requires : goal.put_tree-for_one-requires
put_tree-for_one-requires t c =
    let two = two_length c.args.w c.args.t _ _ c.if-w-eq0.false c.halves-low.ensures.0 c.halves-low.ensures.1 c.args.k c.if-low-high.false in
    (omega arith, (omega arith, omega (arith, c.put_bytes-for_zero.ensures.past, two)))

pub put_tree-requires-else-low-high : goal.put_tree-requires-else-low-high
put_tree-requires-else-low-high t c =
    let two = two_length c.args.w c.args.t _ _ c.if-w-eq0.false c.halves-low.ensures.0 c.halves-low.ensures.1 c.args.k c.if-low-high.false in
    (omega arith, (omega arith, omega (arith, c.put_tree-for_one.ensures.past, c.put_bytes-for_zero.ensures.past, two)))

pub returns-then-low-high : goal.returns-then-low-high
returns-then-low-high t c =
    let a = c.args in
    rw (reduced_same a.w a.t _ _ c.if-w-eq0.false c.halves-low.ensures.0 c.halves-low.ensures.1 a.k c.if-low-high.true) c.put_tree.ensures

-- the selector names the input after the k others; the tree for 0 is there before the tree for 1, and the selector before both
pub returns-else-low-high : goal.returns-else-low-high
returns-else-low-high t c =
    let a = c.args in
    let for_zero = reduced (a.w - 1) (a.k + 1) c.halves-low.result.0 in
    let for_one = reduced (a.w - 1) (a.k + 1) c.halves-low.result.1 in
    rw (reduced_two a.w a.t _ _ c.if-w-eq0.false c.halves-low.ensures.0 c.halves-low.ensures.1 a.k c.if-low-high.false)
    (selector_stored for_zero for_one (a.k + 1) c.put_bytes-for_zero.ensures c.put_tree-for_one.ensures c.put_tree-else-low-high.ensures)
