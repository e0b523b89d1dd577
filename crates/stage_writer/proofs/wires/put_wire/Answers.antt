-- `put_wire` meets its contract: each board has its own form.
use Rattle.stage_writer.proofs.wires.put_wire.Goals as goal

pub put_tree_wire-requires : goal.put_tree_wire-requires
put_tree_wire-requires c =
    let p = c.requires in
    let is = c.in-Tree.is in
    (rw is at p.0, rw is at p.2)

pub returns-in-Tree : goal.returns-in-Tree
returns-in-Tree c = rw c.in-Tree.is c.put_tree_wire.ensures
