use Rattle.stage_reader.proofs.Selecting.{merged}
use Rattle.stage_reader.proofs.tables.select.Goals as goal

pub returns : goal.returns
returns c =
    let p = c.requires in
    merged c.args.n c.args.i c.args.off c.args.on _ p.0 p.1 p.2 p.3 p.4 c.input_table.ensures
