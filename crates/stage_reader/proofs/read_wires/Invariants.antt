-- `read_wires` meets its contract. The loop's invariant: what is left to read, on what is gathered, gives the whole reply.
use Rattle.std.proofs.Common.{◌≡◌, ◌*◌, ◌≤◌}
use Rattle.stage.specs.Read.{closed}
use Rattle.stage.specs.Reply.{reply_to_stage}
use Rattle.diagram.specs.Diagram.{most_entries}
use Rattle.diagram.specs.Forms.{form_of, drawing_of}
use Rattle.stage_reader.proofs.Gather.{wires_left, reply_with}
use Rattle.stage_reader.proofs.read_wires.Given as goal

abbrev pub invariant-loop-j : goal.invariant-loop-j
invariant-loop-j l = (l.cells ≤ most_entries * l.j)
    × (reply_with (form_of l.kind) l.tables l.cells l.j (closed (form_of l.kind) l.n l.m (wires_left (form_of l.kind) l.s l.n l.m l.j l.at))
    ≡ reply_to_stage (drawing_of l.kind) (closed (form_of l.kind) l.n l.m (wires_left (form_of l.kind) l.s l.n l.m 0 3)))
