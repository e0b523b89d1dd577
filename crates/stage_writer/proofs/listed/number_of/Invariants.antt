-- `number_of` meets its contract. The loop's invariant: the part that is left has the number of the whole.
use Rattle.std.proofs.Common.{◌≡◌, ◌^◌, ◌<◌}
use Rattle.diagram.specs.Written.{number_of}
use Rattle.stage_writer.specs.Inner.Listed.{nodes_of}
use Rattle.stage_writer.proofs.listed.number_of.Given as goal

abbrev pub invariant-loop-after : goal.invariant-loop-after
invariant-loop-after l = (l.part < 2 ^ (2 ^ l.after)) × (number_of (nodes_of l.listed) l.after l.part ≡ number_of (nodes_of l.listed) l.w l.t)
