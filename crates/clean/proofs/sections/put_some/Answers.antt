-- `put_some` meets its contract: by whether there is a command.
use native.Mathlib.Omega.{arith}
use Rattle.base.proofs.Stores.{put_none}
use Rattle.clean.proofs.Storing.{one_command_lem, no_command}
use Rattle.clean.proofs.sections.put_some.Goals as goal

pub returns-in-Some : goal.returns-in-Some
returns-in-Some c = rw (c.in-Some.is, one_command_lem) c.put_command.ensures

pub returns-in-None : goal.returns-in-None
returns-in-None c = rw (c.in-None.is, no_command) (record { put = put_none; short = omega arith })
