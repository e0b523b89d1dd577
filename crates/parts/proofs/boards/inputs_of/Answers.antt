-- `inputs_of` meets its contract.
use mathlib.Core.Path.{refl}
use Rattle.parts.specs.Inner.Boards.{board_inputs}
use Rattle.parts.proofs.boards.inputs_of.Goals as goal

pub returns : goal.returns
unfolding board_inputs
returns c = refl
