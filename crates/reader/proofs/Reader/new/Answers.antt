use mathlib.Core.Path.{refl}
use Rattle.sheet.specs.Commands.{collect}
use Rattle.reader.proofs.Reader.new.Goals as goal

pub returns : goal.returns
unfolding collect
returns c = refl
