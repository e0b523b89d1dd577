use mathlib.Core.Path.{refl}
use Rattle.visits.specs.Inner.States.{joined_of}
use Rattle.visits.proofs.states.joined.Goals as goal

pub returns : goal.returns
unfolding joined_of
returns c =
    rw (c.lane.ensures.0, c.lane-2.ensures.0, c.lane-3.ensures.0, c.lane-4.ensures.0) refl
