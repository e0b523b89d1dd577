-- `masks_of` meets its contract: after each turn the halves of the words passed are in place.
use mathlib.Core.Path.{◌≡◌}
use lib.ListN.{length}
use Rattle.parts.specs.Inner.Masks.{mask_count}
use Rattle.parts.proofs.MaskRows.{HalvesTo}
use Rattle.parts.proofs.masks.masks_of.Given as goal

abbrev pub invariant-loop-i : goal.invariant-loop-i
invariant-loop-i l = (length l.masks ≡ mask_count) × HalvesTo l.words l.masks l.i
