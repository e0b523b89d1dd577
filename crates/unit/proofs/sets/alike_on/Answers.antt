-- `alike_on` meets its contract: the word is inverted where its bit for the value is 0.
use borrow.Author.Rules.{rules}
use native.Mathlib.Omega.{arith}
use mir.Syntax.{w16}
use mir.Val.{Fits}
use Rattle.table.specs.Bits.{bit}
use Rattle.unit.proofs.Members.{told_alike}
use Rattle.unit.proofs.sets.alike_on.Goals as goal

pub returns : goal.returns
unfolding bit
returns c = let small : Fits w16 c.args.word = search rules in told_alike c.args.word c.args.u small.fits (omega arith)
