use borrow.Author.Rules.{rules}
use Prim.Native.Nat.{◌+◌}
use mathlib.Core.Path.{◌≡◌, refl, ◌∙◌}
use native.Mathlib.Omega.{arith}
use mathlib.Core.List.{[], ◌∷◌}
use lib.ListN.{length as count, get_or}
use Rattle.base.specs.Inner.Put.{Put}
use Rattle.base.proofs.Stores.{put_next}
use Rattle.writer.proofs.put_command.Goals as goal

pub loop-i-init : goal.loop-i-init
loop-i-init c = (omega arith, refl, record { stored = refl; past = refl })

pub loop-i-preserved : goal.loop-i-preserved
loop-i-preserved c =
    let p = c in
    let l = p.loop-i in
    let e = p.encode-encoded in
    let a = p.args in
    let k : count e.result.bytes ≡ 4 = search rules in
    let one : Put l.out (a.at + l.i) (get_or e.result.bytes l.i 0 ∷ []) p.put.new.s (a.at + (l.i + 1)) =
    record { stored = p.put.ensures; past = omega arith } in
    (omega arith, p.put.auto.s ∙ l.invariant.1, put_next e.result.bytes l.i l.invariant.2 one (omega arith))

pub shape_of-out : goal.shape_of-out
shape_of-out c = c.loop-i.invariant.1

pub returns : goal.returns
returns c =
    let l = c.loop-i in
    let e = c.encode-encoded in
    let whole : l.i ≡ e.result.length = omega arith in
    record { put = rw (← e.ensures.0, ← whole) l.invariant.2; short = omega arith }
