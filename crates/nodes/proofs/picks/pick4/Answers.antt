use Prim.Native.Nat.{ℕ, zero, suc, ◌*◌, ◌+◌, ◌<◌, ◌≤◌, min}
use mathlib.Core.Path.{◌≡◌, refl, ap, ◌∙◌}
use native.Mathlib.Omega.{arith}
use Rattle.table.specs.Inner.Ranks.{pick_of, rank}
use Rattle.table.specs.Inner.Blocks.{Covered}
use Rattle.table.specs.Inner.Pairs.{zeros_in, ones_in}
use Rattle.nodes.specs.Nodes.{nodes}
use Rattle.nodes.specs.Inner.Ways.{one_node, most_class, way_of}
use Rattle.nodes.proofs.FourInputs.{picked}
use Rattle.nodes.proofs.picks.pick4.Invariants.{turns, Passed}
use Rattle.nodes.proofs.picks.pick4.Goals as goal

-- one turn more
turn : (w masks best u x b : ℕ) → Passed w masks best u → u < turns → x ≡ way_of masks → x ≤ most_class → b ≡ min best (x + u * one_node)
    → Passed w w b (u + 1)
unfolding Passed
turn w masks best zero x b p l ex few eb = (refl, omega (arith, eb, p.1, ex ∙ ap way_of p.0))
turn w masks best (suc zero) x b p l ex few eb = omega (arith, eb, p.1, ex ∙ ap way_of p.0)
turn w masks best (suc (suc u)) x b p l ex few eb = absurd (omega arith)

-- what is left once a turn gives no selector, or all turns are passed
module _ (w : ℕ) (covered : Covered 4 (zeros_in w) (ones_in w)) where
  abbrev answer : ℕ
  answer = rank (nodes 4) (pick_of (nodes 4) 4 (zeros_in w) (ones_in w))

  free : (masks b u : ℕ) → Passed w masks b u → 1 ≤ u → b < one_node → b ≡ answer
  unfolding Passed
  free masks b zero p some l = absurd (omega arith)
  free masks b (suc zero) p some l = omega (arith, p.1, picked w covered)
  free masks b (suc (suc u)) p some l = p ∙ picked w covered

  done : (masks b u : ℕ) → Passed w masks b u → u ≡ turns → b ≡ answer
  unfolding Passed
  done masks b zero p e = absurd (omega arith)
  done masks b (suc zero) p e = absurd (omega arith)
  done masks b (suc (suc u)) p e = p ∙ picked w covered

pub loop-inverses-init : goal.loop-inverses-init
unfolding Passed
loop-inverses-init c = (c.no_inverted-masks.ensures, omega arith)

pub returns-then-best-lt-NODE : goal.returns-then-best-lt-NODE
returns-then-best-lt-NODE c =
    let x = c.way-x in
    let l = c.loop-inverses in
    let i = c in
    let w = i.args.pair in
    free w i.requires.1 w _ (l.inverses + 1)
    (turn w l.masks l.best l.inverses x.result _ l.invariant (omega arith) x.ensures.0 x.ensures.1 c.min-best.ensures)
    (omega arith)
    c.if-best-lt-NODE.true

pub loop-inverses-preserved : goal.loop-inverses-preserved
loop-inverses-preserved c =
    let x = c.way-x in
    let l = c.loop-inverses in
    let w = c.args.pair in
    turn w l.masks l.best l.inverses x.result _ l.invariant (omega arith) x.ensures.0 x.ensures.1 c.min-best.ensures

pub returns : goal.returns
returns c =
    let l = c.loop-inverses in
    let i = c in
    done i.args.pair i.requires.1 l.masks l.best l.inverses l.invariant (omega arith)
