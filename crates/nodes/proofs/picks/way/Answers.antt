-- `way` meets its contract: equal halves where the masks are repeated, and otherwise the least of four groups and a line.
use Prim.Native.Nat.{min}
use mathlib.Core.Path.{◌≡◌, sym, ap₂, ◌∙◌}
use native.Mathlib.Omega.{arith}
use Rattle.nodes.specs.Inner.Ways.{class_in, line_in, quarter_bytes, first_line, least_way}
use Rattle.nodes.proofs.HalvesAlike.{repeated_way}
use Rattle.nodes.proofs.picks.way.Goals as goal

pub returns-then-pair-c : goal.returns-then-pair-c
returns-then-pair-c c =
    let h = c in
    (h.halves_alike-halves.ensures.0 ∙ sym (repeated_way h.args.pair (omega arith)), h.halves_alike-halves.ensures.1)

pub returns : goal.returns
unfolding least_way
returns c =
    let z = c in
    let y = z in
    let x = y in
    let tree = x in
    let across = tree in
    let three = across in
    let first = three in
    let halves = first in
    let w = halves.args.pair in
    let straight : first.line_rank-first.result ≡ first_line (class_in (quarter_bytes w)) (line_in (quarter_bytes w)) = first.line_rank-first.ensures.0 in
    let least : x.min.result ≡ min halves.halves_alike-halves.result first.line_rank-first.result = x.min.ensures in
    let apart : y.min-2.result ≡ min x.min.result tree.tree_like-tree.result = y.min-2.ensures in
    let shared : z.min-3.result ≡ min three.three_alike-three.result across.across_alike-across.result = z.min-3.ensures in (
      c.min-4.ensures
          ∙ ap₂ min (apart ∙ ap₂ min (least ∙ ap₂ min halves.halves_alike-halves.ensures.0 straight) tree.tree_like-tree.ensures)
          (shared ∙ ap₂ min three.three_alike-three.ensures across.across_alike-across.ensures),
      omega (arith, c.min-4.ensures, apart, least, halves.halves_alike-halves.ensures.1),
    )
