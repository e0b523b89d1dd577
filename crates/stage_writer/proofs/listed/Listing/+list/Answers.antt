-- `list` meets its contract: a table that is a constant, or has equal halves, or is listed already, or is listed after its halves.
use Rattle.std.proofs.Common.{◌∷◌, ◌-◌, List, length, sym, ap, ◌∙◌, arith}
use lib.Pow.{pow_pos}
use Rattle.diagram.specs.Written.{node_number}
use Rattle.nodes.specs.Nodes.{Node, node, listing}
use Rattle.stage_writer.proofs.Halves.{both_patterns, listing_same, listing_old, listing_new}
use Rattle.stage_writer.proofs.Finding.{has_place, lacks_place}
use Rattle.stage_writer.proofs.listed.Listing.+list.Goals as goal

pub returns-then-w-eq0 : goal.returns-then-w-eq0
unfolding listing
returns-then-w-eq0 t c = (rw c.if-w-eq0.true, omega (arith, pow_pos c.args.w))

-- where the table is no constant, there is room for what both halves list
pub list-requires : goal.list-requires
list-requires t c = (omega arith, (omega arith, omega (arith, both_patterns c.args.w c.if-w-eq0.false)))

pub returns-then-low-high : goal.returns-then-low-high
returns-then-low-high t c =
    let a = c.args in
    let same = listing_same a.w a.t _ _ c.if-w-eq0.false c.halves-low.ensures.0 c.halves-low.ensures.1 a.self.now c.if-low-high.true in
    (c.list.ensures.0 ∙ sym same, omega (arith, both_patterns a.w c.if-w-eq0.false))

pub returns-else-is_none : goal.returns-else-is_none
returns-else-is_none t c =
    let a = c.args in
    let among = ap (λ ks. node_number ks (node (a.w - 1) a.t)) c.nodes.ensures.0 in
    let there = has_place _ _ c.node_number.ensures c.if-is_none.ensures in
    let old = listing_old a.w a.t _ _ c.if-w-eq0.false c.halves-low.ensures.0 c.halves-low.ensures.1 a.self.now c.if-low-high.false (λ z. there (among ∙ z)) in
    (sym old, omega (arith, pow_pos a.w))

pub list-requires-then-is_none : goal.list-requires-then-is_none
list-requires-then-is_none t c = (omega arith, (omega arith, omega (arith, both_patterns c.args.w c.if-w-eq0.false)))

pub list-requires-then-is_none-2 : goal.list-requires-then-is_none-2
list-requires-then-is_none-2 t c = (omega arith, (omega arith, omega (arith, both_patterns c.args.w c.if-w-eq0.false)))

pub push-requires : goal.push-requires
push-requires t c = omega (arith, both_patterns c.args.w c.if-w-eq0.false)

pub returns-then-is_none : goal.returns-then-is_none
returns-then-is_none t c =
    let a = c.args in
    let among = ap (λ ks. node_number ks (node (a.w - 1) a.t)) c.nodes.ensures.0 in
    let lacks = lacks_place _ _ c.node_number.ensures c.if-is_none.ensures in
    let new = listing_new a.w a.t _ _ c.if-w-eq0.false c.halves-low.ensures.0 c.halves-low.ensures.1 a.self.now c.if-low-high.false (sym among ∙ lacks) in
    let pushed = c.push.ensures ∙ ap (λ (l : List Node). node (a.w - 1) a.t ∷ l) (c.list-then-is_none-2.ensures.0 ∙ ap (listing (a.w - 1) c.halves-low.result.1) c.list-then-is_none.ensures.0) in
    (pushed ∙ sym new, omega (arith, ap length c.push.ensures, both_patterns a.w c.if-w-eq0.false))
