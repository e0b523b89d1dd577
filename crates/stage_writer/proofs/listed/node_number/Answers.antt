-- `node_number` meets its contract: what the search from the end finds is the latest node that is the same.
use Rattle.std.proofs.Common.{rules, tests, arith}
use Rattle.stage_writer.proofs.Lasts.{last_found}
use Rattle.stage_writer.proofs.Finding.{is_same, number_found, no_number}
use Rattle.stage_writer.proofs.listed.node_number.Goals as goal

pub returns-in_err-place : goal.returns-in_err-place
returns-in_err-place c =
    let a = c.args in
    let found = last_found (is_same a.node) a.listed.now c.in_err-place.ensures.ran c.iter.ensures.rest (λ x b q w. search (rules, tests)) in
    rw c.from_residual.ensures (no_number a.node a.listed.now found)

pub returns : goal.returns
returns c =
    let a = c.args in
    let found = last_found (is_same a.node) a.listed.now c.in_ok-place.ensures.ran c.iter.ensures.rest (λ x b q w. search (rules, tests)) in
    (omega arith, number_found a.node a.listed.now c.in_ok-place.place found)
