-- `relate` meets its contract: the reading decides.
use mathlib.Core.Path.{ap, sym, ◌∙◌}
use Rattle.base.specs.Cases.{accepted_case}
use Rattle.base.proofs.Passing.{passed_on}
use Rattle.reader.proofs.Replies.{accepted_held, refused_reply_lem}
use Rattle.unit.specs.Cases.{formed_reply}
use Rattle.unit.proofs.Relating.{related_refused, related_whole}
use Rattle.unit.proofs.relate.Goals as goal

pub returns-in_err-sheet : goal.returns-in_err-sheet
returns-in_err-sheet c =
    let h = c.in_err-sheet in
    ap formed_reply (passed_on c.from_residual.result h.field-0.0 c.from_residual.ensures.1)
    ∙ sym (related_refused _ _ (refused_reply_lem h.field-0.0 _ h.ensures))

pub relation_of-requires : goal.relation_of-requires
relation_of-requires c =
    let h = c.in_ok-sheet in
    accepted_held _ h.sheet h.ensures

pub returns : goal.returns
unfolding accepted_held
returns c =
    let h = c.in_ok-sheet in
    let s = c.args.s in
    let read = accepted_held s.now h.sheet h.ensures in
    ap (λ r. record { relation = r; answer = accepted_case }) (c.relation_of.ensures read) ∙ sym (related_whole s.now read.commands read.held)
