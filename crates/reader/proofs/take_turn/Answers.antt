use mathlib.Core.Path.{◌≡◌, ap, sym, refl, ◌∙◌}
use Rattle.sheet.specs.Judged.{judged}
use Rattle.sheet.specs.Inner.Gathering.{gathered_reply}
use Rattle.reader.specs.Inner.Turns.{turn_of}
use Rattle.reader.specs.Reading.{onward}
use Rattle.base.proofs.Passing.{passed_on}
use Rattle.reader.proofs.Steps.{handed_back}
use Rattle.reader.proofs.InRange.{pattern_fits}
use Rattle.reader.proofs.Turns.{accepted_is, accepted_sheet, follow_refused, one_read, one_refused, sizes_first, reader_past, reader_small}
use Rattle.reader.proofs.take_turn.Goals as goal

pub returns-in_err-c : goal.returns-in_err-c
returns-in_err-c c before e f =
    let a = c.args in
    let h = c.in_err-c in
    passed_on c.from_residual.result h.field-0.0 c.from_residual.ensures.1
    ∙ ap turn_of (one_refused a.s.now before a.reader f h.field-0.0 (sym c.next.ensures ∙ h.was))

pub add-requires : goal.add-requires
add-requires c =
    let a = c.args in
    let h = c.in_ok-c in
    pattern_fits a.reader.n a.reader.m h.c c.requires (handed_back a.s.now a.reader h.c h.next (sym c.next.ensures ∙ h.was)).in_range

pub returns-in_err-more : goal.returns-in_err-more
returns-in_err-more c before e f =
    let a = c.args in
    let h = c.in_ok-c in
    let k = c.in_err-more in
    let read = sym c.next.ensures ∙ h.was in
    let b = handed_back a.s.now a.reader h.c h.next read in
    passed_on c.from_residual-in_err-more.result k.field-0.0 c.from_residual-in_err-more.ensures.1
    ∙ follow_refused before h.c a.reader.at a.s.now h.next.at k.field-0.0
    (sym (c.add.ensures before e (sizes_first a.s.now before a.reader f h.c h.next b)) ∙ k.was)
    ∙ ap turn_of (one_read a.s.now before a.reader f h.c h.next read)

pub returns : goal.returns
returns c before e f =
    let a = c.args in
    let h = c.in_ok-c in
    let k = c.in_ok-more in
    let read = sym c.next.ensures ∙ h.was in
    let b = handed_back a.s.now a.reader h.c h.next read in
    let added : gathered_reply (judged before h.c a.reader.at) ≡ _ = sym (c.add.ensures before e (sizes_first a.s.now before a.reader f h.c h.next b)) ∙ k.was in
    c.lead_on.ensures before a.s.now (accepted_sheet before h.c a.reader.at a.s.now k.more added)
    (reader_past a.s.now before a.reader f h.c h.next b) (reader_small a.s.now before a.reader f h.c h.next b c.requires) refl
    ∙ ap turn_of (ap (onward a.s.now h.c h.next.at) (sym (accepted_is before h.c a.reader.at a.s.now k.more added)))
    ∙ ap turn_of (one_read a.s.now before a.reader f h.c h.next read)
