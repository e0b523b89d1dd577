use mathlib.Core.Path.{◌≡◌, subst, sym, ◌∙◌}
use mathlib.Core.List.{◌++◌, ◌∷◌, []}
use Prim.Native.Nat.{◌≤◌}
use Rattle.sheet.specs.Limits.{max_inputs}
use Rattle.sheet.specs.Judged.{ending}
use Rattle.sheet.specs.Inner.Gathering.{gathered_reply}
use Rattle.reader.specs.declared.Reader.{Reader}
use Rattle.base.proofs.Passing.{passed_on}
use Rattle.reader.proofs.Turns.{follow_end, follow_short, follow_on}
use Rattle.reader.proofs.lead_on.Goals as goal

pub returns-in_err-whole : goal.returns-in_err-whole
returns-in_err-whole c before s e f g l =
    let a = c.args in
    let cs = before ++ a.c ∷ [] in
    let h = c.in_err-whole in
    let ended : c.finish.result ≡ gathered_reply (ending s a.next.at cs) = c.finish.ensures.verdict cs s e (subst (λ (x : Reader). x.n ≤ max_inputs) f g) l in
    passed_on c.from_residual.result h.field-0.0 c.from_residual.ensures.1
    ∙ follow_short cs a.c s a.next.at h.field-0.0 (sym c.is_end.ensures ∙ c.if-is_end.true) (sym ended ∙ h.was)

pub returns-then-is_end : goal.returns-then-is_end
returns-then-is_end c before s e f g l =
    let a = c.args in
    let cs = before ++ a.c ∷ [] in
    let h = c.in_ok-whole in
    let ended : c.finish.result ≡ gathered_reply (ending s a.next.at cs) = c.finish.ensures.verdict cs s e (subst (λ (x : Reader). x.n ≤ max_inputs) f g) l in
    follow_end cs a.c s a.next.at h.whole (sym c.is_end.ensures ∙ c.if-is_end.true) (sym ended ∙ h.was)

pub returns : goal.returns
returns c before s e f g l =
    let a = c.args in
    follow_on (before ++ a.c ∷ []) a.c s a.next.at a.sheet a.next e f (sym c.is_end.ensures ∙ c.if-is_end.false)
