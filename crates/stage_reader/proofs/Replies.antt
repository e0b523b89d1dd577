-- What the reader's reply tells of the stage sheet, for those who call it and match on it.
use mathlib.Core.Path.{◌≡◌, refl, ap, ◌∙◌, sym}
use mathlib.Core.List.{List}
use Rattle.std.specs.Prelude.{Ok, Err}
use Rattle.base.specs.Cases.{refused_case, refused_outcome}
use Rattle.base.proofs.Cases.{accepted_refused, refused_accepted, same_refusal}
use Rattle.base.specs.declared.Refusal.{Refusal}
use Rattle.stage.specs.Reply.{StageReply, stage_tables, reply_to_stage}
use Rattle.stage_reader.specs.Cases.{stage_reply}
use Rattle.table.specs.Drawing.{Drawing, StageSheet, got, no_stage, drawn_cells}
use Rattle.stage_reader.specs.declared.StageRead.{StageRead}

module _ (D : Drawing) (s : StageSheet D.Shape) where
  -- a refusal is the reply
  pub replies_refused : (f g : Refusal) → s ≡ no_stage f → g ≡ f → stage_reply (Err g) ≡ reply_to_stage D s
  unfolding reply_to_stage
  replies_refused f g e d = rw (e, d)

  pub told_refused : (f : Refusal) → stage_reply (Err f) ≡ reply_to_stage D s → s ≡ no_stage f
  unfolding reply_to_stage
  told_refused f e = go s (ap (λ (x : StageReply). x.answer) e)
    where
      go : (t : StageSheet D.Shape) → refused_case f ≡ (reply_to_stage D t).answer → t ≡ no_stage f
      go (got n m stage) g = refused_accepted f g
      go (no_stage g) d = ap no_stage (sym (same_refusal refused_outcome f g d))

  module _ (rd : StageRead) where
    pub record Got : Type 0 where
      pub stage : List D.Shape
      pub is : s ≡ got rd.n rd.m stage
      pub tables : rd.tables ≡ stage_tables D rd.n stage
      pub cells : rd.cells ≡ drawn_cells D stage

    pub told_got : stage_reply (Ok rd) ≡ reply_to_stage D s → Got
    unfolding reply_to_stage
    told_got e = go s refl
      where
        go : (t : StageSheet D.Shape) → s ≡ t → Got
        go (got n m stage) d =
            let f : stage_reply (Ok rd) ≡ reply_to_stage D (got n m stage) = e ∙ ap (reply_to_stage D) d in
            let en : rd.n ≡ n = ap (λ (x : StageReply). x.n) f in
            let em : rd.m ≡ m = ap (λ (x : StageReply). x.m) f in
            record { stage = stage; is = rw (en, em) d; tables = rw en (ap (λ (x : StageReply). x.tables) f); cells = ap (λ (x : StageReply). x.cells) f }
        go (no_stage g) d = accepted_refused g (ap (λ (x : StageReply). x.answer) (e ∙ ap (reply_to_stage D) d))
