-- The case of a joint quote's mark, or of the refusal in its place, tells which it is; and what is told of a joint quote, or of the refusal in its place, tells that.
use Prim.Native.Nat.{ℕ}
use mathlib.Core.Path.{◌≡◌, refl, sym, ◌∙◌}
use mathlib.Core.Bool.{cond}
use lib.Dec.{eqb}
use Rattle.std.specs.Prelude.{Result, Ok, Err}
use Rattle.base.specs.Cases.{Case, is_refused, refused_outcome}
use Rattle.base.specs.Refusals.{refusal_at}
use Rattle.base.proofs.Cases.{case_one, told_one}
use Rattle.branch_bound.specs.Reply.{best_outcome}
use Rattle.search.specs.declared.Mark.{Mark}
use Rattle.search.specs.declared.Mark.TheVariants.{Best, Stopped}
use Rattle.search.specs.Cases.{mark_case}
use Rattle.quote.specs.declared.Quoted.{Quoted}
use Rattle.quote.specs.Cases.{QuoteReply, quoted_told}
use Rattle.quote.proofs.Cases.{quoted_from}
use Rattle.joined.specs.declared.JointRefusal.{JointRefusal}
use Rattle.joined.specs.declared.JointRefusal.TheVariants.{First, Second}
use Rattle.joined.specs.Cases.{joint_case, joint_reply}

abbrev pub joint_marked : Result Mark JointRefusal → Case
joint_marked (Ok k) = mark_case k
joint_marked (Err f) = joint_case f

abbrev back : Case → Result Mark JointRefusal
back c =
    let refusal = refusal_at c.number c.place in
    cond (is_refused c) (Err (cond (eqb c.outcome refused_outcome) (First refusal) (Second refusal))) (Ok (cond (eqb c.outcome best_outcome) Best Stopped))

undo : (a : Result Mark JointRefusal) → back (joint_marked a) ≡ a
undo (Ok Best) = refl
undo (Ok Stopped) = refl
undo (Err (First f)) = refl
undo (Err (Second f)) = refl

pub joint_mark_one : (a b : Result Mark JointRefusal) → joint_marked a ≡ joint_marked b → a ≡ b
joint_mark_one = case_one joint_marked back undo

-- and what is told of a joint quote, or of a refusal, tells that
abbrev joint_back : QuoteReply → Result Quoted JointRefusal
joint_back r =
    let refusal = refusal_at r.mark.number r.mark.place in
    cond (is_refused r.mark) (Err (cond (eqb r.mark.outcome refused_outcome) (First refusal) (Second refusal))) (Ok (quoted_from r))

joint_kept : (c f v l : ℕ) (k : Mark) → joint_back (quoted_told (record { cells = c; floor = f; visits = v; length = l; mark = k })) ≡ Ok (record { cells = c; floor = f; visits = v; length = l; mark = k })
joint_kept c f v l Best = refl
joint_kept c f v l Stopped = refl

joint_undo : (a : Result Quoted JointRefusal) → joint_back (joint_reply a) ≡ a
joint_undo (Ok q) = joint_kept q.cells q.floor q.visits q.length q.mark
joint_undo (Err (First f)) = refl
joint_undo (Err (Second f)) = refl

pub joint_one : (a b : Result Quoted JointRefusal) → joint_reply a ≡ joint_reply b → a ≡ b
joint_one = told_one joint_reply joint_back joint_undo

-- and its mark alone, or the refusal in its place, is told by the mark of what is told
abbrev pub joint_mark : Result Quoted JointRefusal → Result Mark JointRefusal
joint_mark (Ok q) = Ok q.mark
joint_mark (Err f) = Err f

joint_marked_told : (a : Result Quoted JointRefusal) → (joint_reply a).mark ≡ joint_marked (joint_mark a)
joint_marked_told (Ok q) = refl
joint_marked_told (Err f) = refl

pub joint_reply_mark_one : (a b : Result Quoted JointRefusal) → (joint_reply a).mark ≡ (joint_reply b).mark → joint_mark a ≡ joint_mark b
joint_reply_mark_one a b e = joint_mark_one (joint_mark a) (joint_mark b) (sym (joint_marked_told a) ∙ e ∙ joint_marked_told b)
