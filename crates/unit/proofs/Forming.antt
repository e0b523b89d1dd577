-- Laws of forming the relation of a sheet: the reading's refusal, 10, or the relation.
use Prim.Native.Nat.{ℕ, ◌^◌, ◌<◌, ◌≤◌}
use mathlib.Core.Path.{◌≡◌, sym}
use mathlib.Core.Logic.{⊎_elim}
use mathlib.Core.List.{List}
use lib.Dec.{ltb, ltb→lt, nltb→le}
use borrow.Author.Tests.{lt-ltb, le-ltb}
use Rattle.base.specs.declared.Refusal.{Refusal}
use Rattle.base.specs.Refusals.{refusal_at, empty}
use Rattle.base.specs.Cases.{accepted_case}
use Rattle.base.proofs.Tests.{decide}
use Rattle.sheet.specs.Limits.{max_inputs}
use Rattle.relation.specs.Handed.{check_of}
use Rattle.sheet.specs.declared.Command.{Command}
use Rattle.sheet.specs.Commands.{inputs_of}
use Rattle.sheet.specs.Judged.{holds, refused}
use Rattle.reader.specs.Reading.{reading_of}
use Rattle.reader.proofs.Sound.{sound}
use Rattle.unit.specs.Formed.{relation_in, turned_away, formed_from, formed_of}
use Rattle.unit.specs.Inner.Forming.{checked_reply}
use Rattle.unit.proofs.Told.{empty_in, refused_empty, passes_whole}

module _ (bytes : List ℕ) where
  pub formed_refused : (f : Refusal) → reading_of bytes ≡ refused f → formed_of bytes ≡ turned_away f
  unfolding formed_of formed_from
  formed_refused f e = rw e

  module _ (cs : List Command) (e : reading_of bytes ≡ holds cs) where
    pub formed_empty : empty_in cs < 2 ^ inputs_of cs
        → formed_of bytes ≡ turned_away (refusal_at empty (empty_in cs))
    unfolding formed_of formed_from
    formed_empty l = rw (e, lt-ltb (empty_in cs) (2 ^ inputs_of cs) l)

    pub formed_whole : 2 ^ inputs_of cs ≤ empty_in cs
        → formed_of bytes ≡ record { relation = relation_in cs; answer = accepted_case }
    unfolding formed_of formed_from
    formed_whole l = rw (e, le-ltb (empty_in cs) (2 ^ inputs_of cs) l)

    -- what the test of the relation gives is what forming it gives
    pub after_check : checked_reply (relation_in cs) (check_of max_inputs (relation_in cs)) ≡ formed_of bytes
    after_check =
        let s = sound bytes cs e in
        let few = s.sizes.n_most in
        let p = empty_in cs in
        ⊎_elim (λ t. let l = ltb→lt p (2 ^ inputs_of cs) t in rw (refused_empty cs s max_inputs few l) (sym (formed_empty l)))
        (λ t. let l = nltb→le p (2 ^ inputs_of cs) t in rw (passes_whole cs s max_inputs few l) (sym (formed_whole l)))
        (decide (ltb p (2 ^ inputs_of cs)))
