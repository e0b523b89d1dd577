-- Laws of the relation of a sheet that was read, whether or not a pattern is empty: the reading's refusal, or the relation.
use Prim.Native.Nat.{ℕ}
use mathlib.Core.Path.{◌≡◌, refl, sym, ap, ◌∙◌}
use mathlib.Core.List.{List}
use Rattle.base.specs.declared.Refusal.{Refusal}
use Rattle.std.specs.Prelude.{Ok, Err}
use Rattle.relation.specs.declared.Relation.{Relation}
use Rattle.base.specs.Cases.{accepted_case, refused_outcome}
use Rattle.base.proofs.Cases.{accepted_refused, refused_accepted, same_refusal}
use Rattle.sheet.specs.declared.Command.{Command}
use Rattle.sheet.specs.Judged.{Reading, holds, refused}
use Rattle.reader.specs.Reading.{reading_of}
use Rattle.unit.specs.Cases.{FormedReply, formed_reply}
use Rattle.unit.specs.Formed.{relation_in, turned_away, related_from, related_of}

module _ (bytes : List ℕ) where
  pub related_refused : (f : Refusal) → reading_of bytes ≡ refused f → related_of bytes ≡ turned_away f
  unfolding related_of related_from
  related_refused f e = rw e

  pub related_whole : (cs : List Command) → reading_of bytes ≡ holds cs → related_of bytes ≡ record { relation = relation_in cs; answer = accepted_case }
  unfolding related_of related_from
  related_whole cs e = rw e

-- what was read is told by the reply
module _ (bytes : List ℕ) where
  module _ (r : Relation) (er : formed_reply (Ok r) ≡ related_of bytes) where
    taken : (x : Reading) → reading_of bytes ≡ x → (cs : List Command) × (reading_of bytes ≡ holds cs) × (r ≡ relation_in cs)
    taken (holds cs) e = (cs, e, ap (λ (x : FormedReply). x.relation) (er ∙ related_whole bytes cs e))
    taken (refused g) e = accepted_refused g (ap (λ (x : FormedReply). x.answer) (er ∙ related_refused bytes g e))

    pub related_held : (cs : List Command) × (reading_of bytes ≡ holds cs) × (r ≡ relation_in cs)
    related_held = taken (reading_of bytes) refl

  module _ (g : Refusal) (eg : formed_reply (Err g) ≡ related_of bytes) where
    turned : (x : Reading) → reading_of bytes ≡ x → reading_of bytes ≡ refused g
    turned (holds cs) e = refused_accepted g (ap (λ (x : FormedReply). x.answer) (eg ∙ related_whole bytes cs e))
    turned (refused k) e = e ∙ ap refused (sym (same_refusal refused_outcome g k (ap (λ (x : FormedReply). x.answer) (eg ∙ related_refused bytes k e))))

    pub related_turned : reading_of bytes ≡ refused g
    related_turned = turned (reading_of bytes) refl
