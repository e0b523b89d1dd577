-- Laws of what is formed of two sheets: the first's refusal, the second's, 13, 10, or the joined relation.
use Prim.Native.Nat.{ℕ, ◌^◌, ◌<◌, ◌≤◌}
use mathlib.Core.Path.{◌≡◌}
use mathlib.Core.Bool.{true, false}
use mathlib.Core.List.{List}
use borrow.Author.Tests.{lt-ltb, le-ltb}
use Rattle.base.specs.declared.Refusal.{Refusal}
use Rattle.base.specs.Cases.{accepted_case}
use Rattle.base.specs.Refusals.{refusal_at, empty, sizes_differ}
use Rattle.sheet.specs.declared.Command.{Command}
use Rattle.sheet.specs.Commands.{inputs_of}
use Rattle.sheet.specs.Judged.{holds, refused}
use Rattle.reader.specs.Reading.{reading_of}
use Rattle.unit.specs.Formed.{turned_away}
use Rattle.joined.specs.Joint.{second_turned_away, are_sized, joined_commands, joined_from, joined_of}
use Rattle.joined.proofs.JointRivals.{empty_in_both, joined_in}

module _ (first second : List ℕ) where
  pub first_refused_lem : (f : Refusal) → reading_of first ≡ refused f → joined_of first second ≡ turned_away f
  unfolding joined_of joined_from
  first_refused_lem f e = rw e

  module _ (cs : List Command) (e : reading_of first ≡ holds cs) where
    pub second_refused : (f : Refusal) → reading_of second ≡ refused f → joined_of first second ≡ second_turned_away f
    unfolding joined_of joined_from
    second_refused f d = rw (e, d)

    module _ (ds : List Command) (d : reading_of second ≡ holds ds) where
      pub sizes_apart_lem : are_sized cs ds ≡ false → joined_of first second ≡ second_turned_away (refusal_at sizes_differ 0)
      unfolding joined_of joined_from joined_commands
      sizes_apart_lem h = rw (e, d, h)

      pub joined_empty : are_sized cs ds ≡ true → empty_in_both cs ds < 2 ^ inputs_of cs → joined_of first second ≡ second_turned_away (refusal_at empty (empty_in_both cs ds))
      unfolding joined_of joined_from joined_commands
      joined_empty h l = rw (e, d, h, lt-ltb (empty_in_both cs ds) (2 ^ inputs_of cs) l)

      pub joined_whole : are_sized cs ds ≡ true → 2 ^ inputs_of cs ≤ empty_in_both cs ds → joined_of first second ≡ record { relation = joined_in cs ds; answer = accepted_case }
      unfolding joined_of joined_from joined_commands
      joined_whole h l = rw (e, d, h, le-ltb (empty_in_both cs ds) (2 ^ inputs_of cs) l)
