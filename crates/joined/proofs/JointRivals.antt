-- Joint rivals are exactly the stages drawn that are compatible with the two sheets' relations joined, also as numbers; and the test of that finds what is empty.
use Prim.Native.Nat.{ℕ, ◌^◌, ◌<◌, ◌≤◌}
use mathlib.Core.Path.{◌≡◌, sym, ap, ap₂, subst, ◌∙◌}
use mathlib.Core.Logic.{◌↔◌}
use mathlib.Core.Bool.{◌&&◌}
use mathlib.Core.List.{List}
use lib.ListN.{get_or}
use Rattle.base.specs.Cases.{accepted_case, refused_case}
use Rattle.base.specs.Refusals.{refusal_at, empty}
use Rattle.sheet.specs.declared.Command.{Command}
use Rattle.sheet.specs.Commands.{inputs_of, wires_of}
use Rattle.sheet.specs.Judged.{holds}
use Rattle.sheet.specs.Limits.{max_inputs}
use Rattle.reader.specs.Reading.{reading_of}
use Rattle.reader.proofs.Sound.{sound}
use Rattle.table.specs.Drawing.{Drawing}
use Rattle.table.specs.Inner.Drawing.{FairCount}
use Rattle.relation.specs.declared.Relation.{Relation}
use Rattle.relation.specs.Source.{Rel}
use Rattle.relation.specs.Families.{Family}
use Rattle.relation.specs.Handed.{relation_of, check_of}
use Rattle.relation.specs.Joined.{join, join_of}
use Rattle.relation.specs.Tests.{empty_pattern}
use Rattle.relation.proofs.Families.{empty_family}
use Rattle.relation.proofs.Joins.{family_join, joined_small, sets_joined}
use Rattle.relation.proofs.Telling.{family_told, refused_empty, passes_whole}
use Rattle.unit.specs.Formed.{relation_in}
use Rattle.unit.specs.Relation.{unit_relation}
use Rattle.unit.specs.Rival.{Rival}
use Rattle.unit.proofs.Rivals.{rival_family}
use Rattle.unit.proofs.Told.{set_told, entry_below, sized_in}
use Rattle.joined.specs.Promised.{JointRival}

-- what both units leave, of two sheets that are read
abbrev pub both_of : List Command → List Command → Rel
both_of cs ds = join (unit_relation cs) (unit_relation ds)

-- the lowest pattern that is left no value
abbrev pub empty_in_both : List Command → List Command → ℕ
empty_in_both cs ds = empty_pattern (inputs_of cs) (wires_of cs) (both_of cs ds)

abbrev pub joined_in : List Command → List Command → Relation
joined_in cs ds = join_of (relation_in cs) (relation_in ds)

module _ (first second : List ℕ) (cs ds : List Command) (e : reading_of first ≡ holds cs) (d : reading_of second ≡ holds ds)
    (en : inputs_of cs ≡ inputs_of ds) (em : wires_of cs ≡ wires_of ds) where
  few : inputs_of cs ≤ max_inputs
  few = (sound first cs e).sizes.n_most

  pub joint_family : (D : Drawing) (x : List D.Shape) → JointRival D first second x ↔ Family D (inputs_of cs) (wires_of cs) (both_of cs ds) x
  joint_family D x =
      let a = rival_family D first cs e x in
      let b : Rival D second x ↔ Family D (inputs_of cs) (wires_of cs) (unit_relation ds) x = rw (en, em) (rival_family D second ds d x) in
      let j = family_join D (inputs_of cs) (wires_of cs) (unit_relation cs) (unit_relation ds) x in (
        λ r. j.1 (a.0 r.of_first, b.0 r.of_second),
        λ f. let g = j.0 f in record { of_first = a.1 g.0; of_second = b.1 g.1 },
      )

  -- the joined sets tell what both units leave
  joined_told : (p v : ℕ) → p < 2 ^ inputs_of cs → v < 2 ^ wires_of cs → relation_of (joined_in cs ds) p v ≡ both_of cs ds p v
  unfolding join relation_in
  joined_told p v l b =
      ap (λ (R : Rel). R p v) (sets_joined (relation_in cs) (relation_in ds) few (sym en))
      ∙ ap₂ ◌&&◌ (set_told cs (sound first cs e) p v l b)
      (set_told ds (sound second ds d) p v (subst (λ k. p < 2 ^ k) en l) (subst (λ k. v < 2 ^ k) em b))

  module _ (D : Drawing) (count : ℕ → ℕ) (counts : FairCount D (inputs_of cs) count) where
    pub joint_told : (x : List D.Shape) → JointRival D first second x ↔ Family D (inputs_of cs) (wires_of cs) (relation_of (joined_in cs ds)) x
    unfolding join_of relation_in
    joint_told x =
        let t = family_told (joined_in cs ds) (both_of cs ds) joined_told D count counts x in
        (λ r. t.1 ((joint_family D x).0 r), λ f. (joint_family D x).1 (t.0 f))

    -- an empty pattern leaves none
    pub none_joint : empty_in_both cs ds < 2 ^ inputs_of cs → (x : List D.Shape) → JointRival D first second x → ⊥
    none_joint l x r = empty_family D (inputs_of cs) count counts (wires_of cs) (both_of cs ds) l x ((joint_family D x).0 r)

  small : (p : ℕ) → p < 2 ^ inputs_of cs → get_or (joined_in cs ds).sets p 0 < 2 ^ (2 ^ wires_of cs)
  unfolding relation_in
  small = joined_small (relation_in cs) (relation_in ds) few (sym en) (2 ^ (2 ^ wires_of cs)) (λ p _. entry_below cs (sound first cs e) p)

  -- the test of the joined relation
  pub joined_refused : empty_in_both cs ds < 2 ^ inputs_of cs → check_of max_inputs (joined_in cs ds) ≡ refused_case (refusal_at empty (empty_in_both cs ds))
  unfolding join_of relation_in
  joined_refused = refused_empty (joined_in cs ds) (both_of cs ds) joined_told max_inputs (sized_in cs (sound first cs e) max_inputs few) small

  pub joined_passes : 2 ^ inputs_of cs ≤ empty_in_both cs ds → check_of max_inputs (joined_in cs ds) ≡ accepted_case
  unfolding join_of relation_in
  joined_passes = passes_whole (joined_in cs ds) (both_of cs ds) joined_told max_inputs (sized_in cs (sound first cs e) max_inputs few) small
