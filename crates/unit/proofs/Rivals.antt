-- Rivals are exactly the stages drawn that are compatible with the relation, and some pattern is empty exactly where there is none.
use Prim.Native.Nat.{ℕ, ◌^◌, ◌<◌, ◌≤◌}
use mathlib.Core.Path.{◌≡◌, subst}
use mathlib.Core.Logic.{⊎_elim, ◌↔◌}
use mathlib.Core.List.{List, [], ◌∷◌}
use native.Mathlib.Omega.{arith}
use lib.Dec.{T, ltb, ltb→lt, nltb→le}
use Rattle.base.proofs.Tests.{decide, and_intro, and_left, and_right}
use Rattle.relation.specs.Handed.{relation_of}
use Rattle.relation.specs.Families.{Family}
use Rattle.relation.proofs.Decide.{well_defined_or}
use Rattle.sheet.specs.declared.Command.{Command}
use Rattle.sheet.specs.Commands.{inputs_of, wires_of, rows_on, limits_on}
use Rattle.sheet.specs.Judged.{holds}
use Rattle.reader.specs.Reading.{reading_of}
use Rattle.base.specs.Each.{Each}
use Rattle.reader.proofs.Sound.{sound}
use Rattle.unit.specs.Gates.{outputs_for}
use Rattle.unit.specs.Relation.{permits, same_list, alike, unit_relation}
use Rattle.unit.specs.Rival.{Obeys, Rival}
use Rattle.unit.specs.Formed.{relation_in}
use Rattle.unit.proofs.Outputs.{same_list_lem, list_same}
use Rattle.unit.proofs.Allowed.{permits_each, each_permits}
use Rattle.unit.proofs.Told.{empty_in, family_told}
use Rattle.table.specs.Drawing.{Drawing, drawn_value}
use Rattle.table.specs.Inner.Drawing.{FairCount}
use Rattle.relation.proofs.Families.{empty_family, some_family}

-- bytes hold one list of commands
pub commands_only : (bytes : List ℕ) (cs ds : List Command) → reading_of bytes ≡ holds cs → reading_of bytes ≡ holds ds → cs ≡ ds
commands_only bytes cs ds e d = cc

-- alike to each present value
alike_each : (cs : List Command) (v : ℕ) (us : List ℕ) → T (alike cs us v) → Each (λ u. outputs_for cs v ≡ outputs_for cs u) us
unfolding alike
alike_each cs v [] t = tt
alike_each cs v (u ∷ us) t =
    let same = same_list (outputs_for cs v) (outputs_for cs u) in
    (same_list_lem (outputs_for cs v) (outputs_for cs u) (and_left same (alike cs us v) t), alike_each cs v us (and_right same (alike cs us v) t))

each_alike : (cs : List Command) (v : ℕ) (us : List ℕ) → Each (λ u. outputs_for cs v ≡ outputs_for cs u) us → T (alike cs us v)
unfolding alike
each_alike cs v [] e = tt
each_alike cs v (u ∷ us) e =
    and_intro (same_list (outputs_for cs v) (outputs_for cs u)) (alike cs us v)
    (list_same (outputs_for cs v) (outputs_for cs u) e.0) (each_alike cs v us e.1)

module _ (cs : List Command) where
  -- R(p) by what the commands say of p
  pub related : (p v : ℕ) → T (unit_relation cs p v) ↔ Obeys cs p v
  unfolding unit_relation
  related p v = (
    λ t. record {
      permitted = permits_each v (limits_on p cs) (and_left (permits (limits_on p cs) v) (alike cs (rows_on p cs) v) t);
      answers = alike_each cs v (rows_on p cs) (and_right (permits (limits_on p cs) v) (alike cs (rows_on p cs) v) t);
    },
    λ o. and_intro (permits (limits_on p cs) v) (alike cs (rows_on p cs) v)
        (each_permits v (limits_on p cs) o.permitted) (each_alike cs v (rows_on p cs) o.answers),
  )

-- the same of the bytes of a sheet, for drawings that a count is fair to
module _ (D : Drawing) (bytes : List ℕ) (cs : List Command) (e : reading_of bytes ≡ holds cs) where
  pub rival_family : (stage : List D.Shape) → Rival D bytes stage ↔ Family D (inputs_of cs) (wires_of cs) (unit_relation cs) stage
  rival_family stage = (
    λ r. subst (λ ds. Family D (inputs_of ds) (wires_of ds) (unit_relation ds) stage) (commands_only bytes r.commands cs r.held e)
        (record { drawn = r.drawn; allowed = λ p l. (related r.commands p (drawn_value D (inputs_of r.commands) stage p)).1 (r.obeys p l) }),
    λ f. record {
      commands = cs;
      held = e;
      drawn = f.drawn;
      obeys = λ p l. (related cs p (drawn_value D (inputs_of cs) stage p)).0 (f.allowed p l);
    },
  )

  module _ (count : ℕ → ℕ) (counts : FairCount D (inputs_of cs) count) where
    -- rivals are the stages compatible with the relation that the search is handed
    pub rival_told : (stage : List D.Shape) → Rival D bytes stage ↔ Family D (inputs_of cs) (wires_of cs) (relation_of (relation_in cs)) stage
    rival_told stage =
        let told = family_told cs (sound bytes cs e) D count counts stage in
        (λ r. told.1 ((rival_family stage).0 r), λ f. (rival_family stage).1 (told.0 f))

    pub some_rival : 2 ^ inputs_of cs ≤ empty_in cs → (stage : List D.Shape) × Rival D bytes stage
    some_rival l =
        ⊎_elim
        (λ w. let x = some_family D (inputs_of cs) count counts (wires_of cs) (unit_relation cs) w in (x.0, (rival_family x.0).1 x.1))
        (λ b. absurd (omega arith))
        (well_defined_or (inputs_of cs) (wires_of cs) (unit_relation cs))

    -- some R(p) is empty exactly where no rival exists
    pub no_rival : (empty_in cs < 2 ^ inputs_of cs) ↔ ((stage : List D.Shape) → Rival D bytes stage → ⊥)
    no_rival = (
      λ l stage r. empty_family D (inputs_of cs) count counts (wires_of cs) (unit_relation cs) l stage ((rival_family stage).0 r),
      λ none.
          ⊎_elim (λ (l : T (ltb (empty_in cs) (2 ^ inputs_of cs))). ltb→lt (empty_in cs) (2 ^ inputs_of cs) l)
          (λ l. let r = some_rival (nltb→le (empty_in cs) (2 ^ inputs_of cs) l) in absurd (none r.0 r.1))
          (decide (ltb (empty_in cs) (2 ^ inputs_of cs))),
    )
