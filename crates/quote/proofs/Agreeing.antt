-- The audit says yes exactly where the stage is a rival, with its cells; so it says yes to a quote's own stage, with the cells quoted.
use Prim.Native.Nat.{ℕ, ◌^◌}
use mathlib.Core.Path.{◌≡◌, refl, sym, ap, ap₂, ◌∙◌}
use mathlib.Core.Logic.{⊎_elim, ◌↔◌}
use mathlib.Core.Bool.{◌&&◌}
use mathlib.Core.List.{List}
use native.Mathlib.Omega.{arith}
use borrow.Author.Tests.{eq-eqb}
use lib.Dec.{T, eqb, ltb, eqb→eq, ltb→lt, nltb→le}
use lib.ListN.{length, take}
use Rattle.base.specs.declared.Refusal.{Refusal}
use Rattle.base.specs.Cases.{Case, accepting, refusing, refused_outcome, accepted_case}
use Rattle.base.specs.Refusals.{refusal_at, empty}
use Rattle.base.proofs.Tests.{decide, test_yes, test_no, and_left, and_right}
use Rattle.nodes.specs.declared.BoardKind.{BoardKind}
use Rattle.table.proofs.Bits.{all_at, all_intro}
use Rattle.relation.specs.Tests.{empty_pattern}
use Rattle.relation.specs.Families.{Family}
use Rattle.relation.specs.Handed.{relation_of}
use Rattle.sheet.specs.declared.Command.{Command}
use Rattle.sheet.specs.Commands.{inputs_of, wires_of}
use Rattle.sheet.specs.Judged.{Reading, holds, refused as unread}
use Rattle.reader.specs.Reading.{reading_of}
use Rattle.reader.proofs.Sound.{sound}
use Rattle.stage.specs.Read.{read_sheet}
use Rattle.nodes.specs.Counts.{count_of}
use Rattle.diagram.specs.Forms.{form_of, drawing_of}
use Rattle.diagram.proofs.Forms.{form_laws, form_fair}
use Rattle.table.specs.Drawing.{StageSheet, got, no_stage, drawn_value, drawn_cells}
use Rattle.stage.proofs.Sheets.{accepted}
use Rattle.unit.specs.Relation.{unit_relation}
use Rattle.unit.specs.Formed.{relation_in, turned_away, formed_of}
use Rattle.unit.specs.Rival.{Rival}
use Rattle.unit.proofs.Forming.{formed_refused, formed_empty, formed_whole}
use Rattle.unit.proofs.Rivals.{commands_only, rival_told, no_rival}
use Rattle.quote.specs.Cases.{fits_outcome, differs_outcome}
use Rattle.quote.specs.Audit.{keeps_to, sizes_apart, audited_stage, audited_from, audited_of}
use Rattle.quote.specs.Promised.{Accepted as Quotes, RivalStage}
use Rattle.quote.specs.Quote.{quoted_of, buffer_quoted}
use Rattle.quote.proofs.Demand.{promised}

-- another outcome than yes
never : {A : Type 0} {c : Case} {k : ℕ} → c ≡ accepting fits_outcome k → (c.outcome ≡ fits_outcome → ⊥) → A
never e h = absurd (h (ap (λ (x : Case). x.outcome) e))

module _ (kind : BoardKind) (sheet stage : List ℕ) (c : ℕ) where
  -- no sheet, no yes
  turned : (f : Refusal) → formed_of sheet ≡ turned_away f → audited_of kind sheet stage ≡ accepting fits_outcome c → ⊥
  unfolding audited_of audited_from
  turned f e h = let z : refusing refused_outcome f ≡ accepting fits_outcome c = rw e at h in never z (λ o. omega arith)

  -- a sheet whose relation has no empty pattern
  module _ (cs : List Command) (e : reading_of sheet ≡ holds cs) (w : formed_of sheet ≡ record { relation = relation_in cs; answer = accepted_case }) where
    audited : audited_of kind sheet stage ≡ audited_stage (drawing_of kind) (relation_in cs) (read_sheet (form_of kind) stage)
    unfolding audited_of audited_from
    audited = rw w

    -- the stage keeps to the relation exactly where its drawn are compatible with it
    kept_family : (m : ℕ) (drawn : List (drawing_of kind).Shape) → read_sheet (form_of kind) stage ≡ got (inputs_of cs) m drawn → m ≡ wires_of cs → T (keeps_to (drawing_of kind) (relation_in cs) drawn)
        → Family (drawing_of kind) (inputs_of cs) (wires_of cs) (relation_of (relation_in cs)) drawn
    unfolding keeps_to relation_in
    kept_family m drawn d em t =
        let st = accepted (form_of kind) (form_laws kind) stage (inputs_of cs) m drawn d in
        record {
          drawn = record { one_each = st.one_each ∙ em; formed = st.formed };
          allowed = all_at (2 ^ inputs_of cs) (λ p. relation_of (relation_in cs) p (drawn_value (drawing_of kind) (inputs_of cs) drawn p)) t;
        }

    family_kept : (drawn : List (drawing_of kind).Shape) → Family (drawing_of kind) (inputs_of cs) (wires_of cs) (relation_of (relation_in cs)) drawn → T (keeps_to (drawing_of kind) (relation_in cs) drawn)
    unfolding keeps_to relation_in
    family_kept drawn f = all_intro (2 ^ inputs_of cs) (λ p. relation_of (relation_in cs) p (drawn_value (drawing_of kind) (inputs_of cs) drawn p)) f.allowed

    -- rivals by the relation
    told : (drawn : List (drawing_of kind).Shape) → Rival (drawing_of kind) sheet drawn ↔ Family (drawing_of kind) (inputs_of cs) (wires_of cs) (relation_of (relation_in cs)) drawn
    told = rival_told (drawing_of kind) sheet cs e (count_of kind (inputs_of cs)) (form_fair kind (inputs_of cs) (sound sheet cs e).sizes.n_most)

    yes_rival : (s : StageSheet (drawing_of kind).Shape) → read_sheet (form_of kind) stage ≡ s → audited_stage (drawing_of kind) (relation_in cs) s ≡ accepting fits_outcome c → RivalStage (drawing_of kind) sheet stage c
    unfolding audited_stage relation_in
    yes_rival (no_stage f) d h = never h (λ o. omega arith)
    yes_rival (got n m drawn) d h =
        ⊎_elim
        (λ t.
        let en = eqb→eq n (inputs_of cs) (and_left (eqb n (inputs_of cs)) (eqb m (wires_of cs)) t) in
        let em = eqb→eq m (wires_of cs) (and_right (eqb n (inputs_of cs)) (eqb m (wires_of cs)) t) in
        let d' : read_sheet (form_of kind) stage ≡ got (inputs_of cs) m drawn = d ∙ ap (λ k. got k m drawn) en in
        ⊎_elim
        (λ k.
        let f = kept_family m drawn d' em k in
        let r = (told drawn).1 f in
        let ec = commands_only sheet r.commands cs r.held e in
        let counted : accepting fits_outcome (drawn_cells (drawing_of kind) drawn) ≡ accepting fits_outcome c =
        rw (test_yes (eqb n (inputs_of cs) && eqb m (wires_of cs)) t, test_yes (keeps_to (drawing_of kind) (relation_in cs) drawn) k) at h in
        record {
          stage = drawn;
          rival = r;
          taken = d ∙ ap₂ (λ a b. got a b drawn) (en ∙ ap inputs_of (sym ec)) (em ∙ ap wires_of (sym ec));
          counted = ap (λ (x : Case). x.value) counted;
        })
        (λ k.
        let z : accepting differs_outcome (drawn_cells (drawing_of kind) drawn) ≡ accepting fits_outcome c =
        rw (test_yes (eqb n (inputs_of cs) && eqb m (wires_of cs)) t, test_no (keeps_to (drawing_of kind) (relation_in cs) drawn) k) at h in
        never z (λ o. omega arith))
        (decide (keeps_to (drawing_of kind) (relation_in cs) drawn)))
        (λ t. let z : sizes_apart ≡ accepting fits_outcome c = rw (test_no (eqb n (inputs_of cs) && eqb m (wires_of cs)) t) at h in never z (λ o. omega arith))
        (decide (eqb n (inputs_of cs) && eqb m (wires_of cs)))

    rival_yes : RivalStage (drawing_of kind) sheet stage c → audited_stage (drawing_of kind) (relation_in cs) (read_sheet (form_of kind) stage) ≡ accepting fits_outcome c
    unfolding audited_stage relation_in
    rival_yes y =
        let ec = commands_only sheet y.rival.commands cs y.rival.held e in
        let f = (told y.stage).0 y.rival in
        let d : read_sheet (form_of kind) stage ≡ got (inputs_of cs) (wires_of cs) y.stage = y.taken ∙ ap₂ (λ a b. got a b y.stage) (ap inputs_of ec) (ap wires_of ec) in
        rw (
          d,
          eq-eqb (inputs_of cs) (inputs_of cs) refl,
          eq-eqb (wires_of cs) (wires_of cs) refl,
          test_yes (keeps_to (drawing_of kind) (relation_in cs) y.stage) (family_kept y.stage f),
          y.counted,
        )

  pub audit_yes : (audited_of kind sheet stage ≡ accepting fits_outcome c) ↔ RivalStage (drawing_of kind) sheet stage c
  audit_yes = go (reading_of sheet) refl
    where
      unread_not : (f : Refusal) → reading_of sheet ≡ unread f → RivalStage (drawing_of kind) sheet stage c → ⊥
      unread_not f e y = let d : holds y.rival.commands ≡ unread f = sym y.rival.held ∙ e in let z : ◌≡◌ {A = ℕ} 0 1 = cc in omega arith

      go : (x : Reading) → reading_of sheet ≡ x → (audited_of kind sheet stage ≡ accepting fits_outcome c) ↔ RivalStage (drawing_of kind) sheet stage c
      go (unread f) e = (λ h. absurd (turned f (formed_refused sheet f e) h), λ y. absurd (unread_not f e y))
      go (holds cs) e =
          let q = empty_pattern (inputs_of cs) (wires_of cs) (unit_relation cs) in
          ⊎_elim
          (λ t.
          let l = ltb→lt q (2 ^ inputs_of cs) t in (
            λ h. absurd (turned (refusal_at empty q) (formed_empty sheet cs e l) h),
            λ y. absurd ((no_rival (drawing_of kind) sheet cs e (count_of kind (inputs_of cs)) (form_fair kind (inputs_of cs) (sound sheet cs e).sizes.n_most)).0 l y.stage y.rival),
          ))
          (λ t.
          let w = formed_whole sheet cs e (nltb→le q (2 ^ inputs_of cs) t) in (
            λ h. yes_rival cs e w (read_sheet (form_of kind) stage) refl (sym (audited cs e w) ∙ h),
            λ y. audited cs e w ∙ rival_yes cs e w y,
          ))
          (decide (ltb q (2 ^ inputs_of cs)))

-- auditing a quote's own stage says yes with the cells quoted
pub own_audit : (kind : BoardKind) (sheet : List ℕ) (budget : ℕ) (buffer : List ℕ) → Quotes (quoted_of kind sheet budget (length buffer))
    → audited_of kind sheet (take (quoted_of kind sheet budget (length buffer)).length (buffer_quoted kind sheet budget buffer))
    ≡ accepting fits_outcome (quoted_of kind sheet budget (length buffer)).cells
own_audit kind sheet budget buffer a =
    (audit_yes kind sheet (take (quoted_of kind sheet budget (length buffer)).length (buffer_quoted kind sheet budget buffer)) (quoted_of kind sheet budget (length buffer)).cells).1
    ((promised kind sheet budget buffer).own a)
