-- Demand 3 for joint quotes: the promise holds of every one. The argument is the quote's own, for another relation and another description of rivals.
use Prim.Native.Nat.{ℕ, ◌^◌, ◌<◌, ◌≤◌}
use mathlib.Core.Path.{◌≡◌, refl, sym, ap, ◌∙◌}
use mathlib.Core.Logic.{⊎_elim, ◌↔◌}
use mathlib.Core.Bool.{not}
use mathlib.Core.List.{List}
use native.Mathlib.Omega.{arith}
use lib.Dec.{T, T_not, eqb, eqb→eq, ltb, ltb→lt, nltb→le}
use lib.ListN.{length}
use Rattle.base.specs.declared.Refusal.{Refusal}
use Rattle.base.specs.Cases.{refused_outcome, second_refused_outcome, refusing}
use Rattle.base.specs.Refusals.{refusal_at, empty, sizes_differ}
use Rattle.base.proofs.Tabulate.{tabulate_length}
use Rattle.base.proofs.Tests.{and_intro, and_left, and_right, decide, eq_test, test_yes, test_no}
use Rattle.nodes.specs.declared.BoardKind.TheVariants.{Tree}
use Rattle.nodes.specs.Counts.{count_of}
use Rattle.sheet.specs.declared.Command.{Command}
use Rattle.sheet.specs.Commands.{inputs_of, wires_of}
use Rattle.sheet.specs.Judged.{Reading, holds, refused}
use Rattle.sheet.specs.Limits.{max_patterns}
use Rattle.reader.specs.Reading.{reading_of}
use Rattle.reader.proofs.Numbers.{reading_early}
use Rattle.reader.proofs.Sound.{sound}
use Rattle.table.specs.Inner.Drawing.{FairCount}
use Rattle.stage.specs.Trees.{tree_drawing}
use Rattle.diagram.proofs.Forms.{form_fair}
use Rattle.relation.specs.Joined.{join_of}
use Rattle.unit.specs.Formed.{relation_in}
use Rattle.unit.proofs.Rivals.{commands_only}
use Rattle.quote.specs.Cases.{QuoteReply}
use Rattle.quote.specs.Cases.{no_quote}
use Rattle.quote.specs.Quote.{searched}
use Rattle.quote.specs.AnyQuote.{inputs_in, wires_in}
use Rattle.quote.proofs.OneSheet.{read_is}
use Rattle.quote.proofs.AnySearched.{any_refused_promise, Tells, any_searched_promise}
use Rattle.joined.specs.Joint.{are_sized, joint_quoted, joint_buffer}
use Rattle.joined.specs.Promised.{JointRival, NoJointRival, JointPromised}
use Rattle.joined.proofs.AsSecond.{second_promise}
use Rattle.joined.proofs.Joining.{first_refused_lem, second_refused, sizes_apart_lem, joined_empty, joined_whole}
use Rattle.joined.proofs.JointRivals.{empty_in_both, joined_in, joint_told, none_joint, joined_passes}

unread : (cs : List Command) (f : Refusal) → holds cs ≡ refused f → ⊥
unread cs f d = let z : ◌≡◌ {A = ℕ} 0 1 = cc in omega arith

module _ (first second : List ℕ) (budget : ℕ) (buffer : List ℕ) where
  abbrev Kept : QuoteReply → List ℕ → Type 0
  Kept = JointPromised first second budget

  abbrev PromiseKept : Type 0
  PromiseKept = Kept (joint_quoted first second budget (length buffer)) (joint_buffer first second budget buffer)

  abbrev None : Type 0
  None = NoJointRival tree_drawing first second

  refusal : (o : ℕ) (f : Refusal) → refused_outcome ≤ o → (f.number ≡ empty) ↔ None → Kept (no_quote (refusing o f)) buffer
  refusal = any_refused_promise tree_drawing (inputs_in first) (wires_in first) (JointRival tree_drawing first second) None budget buffer

  -- a refusal that is not 10, where something else is wrong
  other : (f : Refusal) → (f.number ≡ empty → ⊥) → (None → ⊥) → (f.number ≡ empty) ↔ None
  other f ne none = (λ e. absurd (ne e), λ h. absurd (none h))

  -- reading refuses the first sheet, or the second
  first_unread : (f : Refusal) → reading_of first ≡ refused f → PromiseKept
  unfolding joint_quoted joint_buffer
  first_unread f e =
      rw (first_refused_lem first second f e)
      (refusal refused_outcome f (omega arith) (other f (λ w. omega (arith, reading_early first f e)) (λ h. unread h.commands f (sym h.held ∙ e))))

  module _ (cs : List Command) (e : reading_of first ≡ holds cs) where
    second_unread : (f : Refusal) → reading_of second ≡ refused f → PromiseKept
    unfolding joint_quoted joint_buffer
    second_unread f d =
        rw (second_refused first second cs e f d)
        (refusal second_refused_outcome f (omega arith) (other f (λ w. omega (arith, reading_early second f d)) (λ h. unread h.others f (sym h.held_others ∙ d))))

    module _ (ds : List Command) (d : reading_of second ≡ holds ds) where
      -- the sizes differ: 13
      not_sized : T (not (are_sized cs ds)) → None → ⊥
      not_sized t h =
          let a = commands_only first h.commands cs h.held e in
          let b = commands_only second h.others ds h.held_others d in
          T_not (are_sized cs ds) t
          (and_intro (eqb (inputs_of cs) (inputs_of ds)) (eqb (wires_of cs) (wires_of ds))
          (eq_test (sym (ap inputs_of a) ∙ h.same_inputs ∙ ap inputs_of b)) (eq_test (sym (ap wires_of a) ∙ h.same_wires ∙ ap wires_of b)))

      differ : T (not (are_sized cs ds)) → PromiseKept
      unfolding joint_quoted joint_buffer
      differ t =
          rw (sizes_apart_lem first second cs e ds d (test_no (are_sized cs ds) t))
          (refusal second_refused_outcome (refusal_at sizes_differ 0) (omega arith) (other (refusal_at sizes_differ 0) (λ w. omega arith) (not_sized t)))

      -- they agree
      module _ (t : T (are_sized cs ds)) where
        en : inputs_of cs ≡ inputs_of ds
        en = eqb→eq (inputs_of cs) (inputs_of ds) (and_left (eqb (inputs_of cs) (inputs_of ds)) (eqb (wires_of cs) (wires_of ds)) t)

        em : wires_of cs ≡ wires_of ds
        em = eqb→eq (wires_of cs) (wires_of ds) (and_right (eqb (inputs_of cs) (inputs_of ds)) (eqb (wires_of cs) (wires_of ds)) t)

        fair : FairCount tree_drawing (inputs_of cs) (count_of Tree (inputs_of cs))
        fair = form_fair Tree (inputs_of cs) (sound first cs e).sizes.n_most

        -- some pattern is left no value: 10
        none_left : empty_in_both cs ds < 2 ^ inputs_of cs → PromiseKept
        unfolding joint_quoted joint_buffer
        none_left l =
            rw (joined_empty first second cs e ds d (test_yes (are_sized cs ds) t) l)
            (refusal second_refused_outcome (refusal_at empty (empty_in_both cs ds)) (omega arith) (
              λ _. record {
                commands = cs;
                held = e;
                others = ds;
                held_others = d;
                same_inputs = en;
                same_wires = em;
                none = none_joint first second cs ds e d en em tree_drawing (count_of Tree (inputs_of cs)) fair l;
              },
              λ _. refl,
            ))

        -- each has one: what the search promises
        tells : 2 ^ inputs_of cs ≤ empty_in_both cs ds → Tells Tree (inputs_in first) (wires_in first) (JointRival tree_drawing first second) (joined_in cs ds)
        unfolding join_of relation_in
        tells l =
            record {
              inputs = sym (ap inputs_of (read_is first cs e));
              wires = sym (ap wires_of (read_is first cs e));
              long = tabulate_length max_patterns _;
              passes = joined_passes first second cs ds e d en em l;
              families = joint_told first second cs ds e d en em tree_drawing (count_of Tree (inputs_of cs)) fair;
            }

        whole : 2 ^ inputs_of cs ≤ empty_in_both cs ds → PromiseKept
        unfolding joint_quoted joint_buffer
        whole l =
            rw (joined_whole first second cs e ds d (test_yes (are_sized cs ds) t) l)
            (second_promise tree_drawing (inputs_in first) (wires_in first) (JointRival tree_drawing first second) None budget (searched Tree (joined_in cs ds) budget (length buffer)) _
            (any_searched_promise Tree (inputs_in first) (wires_in first) (JointRival tree_drawing first second) None (joined_in cs ds) (tells l) (λ h. h.none) budget buffer))

        agree : PromiseKept
        agree =
            ⊎_elim (λ u. none_left (ltb→lt (empty_in_both cs ds) (2 ^ inputs_of cs) u)) (λ u. whole (nltb→le (empty_in_both cs ds) (2 ^ inputs_of cs) u))
            (decide (ltb (empty_in_both cs ds) (2 ^ inputs_of cs)))

      both_read : PromiseKept
      both_read = ⊎_elim agree differ (decide (are_sized cs ds))

  pub joint_promised : JointPromised first second budget (joint_quoted first second budget (length buffer)) (joint_buffer first second budget buffer)
  joint_promised = go (reading_of first) (reading_of second) refl refl
    where
      go : (x y : Reading) → reading_of first ≡ x → reading_of second ≡ y → PromiseKept
      go (refused f) y e d = first_unread f e
      go (holds cs) (refused f) e d = second_unread cs e f d
      go (holds cs) (holds ds) e d = both_read cs e ds d
