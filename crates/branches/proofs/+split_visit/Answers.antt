-- The cycle of the search: `visit` treats a part as document 01 writes it, and the two parts of a split one after the other, each by `split`.
use Prim.Native.Nat.{◌/◌}
use mathlib.Core.Path.{◌≡◌, refl, sym, ap, subst, ◌∙◌}
use mathlib.Core.Logic.{inl, inr}
use native.Mathlib.Omega.{arith}
use lib.Dec.{T}
use lib.ListN.{get_or, set}
use lib.Seq.{set-set}
use Rattle.std.specs.Prelude.{Some}
use Rattle.base.proofs.Tests.{told_no, told_yes}
use Rattle.branch_bound.specs.Search.{halted, improved, search_part}
use Rattle.branch_bound.specs.Boards.{board_of}
use Rattle.relation.specs.Tests.{of_sets, keep}
use Rattle.relation.specs.Inner.Members.{with_bit}
use Rattle.parts.specs.Inner.Boards.{board_in, lent_kind, lent_inputs, lent_wires, lent_wide}
use Rattle.parts.specs.Inner.Masks.{row_patterns, words_of, with_lanes}
use Rattle.parts.specs.Inner.Picks.{tables_of}
use Rattle.parts.proofs.Lending.{board_small}
use Rattle.visits.specs.Inner.States.{state_of, stopped_at, SameRest, Ran}
use Rattle.visits.proofs.StateChanges.{lt→nleb, left_ran, not_charged, was_charged, kept_ran, saved_wide}
use Rattle.halves.specs.Inner.Remade.{Remade}
use Rattle.halves.proofs.Making.{Half}
use Rattle.branches.proofs.Carrying.{carried_floor, carried_tables, carried_fit, tables_long, tables_small, carried_back}
use Rattle.branches.proofs.Steps.{halts, improves}
use Rattle.branches.proofs.Treated.{part_fewer, Tried, treated, not_made, split_ran}
use Rattle.branches.proofs.Ready.{driven_told, asked, ready}
use Rattle.branches.proofs.Kept.{pattern_there, found_splittable, still_splittable, half_of, sets_are, masks_are, lost_told, both_treated, set_put_back, row_put_back}
use Rattle.branches.proofs.+split_visit.Goals as goal
use Rattle.branches.proofs.+split_visit.Goals.{split-in-Some, split-in_default}

pub split-overflow_cast-e : goal.split-overflow_cast-e
split-overflow_cast-e t c = omega (arith, board_small c.requires.0.part.lent)

pub split-cut_at-requires : goal.split-cut_at-requires
split-cut_at-requires t c = pattern_there c.requires.0

pub split-again-requires : goal.split-again-requires
split-again-requires t c =
    let q = c.requires in
    let a = c.args in
    let h = half_of a.sets.now a.masks.now a.at q.0 q.1 q.3 c.with_bit-left.ensures in
    asked h (masks_are a.sets.now a.masks.now a.at q.0 q.1 q.3 c.with_bit-left.ensures c.cut_at.ensures) c.lost_wires-lost.ensures.1 c.lost_wires-lost.ensures.2 q.0.part.under

pub split-bounds-sets-at : goal.split-bounds-sets-at
split-bounds-sets-at t c = pattern_there c.requires.0

pub split-visit-requires : goal.split-visit-requires
split-visit-requires t c =
    let q = c.requires in
    let a = c.args in
    let h = half_of a.sets.now a.masks.now a.at q.0 q.1 q.3 c.with_bit-left.ensures in
    let es = sets_are a.sets.now a.masks.now a.at q.0 q.1 q.3 c.with_bit-left.ensures in
    let em = masks_are a.sets.now a.masks.now a.at q.0 q.1 q.3 c.with_bit-left.ensures c.cut_at.ensures in
    let lost = lost_told a.sets.now a.masks.now a.at q.0 q.1 q.3 c.with_bit-left.ensures q.2 c.lost_wires-lost.result c.lost_wires-lost.ensures.0 in
    let made = subst (λ M. Remade a.e.now (words_of M) c.lost_wires-lost.result a.low a.cells a.state.now c.again.new.state (Some c.in-Some.found)) em c.in-Some.ensures in
    let r = ready h c.lost_wires-lost.result lost q.0.part.whole q.0.part.settled made c.begin_at-from.result c.begin_at-from.ensures in
    (omega (arith, rw (← es) at (part_fewer h), c.decreases), rw (es, em) record { lent = q.0.part.lent; carried = r.0; whole = r.1; inside = r.2; settled = r.3; under = r.4 })

pub split-put_row-requires : goal.split-put_row-requires
split-put_row-requires t c = pattern_there c.requires.0

pub split-bounds-sets-at-2 : goal.split-bounds-sets-at-2
split-bounds-sets-at-2 t c = pattern_there c.requires.0

pub split-returns : goal.split-returns
unfolding board_in
split-returns t c =
    let q = c.requires in
    let a = c.args in
    let l = a.state.now in
    let k = a.at.p / row_patterns in
    let h = half_of a.sets.now a.masks.now a.at q.0 q.1 q.3 c.with_bit-left.ensures in
    let es = sets_are a.sets.now a.masks.now a.at q.0 q.1 q.3 c.with_bit-left.ensures in
    let em = masks_are a.sets.now a.masks.now a.at q.0 q.1 q.3 c.with_bit-left.ensures c.cut_at.ensures in
    let lost = lost_told a.sets.now a.masks.now a.at q.0 q.1 q.3 c.with_bit-left.ensures q.2 c.lost_wires-lost.result c.lost_wires-lost.ensures.0 in
    let made = subst (λ M. Remade a.e.now (words_of M) c.lost_wires-lost.result a.low a.cells l c.again.new.state c.again.result) em c.again.ensures in
    let wide : c.is_wide-wide.result ≡ lent_wide a.e.now = c.is_wide-wide.ensures in
    let saved : T (lent_wide a.e.now) → c.saved-rest.result ≡ l.rest = λ w. c.saved-rest.ensures ∙ saved_wide c.is_wide-wide.result l (subst T (sym wide) w) in
    let tried : Tried h c.saved-rest.result saved c.again.new.state c.again.result c.match-again.state =
    elim c.match-again.branch [
      | split-in-Some w ↦ inl (rw w.state-is w.visit.ensures.2, rw (w.state-is, ← es) w.visit.ensures.3)
      | split-in_default w ↦ inr (w.in_default.is, w.state-is)
    ] in
    let done = treated h c.saved-rest.result saved c.lost_wires-lost.result lost made tried in
    let set_back : set c.match-again.sets a.at.p a.at.set ≡ a.sets.now =
    elim c.match-again.branch [
      | split-in-Some w ↦ ap (λ x. set x a.at.p a.at.set) (w.sets-is ∙ w.visit.ensures.0) ∙ set-set a.sets.now a.at.p c.with_bit-left.result a.at.set ∙ set_put_back a.sets.now a.masks.now a.at q.1
      | split-in_default w ↦ ap (λ x. set x a.at.p a.at.set) w.sets-is ∙ set_put_back a.sets.now a.masks.now a.at q.1
    ] in
    let masks : c.match-again.masks ≡ c.cut_at.new.masks = elim c.match-again.branch [ split-in-Some w ↦ w.masks-is ∙ w.visit.ensures.1 | split-in_default w ↦ w.masks-is ] in (
      set_back,
      c.put_row.ensures ∙ ap (λ x. with_lanes x k a.at.row) (masks ∙ c.cut_at.ensures) ∙ row_put_back a.sets.now a.masks.now a.at q.1 q.0.part.carried.halved c.told-masks _,
      rw (c.restore.ensures, wide) done.0,
      rw (c.restore.ensures, wide) done.1,
    )

pub visit-returns-then-not-charge : goal.visit-returns-then-not-charge
unfolding state_of
visit-returns-then-not-charge t c =
    let a = c.args in
    let q = c.requires in
    let s = a.state.now in
    let spent = not_charged s c.charge.ensures.1 (told_no c.charge.ensures.0 c.if-not-charge.true) in
    let e = c.leave.ensures ∙ ap stopped_at spent.1 in
    let r : Ran halted s c.leave.new.state = rw e (left_ran s) in (
      refl,
      refl,
      rw e (λ i _. refl),
      record {
        state = halts (lent_kind a.e.now) q.carried.sized q.carried.sets s.budget (state_of s) (carried_floor q.carried refl) (lt→nleb _ _ q.under) spent.0 r.state;
        budget = r.budget;
        whole = r.whole;
      },
    )

pub visit-first_open-requires : goal.visit-first_open-requires
visit-first_open-requires t c =
    let q = c.requires in
    let one = was_charged c.args.state.now c.charge.ensures.1 (told_yes c.charge.ensures.0 c.if-not-charge.false) in
    (q.lent, q.carried.sized, q.carried.sets, (carried_back q.carried one.1).tables, q.inside, q.settled)

pub visit-sum_of-requires : goal.visit-sum_of-requires
visit-sum_of-requires t c = carried_fit c.requires.carried

pub visit-returns-in_default : goal.visit-returns-in_default
unfolding state_of
visit-returns-in_default t c =
    let a = c.args in
    let q = c.requires in
    let s = a.state.now in
    let left = told_yes c.charge.ensures.0 c.if-not-charge.false in
    let one = was_charged s c.charge.ensures.1 left in
    let h = carried_back q.carried one.1 in
    let f = c.from.result in
    let told = c.from.ensures ∙ c.sum_of.ensures.0 in
    let ts = tables_of (lent_kind a.e.now) (lent_inputs a.e.now) a.sets.now in
    let r : Ran (improved ts f) c.charge.new.state c.keep.new.state = rw c.keep.ensures (kept_ran c.charge.new.state ts a.low f h.tables (tables_long h) (tables_small h)) in
    let same : SameRest c.charge.new.state c.keep.new.state = rw c.keep.ensures (λ i _. refl) in (
      refl,
      refl,
      λ i li. same i li ∙ one.1 i li,
      record {
        state = improves (lent_kind a.e.now) q.carried.sized q.carried.sets s.budget (state_of s) (carried_floor q.carried told)
            (rw told (lt→nleb _ _ q.under)) left (carried_tables q.carried) c.first_open.ensures c.in_default.is (r.state ∙ ap (improved ts f) one.0.state);
        budget = r.budget ∙ one.0.budget;
        whole = r.whole ∙ one.0.whole;
      },
    )

pub visit-bounds-sets-p : goal.visit-bounds-sets-p
visit-bounds-sets-p t c =
    let a = c.args in
    let one = was_charged a.state.now c.charge.ensures.1 (told_yes c.charge.ensures.0 c.if-not-charge.false) in
    let q = found_splittable c.requires one.0 one.1 c.first_open.ensures c.in-Some.is in
    pattern_there q

pub visit-row_of-requires : goal.visit-row_of-requires
visit-row_of-requires t c =
    let a = c.args in
    let one = was_charged a.state.now c.charge.ensures.1 (told_yes c.charge.ensures.0 c.if-not-charge.false) in
    let q = found_splittable c.requires one.0 one.1 c.first_open.ensures c.in-Some.is in
    pattern_there q

pub visit-driven_on-requires : goal.visit-driven_on-requires
visit-driven_on-requires t c =
    let a = c.args in
    let one = was_charged a.state.now c.charge.ensures.1 (told_yes c.charge.ensures.0 c.if-not-charge.false) in
    let q = found_splittable c.requires one.0 one.1 c.first_open.ensures c.in-Some.is in
    pattern_there q

pub visit-split-requires : goal.visit-split-requires
visit-split-requires t c =
    let a = c.args in
    let one = was_charged a.state.now c.charge.ensures.1 (told_yes c.charge.ensures.0 c.if-not-charge.false) in
    let q = found_splittable c.requires one.0 one.1 c.first_open.ensures c.in-Some.is in
    let driven = driven_told q.part.carried c.in-Some.p (pattern_there q) c.driven_on.result c.driven_on.ensures.0 in
    (omega (arith, c.decreases), (q, (refl, c.row_of.ensures), (c.driven_on.ensures.1, driven), omega arith))

pub visit-sum_of-requires-2 : goal.visit-sum_of-requires-2
visit-sum_of-requires-2 t c = carried_fit c.requires.carried

pub visit-split-requires-then-from-state : goal.visit-split-requires-then-from-state
visit-split-requires-then-from-state t c =
    let a = c.args in
    let one = was_charged a.state.now c.charge.ensures.1 (told_yes c.charge.ensures.0 c.if-not-charge.false) in
    let q = found_splittable c.requires one.0 one.1 c.first_open.ensures c.in-Some.is in
    let first = c.split.ensures in
    let driven = driven_told q.part.carried c.in-Some.p (pattern_there q) c.driven_on.result c.driven_on.ensures.0 in
    let left = still_splittable q first.2 first.3 (omega (arith, c.sum_of-2.ensures.0)) in
    (rw first.0 (omega (arith, c.decreases)), rw (first.0, first.1) (left, (refl, c.row_of.ensures), (c.driven_on.ensures.1, driven), omega arith))

pub visit-returns-then-from-state : goal.visit-returns-then-from-state
unfolding state_of
visit-returns-then-from-state t c =
    let a = c.args in
    let v = c.requires in
    let left = told_yes c.charge.ensures.0 c.if-not-charge.false in
    let one = was_charged a.state.now c.charge.ensures.1 left in
    let q = found_splittable v one.0 one.1 c.first_open.ensures c.in-Some.is in
    let p = c.in-Some.p in
    let j = c.in-Some.j in
    let R = of_sets a.sets.now in
    let board = board_of (lent_kind a.e.now) (lent_inputs a.e.now) (lent_wires a.e.now) in
    let l = c.split.new.state in
    let first = c.split.ensures in
    let second = c.split-then-from-state.ensures in
    let ran : Ran (search_part board l.budget (keep R p j 1)) l c.split-then-from-state.new.state = rw (← first.0) second.3 in (
      second.0 ∙ first.0,
      second.1 ∙ first.1,
      λ i li. second.2 i li ∙ first.2 i li ∙ one.1 i li,
      both_treated v left one.0 c.first_open.ensures c.in-Some.is (split_ran board R p j first.3 ran),
    )

pub visit-returns-else-from-state : goal.visit-returns-else-from-state
unfolding state_of
visit-returns-else-from-state t c =
    let a = c.args in
    let v = c.requires in
    let left = told_yes c.charge.ensures.0 c.if-not-charge.false in
    let one = was_charged a.state.now c.charge.ensures.1 left in
    let q = found_splittable v one.0 one.1 c.first_open.ensures c.in-Some.is in
    let p = c.in-Some.p in
    let j = c.in-Some.j in
    let R = of_sets a.sets.now in
    let board = board_of (lent_kind a.e.now) (lent_inputs a.e.now) (lent_wires a.e.now) in
    let l = c.split.new.state in
    let first = c.split.ensures in
    let half : Half a.e.now (lent_wires a.e.now) a.sets.now a.masks.now l a.low a.cells p j 1 (with_bit (get_or a.sets.now p 0) j 1) =
    record {
      lent = q.part.lent;
      carried = carried_back q.part.carried first.2;
      pattern = q.pattern;
      wire = q.wire;
      is_open_lem = q.open_there;
      side = omega arith;
      left = refl;
    } in
    let ran = not_made half (omega (arith, c.sum_of-2.ensures.0, c.if-from-state.false)) in (
      first.0,
      first.1,
      λ i li. first.2 i li ∙ one.1 i li,
      both_treated v left one.0 c.first_open.ensures c.in-Some.is (split_ran board R p j first.3 ran),
    )
