-- The search keeps its promise, over the count and the order as parameters.
use Prim.Native.Nat.{ℕ, zero, suc, ◌+◌, ◌^◌, ◌<◌, ◌≤◌}
use mathlib.Core.Path.{◌≡◌, refl}
use mathlib.Core.Logic.{⊎_elim}
use mathlib.Core.Bool.{not}
use native.Mathlib.Omega.{arith}
use native.Mathlib.Nat.{not-suc-le-zero, le_refl, le_trans}
use lib.Dec.{T, T_not, not_T, leb→le, nleb→lt}
use Rattle.base.proofs.Tests.{cond_has}
use Rattle.table.proofs.Bits.{bit_cases}
use Rattle.relation.specs.Source.{Rel, Tables, Stage, Compatible, value}
use Rattle.relation.specs.Inner.Source.{WellDefined, Part}
use Rattle.table.specs.Cells.{wires}
use Rattle.relation.specs.Tests.{keep, is_open, open_wire, compatible, conflict, open_pairs}
use Rattle.relation.proofs.Decide.{free_both, compatible_at, conflict_is, open_wire_is}
use Rattle.relation.proofs.Splits.{keep_part, keep_well_defined, keep_compatible, keep_closes}
use Rattle.branch_bound.specs.declared.State.{State}
use Rattle.branch_bound.specs.Search.{Board, total_on, pick, picks, floor, start, split, expand, charge, treat, visit, search_part, run, charged}
use Rattle.branch_bound.specs.Search.{discarded, used_up}
use Rattle.branch_bound.specs.SearchPromise.{Fair, AnswerSoFar, Promise}
use Rattle.branch_bound.proofs.Picks.{wires_tables, tables_long, quick_long, tables_stage, floor_picks, pick_stage, pick_fits, floor_le}
use Rattle.branch_bound.proofs.Picks.{quick_compatible, quick_stage}

-- What treating the part R does to a state s that becomes t: never more cells, a stop stays, and with no stop no answer of R has fewer cells.
pub record Treated (b : Board) (R : Rel) (s t : State) : Type 0 where
  pub down : t.cells ≤ s.cells
  pub stays : T s.stopped → T t.stopped
  pub best : T (not t.stopped) → (X : Tables) → Stage b.n b.m X → Compatible b.n b.m R X → t.cells ≤ total_on b X

-- The induction over the parts asks two things of the test that discards: what it discards holds nothing better, and what it keeps has a floor below the
-- best cells.
module _ (b : Board) (fair : Fair b) (budget : ℕ) (Q : Rel)
    (prunes : (s : State) (f : ℕ) → T (discarded s f) → s.cells ≤ f) (spares : (s : State) (f : ℕ) → T (not (discarded s f)) → f < s.cells) where
  abbrev After : Rel → State → State → Type 0
  After R s t = AnswerSoFar b budget Q t × Treated b R s t

  -- the induction's hypothesis for the parts of a part
  abbrev Treats : ℕ → (Rel → State → State) → Type 0
  Treats k on = (R : Rel) (s : State) → open_pairs b.n b.m R < k → WellDefined b.n b.m R → Part R Q → AnswerSoFar b budget Q s → After R s (on R s)

  module _ (on : Rel → State → State) (R : Rel) (ne : WellDefined b.n b.m R) (part : Part R Q) where
    split_treats : (k p j : ℕ) (s : State) → Treats k on → open_pairs b.n b.m R < suc k → p < 2 ^ b.n → j < b.m → T (is_open b.m (R p) j)
        → AnswerSoFar b budget Q s → After R s (split b budget on R p j s)
    unfolding split
    split_treats k p j s ih lk lp lj f sd =
        let both = free_both b.m (R p) j f in
        let t = on (keep R p j 0) s in
        let one =
        ih (keep R p j 0) s (omega (arith, keep_closes b.n b.m R p j 0 lp lj f)) (keep_well_defined R p j 0 b.n b.m ne both.0)
        (λ q v h. part q v (keep_part R p j 0 q v h)) sd in
        let two =
        ih (keep R p j 1) t (omega (arith, keep_closes b.n b.m R p j 1 lp lj f)) (keep_well_defined R p j 1 b.n b.m ne both.1)
        (λ q v h. part q v (keep_part R p j 1 q v h)) one.0 in (
          two.0,
          record {
            down = omega (arith, one.1.down, two.1.down);
            stays = λ h. two.1.stays (one.1.stays h);
            best = λ h X st c.
                ⊎_elim
                (λ e. omega (
                  arith,
                  two.1.down,
                  one.1.best (not_T t.stopped (λ g. T_not (on (keep R p j 1) t).stopped h (two.1.stays g))) X st
                      (keep_compatible R p j 0 b.n b.m X c lj e),
                ))
                (λ e. two.1.best h X st (keep_compatible R p j 1 b.n b.m X c lj e))
                (bit_cases (X j) p);
          },
        )

    expand_treats : (k : ℕ) (s : State) → Treats k on → open_pairs b.n b.m R < suc k → AnswerSoFar b budget Q s → floor b R < s.cells → s.visits < budget
        → After R s (expand b budget on R s)
    unfolding expand picks
    expand_treats k s ih lk sd lf lv =
        let go : T s.stopped → s.visits + 1 ≡ budget = λ h. absurd (omega (arith, sd.spent h)) in
        let st = tables_stage b.n b.m fair.few (pick b R) (pick_stage b R ne) in
        cond_has (After R s) (compatible b.n b.m R (wires (picks b R)))
        (λ h.
        let c = compatible_at b.n b.m R (wires (picks b R)) h in (
          record {
            long = tables_long b.m (pick b R);
            stage = st;
            answer = λ p l. part p (value b.m (wires (picks b R)) p) (c p l);
            counted = floor_picks b fair.few R;
            within = omega arith;
            spent = go;
          },
          record { down = omega arith; stays = λ h. h; best = λ h X s_x c_x. floor_le b R ne fair X s_x c_x },
        ))
        (λ h.
        let p = conflict b.n b.m R (wires (picks b R)) in
        let at = conflict_is b.n b.m R (wires (picks b R)) h in
        let w = open_wire_is b.n b.m R (wires (picks b R)) ne
        (λ j l. rw (wires_tables b.n b.m fair.few (pick b R) j l) (pick_fits b R ne j)) p at.0 at.1 in
        let next = charged s in
        let r = split_treats k p (open_wire b.m (R p)) next ih lk at.0 w.0 w.1
        (record { long = sd.long; stage = sd.stage; answer = sd.answer; counted = sd.counted; within = omega arith; spent = go }) in
        (r.0, record { down = r.1.down; stays = r.1.stays; best = r.1.best }))

    charge_treats : (k : ℕ) (s : State) → Treats k on → open_pairs b.n b.m R < suc k → AnswerSoFar b budget Q s → floor b R < s.cells
        → After R s (charge b budget on R s)
    unfolding charge
    charge_treats k s ih lk sd lf =
        cond_has (After R s) (used_up budget s)
        (λ h. (
          record {
            long = sd.long;
            stage = sd.stage;
            answer = sd.answer;
            counted = sd.counted;
            within = sd.within;
            spent = λ _. omega (arith, leb→le budget s.visits h, sd.within);
          },
          record { down = le_refl s.cells; stays = λ _. tt; best = λ h. absurd h },
        ))
        (λ h. expand_treats k s ih lk sd lf (nleb→lt budget s.visits h))

    treat_treats : (k : ℕ) (s : State) → Treats k on → open_pairs b.n b.m R < suc k → AnswerSoFar b budget Q s → After R s (treat b budget on R s)
    unfolding treat
    treat_treats k s ih lk sd =
        cond_has (After R s) (discarded s (floor b R))
        (λ h. (sd, record { down = le_refl s.cells; stays = λ h. h; best = λ _ X s_x c_x. le_trans (prunes s (floor b R) h) (floor_le b R ne fair X s_x c_x) }))
        (λ h. charge_treats k s ih lk sd (spares s (floor b R) h))

  visit_treats : (k : ℕ) → Treats k (visit b budget k)
  unfolding visit
  visit_treats zero R s l ne part sd = absurd (not-suc-le-zero l)
  visit_treats (suc k) R s l ne part sd = treat_treats (visit b budget k) R ne part k s (visit_treats k) l sd

pub run_promise : (b : Board) → Fair b → (budget : ℕ) (R : Rel) → WellDefined b.n b.m R → Promise b budget R (run b budget R)
unfolding run search_part start
run_promise b fair budget R ne =
    let few = fair.few in
    let k = suc (open_pairs b.n b.m R) in
    let first : AnswerSoFar b budget R (start b R) =
    record {
      long = quick_long b R;
      stage = quick_stage b R ne few;
      answer = quick_compatible b R ne few;
      counted = refl;
      within = omega arith;
      spent = λ h. absurd h;
    } in
    let r = visit_treats b fair budget R (λ s f. leb→le s.cells f) (λ s f. nleb→lt s.cells f) k R (start b R) (omega arith) ne (λ p v t. t) first in
    record { so_far = r.0; above = floor_le b R ne fair; best = r.1.best }
