-- What is stored in the state that is lent down, as changes of the state of the written search.
use Prim.Native.Nat.{ℕ, ◌+◌, ◌*◌, ◌/◌, ◌%◌, ◌^◌, ◌<◌}
use mathlib.Core.Path.{◌≡◌, refl, sym, ap, ◌∙◌}
use mathlib.Core.Logic.{⊎_elim}
use mathlib.Core.Bool.{Bool, not, cond}
use mathlib.Core.List.{List}
use native.Mathlib.Nat.{mod-lt, mod-eq_of_lt}
use lib.Dec.{T, T_not, not_T, leb, leb→le}
use lib.Pow.{pow_pos}
use Rattle.base.proofs.Tests.{decide, test_yes, test_no, cond_has}
use native.Mathlib.Omega.{arith}
use lib.ListN.{length, get_or}
use Rattle.sheet.specs.Limits.{max_wires, max_patterns}
use Rattle.table.specs.Inner.Pairs.{narrow_patterns}
use Rattle.relation.specs.Inner.Side.{section, side_by_side}
use Rattle.lanes.specs.Inner.Lanes.{lane_space, lane_of}
use Rattle.lanes.proofs.Lanes.{lane_lanes, side_lanes}
use Rattle.branch_bound.specs.Search.{halted, charged, improved}
use Rattle.parts.specs.declared.states.Running.{Running}
use Rattle.parts.specs.Inner.States.{side_at, AtHand, with_rest, SameBut}
use Rattle.visits.specs.Inner.States.{joined_of, state_of, spent_in, stopped_at, charged_once, kept_best, saved_of, SameRest, Ran}
use Rattle.base.proofs.Tabulate.{filled_tabulate}

-- a test of the code that fails, as the meanings write it
pub lt→nleb : (x y : ℕ) → y < x → T (not (leb x y))
lt→nleb x y l = not_T (leb x y) (λ t. omega (arith, leb→le x y t))

-- a part left, and a visit charged
pub left_ran : (s : Running) → Ran halted s (stopped_at s)
unfolding state_of
left_ran s = record { state = refl; budget = refl; whole = refl }

charged_ran : (s : Running) → Ran charged s (charged_once s)
unfolding state_of
charged_ran s = record { state = refl; budget = refl; whole = refl }

-- what the code's test of the budget tells
module _ (s : Running) {r : Running} (e : r ≡ cond (spent_in s) s (charged_once s)) where
  pub not_charged : T (not (not (spent_in s))) → T (spent_in s) × (r ≡ s)
  not_charged t = ⊎_elim (λ y. (y, e ∙ rw (test_yes (spent_in s) y))) (λ y. absurd (T_not (not (spent_in s)) t y)) (decide (spent_in s))

  pub was_charged : T (not (spent_in s)) → Ran charged s r × SameRest s r
  was_charged t = rw (e, test_no (spent_in s) t) (charged_ran s, λ i _. refl)

-- a table is made of its sections
section_lt : (t q : ℕ) → section t q < lane_space
unfolding section
section_lt t q = mod-lt (t / 2 ^ (narrow_patterns * q)) (pow_pos narrow_patterns)

pub sections_join : (t : ℕ) → t < 2 ^ max_patterns
    → section t 0 + section t 1 * lane_space + section t 2 * lane_space ^ 2 + section t 3 * lane_space ^ 3 ≡ t
unfolding section
sections_join t h =
    let a = t / lane_space in
    let b = a / lane_space in
    let c = b / lane_space in
    let e0 : t / 1 ≡ t = omega arith in
    let e2 : t / lane_space ^ 2 ≡ b = omega arith in
    let e3 : t / lane_space ^ 3 ≡ c = omega arith in
    let l : c < lane_space = omega (arith, h) in
    omega (arith, ap (λ y. y % lane_space) e0, ap (λ y. y % lane_space) e2, ap (λ y. y % lane_space) e3, mod-eq_of_lt l)

module _ (ts : List ℕ) (j : ℕ) (lj : j < max_wires) where
  side_lane : (q : ℕ) → lane_of (side_by_side ts q) j ≡ section (get_or ts j 0) q
  side_lane q = ap (λ x. lane_of x j) (side_lanes ts q) ∙ lane_lanes (λ i. section (get_or ts i 0) q) (λ i _. section_lt (get_or ts i 0) q) j lj

  pub sides_join : get_or ts j 0 < 2 ^ max_patterns → joined_of (side_by_side ts 0) (side_by_side ts 1) (side_by_side ts 2) (side_by_side ts 3) j ≡ get_or ts j 0
  unfolding joined_of
  sides_join h = rw (side_lane 0, side_lane 1, side_lane 2, side_lane 3) (sections_join (get_or ts j 0) h)

-- better tables kept
pub kept_ran : (s : Running) (ts : List ℕ) (low f : ℕ) → AtHand low s ts → length ts ≡ max_wires → ((j : ℕ) → get_or ts j 0 < 2 ^ max_patterns)
    → Ran (improved ts f) s (kept_best s low f)
unfolding state_of side_at
kept_ran s ts low f hand few small =
    record {
      state =
          rw (
            hand 0 (omega arith),
            hand 1 (omega arith),
            hand 2 (omega arith),
            hand 3 (omega arith),
            ← filled_tabulate max_wires (joined_of (side_by_side ts 0) (side_by_side ts 1) (side_by_side ts 2) (side_by_side ts 3)) ts few (λ j b. sym (sides_join ts j b (small j))),
          );
      budget = refl;
      whole = refl;
    }

-- where all but the tables of the part at hand is the same, the state is
pub same_state : {a b : Running} → SameBut a b → state_of b ≡ state_of a
unfolding state_of
same_state b = ap state_of b.is

pub same_budget : {a b : Running} → SameBut a b → b.budget ≡ a.budget
same_budget b = ap (λ (s : Running). s.budget) b.is

pub same_cells : {a b : Running} → SameBut a b → b.cells ≡ a.cells
same_cells b = ap (λ (s : Running). s.cells) b.is

pub same_whole : {a b : Running} → SameBut a b → b.whole ≡ a.whole
same_whole b = ap (λ (s : Running). s.whole) b.is

pub but_trans : {a b c : Running} → SameBut a b → SameBut b c → SameBut a c
but_trans {c = c} f g = record { is = g.is ∙ ap (λ s. with_rest s c.rest) f.is }

-- on a wide board all tables of the part at hand are saved
pub saved_wide : (wide : Bool) (s : Running) → T wide → saved_of wide s ≡ s.rest
saved_wide wide s w = cond_has (λ r. r ≡ s.rest) wide (λ _. refl) (λ h. absurd (T_not wide h w))
