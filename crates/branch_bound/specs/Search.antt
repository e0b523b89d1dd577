-- Document 01, "Search": the branch and bound over a relation.
use Rattle.std.specs.Prelude.{ℕ, zero, suc, ◌+◌, Bool, true, false, cond, List, leb, ltb}
use Rattle.sheet.specs.Limits.{max_wires}
use Rattle.table.specs.Bits.{tabulate}
use Rattle.table.specs.Pick.{or_zero, least_of}
use Rattle.relation.specs.Source.{Rel, Tables}
use Rattle.table.specs.Cells.{wires, total}
use Rattle.relation.specs.Tests.{keep, agree, projection, open_wire, compatible, conflict, open_pairs}
use Rattle.branch_bound.specs.declared.State.{State}

-- What a search is over: n inputs, m wires, the cells of a table, and the number whose least decides a pick before the table's own.
pub record Board : Type 0 where
  pub n : ℕ
  pub m : ℕ
  pub count : ℕ → ℕ
  pub key : ℕ → ℕ

-- the tables of m wires as the reply has them: a zero for each wire that there is not
unfoldable pub reply_tables : ℕ → Tables → List ℕ
reply_tables m X = tabulate max_wires (λ j. cond (ltb j m) (X j) 0)

-- step 2: a part is left, which the mark will say
abbrev pub halted : State → State
halted s = record { tables = s.tables; cells = s.cells; visits = s.visits; stopped = true }

-- step 3: a part is expanded
abbrev pub charged : State → State
charged s = record { tables = s.tables; cells = s.cells; visits = s.visits + 1; stopped = s.stopped }

-- step 3: a smaller stage is the new best
abbrev pub improved : List ℕ → ℕ → State → State
improved tables cells s = record { tables = tables; cells = cells; visits = s.visits; stopped = s.stopped }

-- step 1: a part with this floor cannot hold a smaller stage
abbrev pub discarded : State → ℕ → Bool
discarded s floor = leb s.cells floor

-- step 2: the visits have reached the budget
abbrev pub used_up : ℕ → State → Bool
used_up budget s = leb budget s.visits

module _ (b : Board) where
  -- the cells of a stage
  abbrev pub total_on : Tables → ℕ
  total_on X = total b.count b.m X

  -- the pick of a wire: the least key among the tables that its projection admits, of equals the smallest table
  unfoldable pub pick : Rel → ℕ → ℕ
  pick R j = or_zero (least_of b.key b.n (projection b.m R j))

  unfoldable pub picks : Rel → List ℕ
  picks R = reply_tables b.m (pick R)

  -- the first answer chooses wire after wire (source 001's QuickSolver): what is left of R when wires 0 to j - 1 have their picks
  unfoldable pub left : Rel → ℕ → Rel
  left R zero = R
  left R (suc j) = let L = left R j in agree L j (pick L j)

  unfoldable pub quick : Rel → List ℕ
  quick R = reply_tables b.m (λ j. pick (left R j) j)

  -- the lower bound for every stage of R: the cells of its picks
  unfoldable pub floor : Rel → ℕ
  floor R = total_on (pick R)

  -- the state before any part is treated: the first answer is the best (the incumbent)
  unfoldable pub start : Rel → State
  start R = record { tables = quick R; cells = total_on (wires (quick R)); visits = zero; stopped = false }

  module _ (budget : ℕ) where
    -- step 4: both parts of a split, wire j at 0 before wire j at 1. `on` treats the parts of a part.
    unfoldable pub split : (Rel → State → State) → Rel → ℕ → ℕ → State → State
    split on R p j s = on (keep R p j 1) (on (keep R p j 0) s)

    -- steps 3 and 4: the visit is charged; compatible picks are the new best, and others are split at their first conflict
    unfoldable pub expand : (Rel → State → State) → Rel → State → State
    expand on R s =
        let p = conflict b.n b.m R (wires (picks R)) in
        let best = improved (picks R) (floor R) (charged s) in
        let t = split on R p (open_wire b.m (R p)) (charged s) in
        cond (compatible b.n b.m R (wires (picks R))) best t

    -- step 2: once the visits have reached the budget, the part is left
    unfoldable pub charge : (Rel → State → State) → Rel → State → State
    charge on R s =
        let t = expand on R s in
        cond (used_up budget s) (halted s) t

    -- step 1: a part that cannot hold a smaller stage changes nothing
    unfoldable pub treat : (Rel → State → State) → Rel → State → State
    treat on R s = let t = charge on R s in cond (discarded s (floor R)) s t

    -- the treatment of a part, at most k splits deep
    unfoldable pub visit : ℕ → Rel → State → State
    visit zero R s = s
    visit (suc k) R s = treat (visit k) R s

    -- each split closes an open pair of its part, so one more than the pairs there are is deep enough
    unfoldable pub search_part : Rel → State → State
    search_part R s = visit (suc (open_pairs b.n b.m R)) R s

    -- the whole search: R itself is the first part
    unfoldable pub run : Rel → State
    run R = search_part R (start R)
