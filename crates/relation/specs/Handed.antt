-- Document 01, "Refusals": the test of a relation that is handed over as numbers.
use Rattle.std.specs.Prelude.{ℕ, ◌^◌, cond, List, ltb, get_or, take}
use Rattle.base.specs.Refusals.{refusal_at, out_of_range, empty}
use Rattle.base.specs.Cases.{Case, accepted_case, refused_case}
use Rattle.sheet.specs.Limits.{sizes_out, is_beyond}
use Rattle.base.specs.Lowest.{lowest}
use Rattle.relation.specs.declared.Relation.{Relation}
use Rattle.relation.specs.Source.{Rel}
use Rattle.relation.specs.Tests.{of_sets, empty_pattern}

-- what the sets say; those past the last pattern say nothing
unfoldable pub relation_of : Relation → Rel
relation_of r = of_sets (take (2 ^ r.n) r.sets)

-- the lowest pattern whose set has a bit from 2 ^ m up; 2 ^ n where there is none
unfoldable pub wide_pattern : ℕ → ℕ → List ℕ → ℕ
wide_pattern n m sets = lowest (2 ^ n) (λ p. is_beyond (2 ^ m) (get_or sets p 0))

-- a set with a value that there is not is 3 at its pattern, then an empty set is 10 at its pattern
abbrev pub check_sets : Relation → Case
check_sets r =
    let n = r.n in
    let m = r.m in
    let wide = wide_pattern n m r.sets in
    let none = empty_pattern n m (relation_of r) in
    cond (ltb wide (2 ^ n)) (refused_case (refusal_at out_of_range wide)) (cond (ltb none (2 ^ n)) (refused_case (refusal_at empty none)) accepted_case)

-- with at most so many inputs, by the board (document 02, E5): sizes out of range are 3 at 0, and come before the sets
unfoldable pub check_of : (most : ℕ) → Relation → Case
check_of most r = cond (sizes_out most r.n r.m) (refused_case (refusal_at out_of_range 0)) (check_sets r)
