-- What forming a relation computes by, and rows computed so. The starred rows of document 01, "Bench sheets", stand together in the program's crate.
use mathlib.Core.Path.{◌≡◌, refl}
use mathlib.Core.List.{List, [], ◌∷◌}
use Prim.Native.Nat.{ℕ, ◌-◌}
use Rattle.base.specs.Cases.{accepted_case}
use Rattle.base.specs.Lowest.{lowest}
use Rattle.table.specs.Bits.{bit, any, sum, of_bits, tabulate, is_one}
use Rattle.relation.specs.Tests.{empty_pattern}
use Rattle.sheet.specs.Limits.{max_patterns}
use Rattle.sheet.specs.Commands.{collect}
use Rattle.reader.specs.Reader.{next_of}
use Rattle.sheet.specs.Judged.{judged, ending}
use Rattle.reader.specs.Reading.{one_command, reading_from, reading_of}
use Rattle.unit.specs.Gates.{gate_bit, with_gates, signals_on, outputs_for}
use Rattle.unit.specs.Relation.{permits, same_list, alike, unit_relation}
use Rattle.unit.specs.Formed.{set_on, relation_in, formed_from, formed_of}

-- all that reading a sheet computes by, and then forming its relation
unfoldable pub opened_reading : ℕ
unfolding reading_of reading_from one_command next_of judged ending collect lowest is_one bit any sum of_bits tabulate
opened_reading = 0

unfoldable pub opened : ℕ
unfolding opened_reading formed_of formed_from relation_in set_on unit_relation permits alike same_list outputs_for signals_on with_gates gate_bit empty_pattern
opened = 0

-- sheet A limited on pattern 2 to the value 1, which answers otherwise
abbrev pub limited_a : List ℕ
limited_a = 1 ∷ 2 ∷ 2 ∷ 2 ∷ 0 ∷ 1 ∷ 2 ∷ 1 ∷ 0 ∷ 2 ∷ 2 ∷ 0 ∷ 2 ∷ 3 ∷ 2 ∷ 4 ∷ 2 ∷ 0 ∷ 1 ∷ 4 ∷ 0 ∷ 2 ∷ 1 ∷ 5 ∷ 2 ∷ 5 ∷ 3 ∷ 6 ∷ 2 ∷ 2 ∷ 0 ∷ 0 ∷ []

-- limits alone: two on pattern 0 leave 1, though 0 is the present value; pattern 1 is impossible and keeps its limit to 0; there is no output
abbrev pub limits_only : List ℕ
limits_only = 1 ∷ 1 ∷ 1 ∷ 2 ∷ 0 ∷ 0 ∷ 3 ∷ 1 ∷ 6 ∷ 0 ∷ 3 ∷ 0 ∷ 6 ∷ 0 ∷ 2 ∷ 0 ∷ 6 ∷ 1 ∷ 1 ∷ 0 ∷ 0 ∷ []

pub limits_only_lem : formed_of limits_only
    ≡ record { relation = record { n = 1; m = 1; sets = 2 ∷ 1 ∷ tabulate (max_patterns - 2) (λ _. 0) }; answer = accepted_case }
unfolding opened
limits_only_lem = refl
