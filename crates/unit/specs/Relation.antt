-- Document 01, "Relation": the values that each pattern may have. They are permitted and, where the pattern is not impossible, the unit's outputs for them
-- are those for the present value.
use Rattle.std.specs.Prelude.{ℕ, Bool, true, false, ◌&&◌, List, [], ◌∷◌, eqb}
use Rattle.table.specs.Bits.{bit}
use Rattle.relation.specs.Source.{Rel}
use Rattle.sheet.specs.declared.Command.{Command}
use Rattle.sheet.specs.Commands.{rows_on, limits_on}
use Rattle.unit.specs.Gates.{outputs_for}

-- value v is in each of the sets; every value is where there are none (document 01, "Unit sheet", command 06)
unfoldable pub permits : List ℕ → ℕ → Bool
permits [] v = true
permits (w ∷ ws) v = eqb (bit w v) 1 && permits ws v

unfoldable pub same_list : List ℕ → List ℕ → Bool
same_list [] [] = true
same_list [] (y ∷ ys) = false
same_list (x ∷ xs) [] = false
same_list (x ∷ xs) (y ∷ ys) = eqb x y && same_list xs ys

-- the unit answers on v as on each of the present values; an impossible pattern has none
unfoldable pub alike : List Command → List ℕ → ℕ → Bool
alike cs [] v = true
alike cs (u ∷ us) v = same_list (outputs_for cs v) (outputs_for cs u) && alike cs us v

unfoldable pub unit_relation : List Command → Rel
unit_relation cs p v = permits (limits_on p cs) v && alike cs (rows_on p cs) v
