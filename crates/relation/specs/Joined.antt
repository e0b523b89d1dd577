-- Document 02, E6: two relations joined. A value is allowed on a pattern where both allow it there.
use Rattle.std.specs.Prelude.{◌&&◌, get_or}
use Rattle.std.specs.Int.Bits.{bit_and}
use Rattle.sheet.specs.Limits.{max_patterns}
use Rattle.table.specs.Bits.{tabulate}
use Rattle.relation.specs.declared.Relation.{Relation}
use Rattle.relation.specs.Source.{Rel}

-- the intersection of the two, pattern by pattern
unfoldable pub join : Rel → Rel → Rel
join R Q p v = R p v && Q p v

-- the same of relations as numbers; the sizes are the first's, which are meant to be those of both
unfoldable pub join_of : Relation → Relation → Relation
join_of r q =
    record {
      n = r.n;
      m = r.m;
      sets = tabulate max_patterns (λ p. bit_and (get_or r.sets p 0) (get_or q.sets p 0));
    }
