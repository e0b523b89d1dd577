-- Document 01, "Relation" and "Refusals": the relation of a sheet as numbers. What reading refuses stays refused; a pattern that is left no value is 10.
use Rattle.std.specs.Prelude.{ℕ, ◌^◌, cond, ◌&&◌, List, ltb}
use Rattle.base.specs.declared.Refusal.{Refusal}
use Rattle.base.specs.Refusals.{refusal_at, empty}
use Rattle.base.specs.Cases.{accepted_case, refused_case}
use Rattle.table.specs.Bits.{of_bits, tabulate, is_one}
use Rattle.relation.specs.declared.Relation.{Relation}
use Rattle.relation.specs.Tests.{empty_pattern}
use Rattle.sheet.specs.declared.Command.{Command}
use Rattle.sheet.specs.Commands.{inputs_of, wires_of}
use Rattle.sheet.specs.Limits.{max_patterns, max_values}
use Rattle.sheet.specs.Judged.{Reading, holds, refused}
use Rattle.reader.specs.Reading.{reading_of}
use Rattle.unit.specs.Cases.{FormedReply, no_relation}
use Rattle.unit.specs.Relation.{unit_relation}

-- R(p) as a set: bit v says that value v is in it
unfoldable pub set_on : List Command → ℕ → ℕ
set_on cs p = of_bits max_values (λ v. is_one (ltb v (2 ^ wires_of cs) && unit_relation cs p v))

-- the relation as numbers, with empty sets past the last pattern
unfoldable pub relation_in : List Command → Relation
relation_in cs =
    record {
      n = inputs_of cs;
      m = wires_of cs;
      sets = tabulate max_patterns (λ p. cond (ltb p (2 ^ inputs_of cs)) (set_on cs p) 0);
    }

abbrev pub turned_away : Refusal → FormedReply
turned_away f = record { relation = no_relation; answer = refused_case f }

-- the relation of what was read, whether or not a pattern is left no value (document 02, E6: refusals but 10)
unfoldable pub related_from : Reading → FormedReply
related_from (refused f) = turned_away f
related_from (holds cs) = record { relation = relation_in cs; answer = accepted_case }

unfoldable pub related_of : List ℕ → FormedReply
related_of bytes = related_from (reading_of bytes)

-- the place of 10 is the lowest pattern whose R(p) is empty
unfoldable pub formed_from : Reading → FormedReply
formed_from (refused f) = turned_away f
formed_from (holds cs) =
    let p = empty_pattern (inputs_of cs) (wires_of cs) (unit_relation cs) in
    let whole : FormedReply = record { relation = relation_in cs; answer = accepted_case } in
    cond (ltb p (2 ^ inputs_of cs)) (turned_away (refusal_at empty p)) whole

unfoldable pub formed_of : List ℕ → FormedReply
formed_of bytes = formed_from (reading_of bytes)
