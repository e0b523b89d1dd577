-- Document 02, E6: what two sheets are answered, on the board of trees. The first sheet's refusals but 10, then the second's but 10, then 13, then 10 on the
-- joined sets, then 12. The last three count as the second's.
use Rattle.std.specs.Prelude.{ℕ, ◌^◌, Bool, cond, ◌&&◌, List, eqb, ltb}
use Rattle.base.specs.declared.Refusal.{Refusal}
use Rattle.base.specs.Cases.{Case, accepted_case, refusing, is_refused, second_refused_outcome}
use Rattle.base.specs.Refusals.{refusal_at, empty, sizes_differ}
use Rattle.nodes.specs.declared.BoardKind.TheVariants.{Tree}
use Rattle.relation.specs.Joined.{join, join_of}
use Rattle.relation.specs.Tests.{empty_pattern}
use Rattle.sheet.specs.declared.Command.{Command}
use Rattle.sheet.specs.Commands.{inputs_of, wires_of}
use Rattle.sheet.specs.Judged.{Reading, holds, refused}
use Rattle.reader.specs.Reading.{reading_of}
use Rattle.unit.specs.Cases.{FormedReply, no_relation}
use Rattle.unit.specs.Formed.{relation_in, turned_away}
use Rattle.unit.specs.Relation.{unit_relation}
use Rattle.quote.specs.Cases.{QuoteReply, no_quote}
use Rattle.quote.specs.Quote.{searched, buffer_searched}

-- a refusal of the second sheet, which leaves no relation
abbrev pub second_turned_away : Refusal → FormedReply
second_turned_away f = record { relation = no_relation; answer = refusing second_refused_outcome f }

-- the sizes of two sheets agree
abbrev pub are_sized : List Command → List Command → Bool
are_sized cs ds = eqb (inputs_of cs) (inputs_of ds) && eqb (wires_of cs) (wires_of ds)

-- two sheets that are read: 13 at 0, or 10 at the lowest pattern that is left no value by both, or the joined relation
unfoldable pub joined_commands : List Command → List Command → FormedReply
joined_commands cs ds =
    let p = empty_pattern (inputs_of cs) (wires_of cs) (join (unit_relation cs) (unit_relation ds)) in
    let whole : FormedReply = record { relation = join_of (relation_in cs) (relation_in ds); answer = accepted_case } in
    cond (are_sized cs ds) (cond (ltb p (2 ^ inputs_of cs)) (second_turned_away (refusal_at empty p)) whole) (second_turned_away (refusal_at sizes_differ 0))

-- the same of what reading gives, the first sheet first
unfoldable pub joined_from : Reading → Reading → FormedReply
joined_from (refused f) other = turned_away f
joined_from (holds cs) (refused f) = second_turned_away f
joined_from (holds cs) (holds ds) = joined_commands cs ds

unfoldable pub joined_of : (first second : List ℕ) → FormedReply
joined_of first second = joined_from (reading_of first) (reading_of second)

-- a refusal counted as the second's; any other case stays
unfoldable pub as_second : Case → Case
as_second c = cond (is_refused c) (record { outcome = second_refused_outcome; number = c.number; place = c.place; value = c.value }) c

abbrev pub quoted_as_second : QuoteReply → QuoteReply
quoted_as_second q = record { cells = q.cells; floor = q.floor; visits = q.visits; length = q.length; mark = as_second q.mark }

-- the reply to the bytes of two sheets, a budget, and a buffer of so many bytes
unfoldable pub joint_quoted : (first second : List ℕ) (budget room : ℕ) → QuoteReply
joint_quoted first second budget room =
    let f = joined_of first second in
    let q = quoted_as_second (searched Tree f.relation budget room) in
    cond (is_refused f.answer) (no_quote f.answer) q

-- what the lent buffer holds then
unfoldable pub joint_buffer : (first second : List ℕ) (budget : ℕ) (buffer : List ℕ) → List ℕ
joint_buffer first second budget buffer =
    let f = joined_of first second in
    let after = buffer_searched Tree f.relation budget buffer in
    cond (is_refused f.answer) buffer after
