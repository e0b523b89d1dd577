-- The quote of what two relations both allow, as numbers: 13 where their sizes differ, else what the search of the two joined answers.
use Rattle.std.specs.Prelude.{ℕ, Bool, cond, ◌&&◌, List, eqb}
use Rattle.nodes.specs.declared.BoardKind.TheVariants.{Tree}
use Rattle.relation.specs.declared.Relation.{Relation}
use Rattle.relation.specs.Joined.{join_of}
use Rattle.quote.specs.Audit.{sizes_apart}
use Rattle.quote.specs.Cases.{QuoteReply, no_quote}
use Rattle.quote.specs.Quote.{searched, buffer_searched}
use Rattle.joined.specs.Joint.{quoted_as_second}

abbrev pub are_same : Relation → Relation → Bool
are_same r q = eqb r.n q.n && eqb r.m q.m

unfoldable pub both_quoted : Relation → Relation → ℕ → ℕ → QuoteReply
both_quoted r q budget room = cond (are_same r q) (quoted_as_second (searched Tree (join_of r q) budget room)) (no_quote sizes_apart)

unfoldable pub both_buffer : Relation → Relation → ℕ → List ℕ → List ℕ
both_buffer r q budget buffer = cond (are_same r q) (buffer_searched Tree (join_of r q) budget buffer) buffer
