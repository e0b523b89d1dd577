-- What the steps towards the relation give: words that hold signals and outputs for all values, told by the commands of a sheet that was read, and what is made of them.
use Rattle.std.specs.Prelude.{ℕ, ◌<◌, ◌≡◌, Bool, cond, List, eqb, get_or}
use Rattle.base.specs.Cases.{Case, is_refused}
use Rattle.table.specs.Bits.{bit, all}
use Rattle.relation.specs.declared.Relation.{Relation}
use Rattle.sheet.specs.declared.Command.{Command}
use Rattle.sheet.specs.Commands.{signals_made}
use Rattle.sheet.specs.Limits.{max_outputs, max_values}
use Rattle.unit.specs.Cases.{FormedReply, no_relation}
use Rattle.unit.specs.Gates.{signals_on, outputs_for}

-- the signals that there are, each in the word at its place: bit v is the signal for value v
abbrev pub SignalWords : List Command → List ℕ → Type 0
SignalWords cs words = (s v : ℕ) → s < signals_made cs → v < max_values → bit (get_or words s 0) v ≡ get_or (signals_on cs v) s 0

-- the outputs in the same way, and 0 past the last
abbrev pub OutputWords : List Command → List ℕ → Type 0
OutputWords cs words = (i v : ℕ) → i < max_outputs → v < max_values → bit (get_or words i 0) v ≡ get_or (outputs_for cs v) i 0

-- a word has the same bit for v as for u
abbrev pub same_bit : ℕ → ℕ → ℕ → Bool
same_bit word u v = eqb (bit word v) (bit word u)

-- so has the word of every output
unfoldable pub same_outputs : List ℕ → ℕ → ℕ → Bool
same_outputs words u v = all max_outputs (λ i. same_bit (get_or words i 0) u v)

-- a relation that was tested: refused or whole
abbrev pub checked_reply : Relation → Case → FormedReply
checked_reply r c = record { relation = cond (is_refused c) no_relation r; answer = c }
