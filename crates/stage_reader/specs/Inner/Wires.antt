-- One wire as the stage reader hands it on, whatever drives it.
use Rattle.std.specs.Prelude.{ℕ, Result, Ok, Err}
use Rattle.base.specs.Cases.{Case, accepted_case, refused_case}
use Rattle.base.specs.declared.Refusal.{Refusal}
use Rattle.table.specs.Drawing.{Drawing, drawn_table}
use Rattle.stage.specs.Steps.{Read, taken, fault}
use Rattle.stage_reader.specs.declared.steps.Wire.{Wire}

-- its table, its cells and the place after it, all 0 where it is refused
pub record WireReply : Type 0 where
  pub table : ℕ
  pub cells : ℕ
  pub next : ℕ
  pub answer : Case

abbrev pub taken_wire : (table cells next : ℕ) → WireReply
taken_wire t c x = record { table = t; cells = c; next = x; answer = accepted_case }

abbrev pub refused_wire : Refusal → WireReply
refused_wire f = record { table = 0; cells = 0; next = 0; answer = refused_case f }

abbrev pub wire_reply : Result Wire Refusal → WireReply
wire_reply (Ok w) = taken_wire w.table w.cells w.next
wire_reply (Err f) = refused_wire f

-- what reading gives, in the same terms
unfoldable pub step_of : (D : Drawing) → ℕ → Read D.Shape → WireReply
step_of D n (taken x next rest) = taken_wire (drawn_table D n x) (D.cells x) next
step_of D n (fault f) = refused_wire f
