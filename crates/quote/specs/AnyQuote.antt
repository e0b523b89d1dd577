-- Demand 3 of document 01, "Quote, audit, program": what a quote promises about stages that nobody drew, whatever was sent to be quoted.
-- It is told by the reply and by the bytes written, which the stage reader takes; of the search it names the two marks alone.
-- The promise of a quote of one sheet (`Promised`) comes of this with its rivals as the stages wanted (quote/proofs/OneSheet `packed`).
use Rattle.std.specs.Prelude.{ℕ, ◌≤◌, ◌≡◌, ◌↔◌, List, [], take}
use Rattle.base.specs.Refusals.{empty}
use Rattle.table.specs.Drawing.{Drawing, drawn_cells, got}
use Rattle.sheet.specs.declared.Command.{Command}
use Rattle.sheet.specs.Commands.{inputs_of, wires_of}
use Rattle.sheet.specs.Judged.{Reading, holds, refused}
use Rattle.reader.specs.Reading.{reading_of}
use Rattle.quote.specs.Cases.{QuoteReply}
use Rattle.quote.specs.Promised.{IsBest, IsStopped, Accepted}

-- the commands that were read, none where reading refused; and the sizes that they give
unfoldable pub commands_read : Reading → List Command
commands_read (holds cs) = cs
commands_read (refused f) = []

abbrev pub inputs_in : List ℕ → ℕ
inputs_in sheet = inputs_of (commands_read (reading_of sheet))

abbrev pub wires_in : List ℕ → ℕ
wires_in sheet = wires_of (commands_read (reading_of sheet))

-- what is read from these bytes has n inputs and m wires, is a stage that is wanted, and has so many cells
pub record WantedStage (D : Drawing) (n m : ℕ) (Wanted : List D.Shape → Type 0) (bytes : List ℕ) (cells : ℕ) : Type 0 where
  pub stage : List D.Shape
  pub wanted : Wanted stage
  pub taken : D.read_bytes bytes ≡ got n m stage
  pub counted : drawn_cells D stage ≡ cells

-- `Wanted stage`: the stage keeps to all that was sent, which has n inputs and m wires. `None`: what was sent is read with no refusal, and nobody has such a stage.
pub record PromisedOf (D : Drawing) (n m : ℕ) (Wanted : List D.Shape → Type 0) (None : Type 0) (budget : ℕ) (r : QuoteReply) (buffer : List ℕ) : Type 0 where
  -- no such stage has fewer cells than a quote marked best
  pub best : IsBest r → (stage : List D.Shape) → Wanted stage → r.cells ≤ drawn_cells D stage
  -- none has fewer cells than the floor of a quote marked stopped
  pub stopped : IsStopped r → (stage : List D.Shape) → Wanted stage → r.floor ≤ drawn_cells D stage
  -- the bytes written are read as such a stage, of exactly the cells named
  pub own : Accepted r → WantedStage D n m Wanted (take r.length buffer) r.cells
  -- no more parts were expanded than the budget allows, and a stopped search has used it up
  pub within : r.visits ≤ budget
  pub spent : IsStopped r → r.visits ≡ budget
  -- the refusal's number is 10 exactly where nothing else is refused and there is no such stage
  pub refused : (r.mark.number ≡ empty) ↔ None
