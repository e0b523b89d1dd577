-- Demand 3 of document 01, "Quote, audit, program": what a quote promises about stages that nobody drew.
-- It is told by the bytes of the sheet (`Rival`), the reply, and the bytes written, which the stage reader takes;
-- of the search it names the two marks alone.
-- It is stated over what a drawing is (`Drawing`) and the most inputs that the board has lines for.
use Rattle.std.specs.Prelude.{ℕ, ◌<◌, ◌≤◌, ◌≡◌, ◌⊎◌, ◌↔◌, List, take}
use Rattle.base.specs.Refusals.{empty, too_wide}
use Rattle.table.specs.Drawing.{Drawing, drawn_cells, got}
use Rattle.branch_bound.specs.Reply.{best_outcome, stopped_outcome}
use Rattle.sheet.specs.declared.Command.{Command}
use Rattle.sheet.specs.Commands.{inputs_of, wires_of}
use Rattle.sheet.specs.Judged.{holds}
use Rattle.reader.specs.Reading.{reading_of}
use Rattle.stage.specs.Trees.{tree_drawing}
use Rattle.unit.specs.Rival.{Rival}
use Rattle.quote.specs.Cases.{QuoteReply}

-- the quote is marked best, or stopped; it has a stage
abbrev pub IsBest : QuoteReply → Type 0
IsBest r = r.mark.outcome ≡ best_outcome

abbrev pub IsStopped : QuoteReply → Type 0
IsStopped r = r.mark.outcome ≡ stopped_outcome

abbrev pub Accepted : QuoteReply → Type 0
Accepted r = IsBest r ⊎ IsStopped r

-- what is read from these bytes, with the sheet's sizes, is a rival of so many cells
pub record RivalStage (D : Drawing) (sheet bytes : List ℕ) (cells : ℕ) : Type 0 where
  pub stage : List D.Shape
  pub rival : Rival D sheet stage
  pub taken : D.read_bytes bytes ≡ got (inputs_of rival.commands) (wires_of rival.commands) stage
  pub counted : drawn_cells D stage ≡ cells

-- the sheet is read with no refusal, and nobody has a stage for it
pub record NoRival (D : Drawing) (sheet : List ℕ) : Type 0 where
  pub commands : List Command
  pub held : reading_of sheet ≡ holds commands
  pub none : (stage : List D.Shape) → Rival D sheet stage → ⊥

-- document 02, E5: the sheet is read with no refusal and has more inputs than that, and somebody has a stage of trees for it
pub record TooWide (most : ℕ) (sheet : List ℕ) : Type 0 where
  pub commands : List Command
  pub held : reading_of sheet ≡ holds commands
  pub many : most < inputs_of commands
  pub stage : List tree_drawing.Shape
  pub rival : Rival tree_drawing sheet stage

pub record Promised (D : Drawing) (most : ℕ) (sheet : List ℕ) (budget : ℕ) (r : QuoteReply) (buffer : List ℕ) : Type 0 where
  -- no rival has fewer cells than a quote marked best
  pub best : IsBest r → (stage : List D.Shape) → Rival D sheet stage → r.cells ≤ drawn_cells D stage
  -- no rival has fewer cells than the floor of a quote marked stopped
  pub stopped : IsStopped r → (stage : List D.Shape) → Rival D sheet stage → r.floor ≤ drawn_cells D stage
  -- the bytes written are read as a rival of exactly the cells named
  pub own : Accepted r → RivalStage D sheet (take r.length buffer) r.cells
  -- no more parts were expanded than the budget allows, and a stopped search has used it up
  pub within : r.visits ≤ budget
  pub spent : IsStopped r → r.visits ≡ budget
  -- the refusal's number is 10 exactly where reading refuses nothing and no rival exists; a drawing has as many inputs as the sheet, also where the board has fewer lines
  pub refused : (r.mark.number ≡ empty) ↔ NoRival D sheet
  -- trees tell that as well, on every board (document 02, E5)
  pub by_trees : (r.mark.number ≡ empty) ↔ NoRival tree_drawing sheet
  -- it is 15 exactly where the sheet is read, has more inputs than the board has lines, and some trees keep to it (document 02, E5)
  pub wide : (r.mark.number ≡ too_wide) ↔ TooWide most sheet
