-- Document 02, E6: what a joint quote promises. The stages asked for are those that keep to both sheets, told by the bytes of the two alone.
use Rattle.std.specs.Prelude.{ℕ, ◌≡◌, List}
use Rattle.table.specs.Drawing.{Drawing}
use Rattle.sheet.specs.declared.Command.{Command}
use Rattle.sheet.specs.Commands.{inputs_of, wires_of}
use Rattle.sheet.specs.Judged.{holds}
use Rattle.reader.specs.Reading.{reading_of}
use Rattle.stage.specs.Trees.{tree_drawing}
use Rattle.unit.specs.Rival.{Rival}
use Rattle.quote.specs.Cases.{QuoteReply}
use Rattle.quote.specs.AnyQuote.{inputs_in, wires_in, PromisedOf}

-- one stage that serves both units: on every pattern its value is permitted by both sheets, and each unit answers as before where its own sheet has a present
-- value; a pattern that one sheet calls impossible is left to the other
pub record JointRival (D : Drawing) (first second : List ℕ) (stage : List D.Shape) : Type 0 where
  pub of_first : Rival D first stage
  pub of_second : Rival D second stage

-- both sheets are read with no refusal, their sizes agree, and nobody has a stage for both
pub record NoJointRival (D : Drawing) (first second : List ℕ) : Type 0 where
  pub commands : List Command
  pub held : reading_of first ≡ holds commands
  pub others : List Command
  pub held_others : reading_of second ≡ holds others
  pub same_inputs : inputs_of commands ≡ inputs_of others
  pub same_wires : wires_of commands ≡ wires_of others
  pub none : (stage : List D.Shape) → JointRival D first second stage → ⊥

-- what every quote promises, of joint rivals, in the sizes that both sheets have
abbrev pub JointPromised : (first second : List ℕ) (budget : ℕ) (r : QuoteReply) (buffer : List ℕ) → Type 0
JointPromised first second =
    PromisedOf tree_drawing (inputs_in first) (wires_in first) (JointRival tree_drawing first second) (NoJointRival tree_drawing first second)
