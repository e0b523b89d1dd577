-- The promise of a quote of one sheet is what every quote promises, with the rivals of the sheet as the stages wanted, and what its number tells besides.
use Prim.Native.Nat.{ℕ}
use mathlib.Core.Path.{◌≡◌, sym, ap, ap₂, ◌∙◌}
use mathlib.Core.Logic.{◌↔◌}
use mathlib.Core.List.{List}
use Rattle.base.specs.Refusals.{empty, too_wide}
use Rattle.table.specs.Drawing.{Drawing, got}
use Rattle.sheet.specs.declared.Command.{Command}
use Rattle.sheet.specs.Commands.{inputs_of, wires_of}
use Rattle.sheet.specs.Judged.{holds}
use Rattle.reader.specs.Reading.{reading_of}
use Rattle.stage.specs.Trees.{tree_drawing}
use Rattle.unit.specs.Rival.{Rival}
use Rattle.quote.specs.Cases.{QuoteReply}
use Rattle.quote.specs.Promised.{RivalStage, NoRival, TooWide, Promised}
use Rattle.quote.specs.AnyQuote.{commands_read, inputs_in, wires_in, WantedStage, PromisedOf}

-- the commands of a sheet that was read
pub read_is : (sheet : List ℕ) (cs : List Command) → reading_of sheet ≡ holds cs → commands_read (reading_of sheet) ≡ cs
unfolding commands_read
read_is sheet cs e = ap commands_read e

module _ (D : Drawing) (sheet : List ℕ) where
  abbrev RivalsPromised : (budget : ℕ) (r : QuoteReply) (buffer : List ℕ) → Type 0
  RivalsPromised = PromisedOf D (inputs_in sheet) (wires_in sheet) (Rival D sheet) (NoRival D sheet)

  -- what is read, either way
  rival_stage : (bytes : List ℕ) (cells : ℕ) → WantedStage D (inputs_in sheet) (wires_in sheet) (Rival D sheet) bytes cells → RivalStage D sheet bytes cells
  rival_stage bytes cells w =
      let ec = read_is sheet w.wanted.commands w.wanted.held in
      record {
        stage = w.stage;
        rival = w.wanted;
        taken = w.taken ∙ ap₂ (λ n m. got n m w.stage) (ap inputs_of ec) (ap wires_of ec);
        counted = w.counted;
      }

  wanted_stage : (bytes : List ℕ) (cells : ℕ) → RivalStage D sheet bytes cells → WantedStage D (inputs_in sheet) (wires_in sheet) (Rival D sheet) bytes cells
  wanted_stage bytes cells y =
      let ec = read_is sheet y.rival.commands y.rival.held in
      record {
        stage = y.stage;
        wanted = y.rival;
        taken = y.taken ∙ ap₂ (λ n m. got n m y.stage) (ap inputs_of (sym ec)) (ap wires_of (sym ec));
        counted = y.counted;
      }

  pub packed : (most budget : ℕ) (r : QuoteReply) (buffer : List ℕ) → RivalsPromised budget r buffer
      → (r.mark.number ≡ empty) ↔ NoRival tree_drawing sheet → (r.mark.number ≡ too_wide) ↔ TooWide most sheet → Promised D most sheet budget r buffer
  packed most budget r buffer p by_trees wide =
      record {
        best = p.best;
        stopped = p.stopped;
        own = λ a. rival_stage _ _ (p.own a);
        within = p.within;
        spent = p.spent;
        refused = p.refused;
        by_trees = by_trees;
        wide = wide;
      }

  pub unpacked : (most budget : ℕ) (r : QuoteReply) (buffer : List ℕ) → Promised D most sheet budget r buffer → RivalsPromised budget r buffer
  unpacked most budget r buffer p =
      record {
        best = p.best;
        stopped = p.stopped;
        own = λ a. wanted_stage _ _ (p.own a);
        within = p.within;
        spent = p.spent;
        refused = p.refused;
      }
