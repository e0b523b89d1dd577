-- The word of a mark.
use Rattle.std.specs.Prelude.{ℕ, List}
use Rattle.search.specs.declared.Mark.{Mark}
use Rattle.search.specs.declared.Mark.TheVariants.{Best, Stopped}
use Rattle.report.specs.Lines.{best_text, stopped_text}

-- with the end of its line
abbrev pub mark_text : Mark → List ℕ
mark_text Best = best_text
mark_text Stopped = stopped_text
