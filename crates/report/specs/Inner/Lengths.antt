-- The longest of each line but the longest report: bounds that the sums of places need.
use Rattle.std.specs.Prelude.{ℕ, ◌+◌, ◌*◌, length}
use Rattle.text.specs.Text.{longest_decimal}
use Rattle.report.specs.Lines.{cells_text, refused_text, at_text, longest_word}

-- the line of a stage that was judged
abbrev pub longest_judged : ℕ
longest_judged = longest_word + length cells_text + longest_decimal + 1

-- "refused N at P", and its line
abbrev pub longest_refusal : ℕ
longest_refusal = length refused_text + length at_text + 2 * longest_decimal

abbrev pub longest_refusal_line : ℕ
longest_refusal_line = longest_word + longest_refusal + 1
