-- The longest of each part of a record and of a reply: bounds that the sums of places need.
use Rattle.std.specs.Prelude.{ℕ, ◌+◌, ◌*◌, length}
use Rattle.sheet.specs.Limits.{max_wires}
use Rattle.diagram.specs.Bytes.{longest_written}
use Rattle.text.specs.Text.{longest_decimal}
use Rattle.report.specs.Lines.{longest_counts, longest_pairs, longest_word}
use Rattle.samples.specs.Inner.Lines.{plus_text}

-- the most bytes of a part, whose length is a number of two bytes, and of a record: an audit has two parts
abbrev pub longest_part : ℕ
longest_part = 65535

abbrev pub longest_record : ℕ
longest_record = 5 + 2 * longest_part

-- the same with the record of a joint quote, which has two parts behind a longer head
abbrev pub longest_any_record : ℕ
longest_any_record = 11 + 2 * longest_part

-- a number with its space, the tables, and what is told of a buffer
abbrev pub longest_spaced : ℕ
longest_spaced = longest_decimal + 1

abbrev pub longest_tables : ℕ
longest_tables = max_wires * longest_spaced

abbrev pub longest_kept : ℕ
longest_kept = length plus_text

-- a word, a number and the end of the line
abbrev pub longest_number_line : ℕ
longest_number_line = longest_word + longest_decimal + 1

-- no reply is longer: counts, the word of a mark, the bytes that are shown, of which a stage has the most, and what is told of the buffer
abbrev pub longest_reply : ℕ
longest_reply = longest_counts + longest_word + longest_pairs longest_written + longest_kept
