-- Laws of what a report leaves, and of its lines.
use Rattle.std.proofs.Common.{ℕ, List, length, ◌++◌, ◌≡◌, refl, ap, ◌∙◌}
use Rattle.std.proofs.lemmas.List.Edits.{sets}
use Rattle.diagram.specs.Bytes.{longest_written}
use Rattle.search.specs.Cases.{mark_case}
use Rattle.search.specs.declared.Mark.{Mark}
use Rattle.search.specs.declared.Mark.TheVariants.{Best, Stopped}
use Rattle.report.specs.Inner.Marks.{mark_text}
use Rattle.quote.specs.declared.Quoted.{Quoted}
use Rattle.quote.specs.Cases.{quoted_told}
use Rattle.joined.specs.Cases.{unnamed}
use Rattle.report.specs.Lines.{Printed, counts_of, shown_line, result_lines, lines_of, joint_lines}

-- a report of one text is that of any other that is the same
pub printed : {most : ℕ} {text other : List ℕ} (before after : List ℕ) (r : ℕ) → Printed most text before after r → text ≡ other
    → Printed most other before after r
printed before after r p e = (p.0 ∙ ap length e, p.1 ∙ ap (sets before 0) e, p.2)

-- the lines of a quote by its mark
pub result_told : (c f v k : ℕ) (m : Mark) (stage : List ℕ)
    → counts_of c f v ++ mark_text m ++ shown_line longest_written k stage
    ≡ lines_of (record { cells = c; floor = f; visits = v; length = k; mark = mark_case m }) stage
unfolding lines_of result_lines
result_told c f v k Best stage = refl
result_told c f v k Stopped stage = refl

-- the lines of a joint quote that has a stage are those of the same quote with no sheet named
joint_told : (c f v k : ℕ) (m : Mark) (stage : List ℕ)
    → lines_of (unnamed (record { cells = c; floor = f; visits = v; length = k; mark = mark_case m })) stage
    ≡ joint_lines (record { cells = c; floor = f; visits = v; length = k; mark = mark_case m }) stage
unfolding joint_lines
joint_told c f v k Best stage = refl
joint_told c f v k Stopped stage = refl

pub joint_same : (q : Quoted) (stage : List ℕ) → lines_of (unnamed (quoted_told q)) stage ≡ joint_lines (quoted_told q) stage
joint_same q stage = joint_told q.cells q.floor q.visits q.length q.mark stage
