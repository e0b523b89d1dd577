-- `put_section` meets its contract. The loop's invariant: what there is to say of the numbers passed is put.
use Rattle.std.proofs.Common.{◌≡◌, ℕ, ◌+◌, ◌*◌, ◌<◌, ◌≤◌, List, Option, length}
use Rattle.base.specs.Inner.Put.{Put}
use Rattle.sheet.specs.declared.Command.{Command}
use Rattle.sheet.specs.Bytes.{bytes_of}
use Rattle.writer.specs.Inner.Widths.{longest_command}
use Rattle.clean.specs.Copy.{listed}
use Rattle.clean.specs.Inner.Sections.{commands_in}
use Rattle.clean.proofs.sections.put_section.Given as goal

abbrev pub invariant-loop-i : goal.invariant-loop-i
invariant-loop-i g l = record {
  kept : length l.out ≡ length l.initial.out;
  short : l.next ≤ l.at + longest_command * l.i;
  put : (says : ℕ → List Command) → ((i : ℕ) (r : Option Command) → i < l.count → goal.F-post g l.said l.sheet i r → commands_in r ≡ says i)
      → Put l.initial.out l.at (bytes_of (listed l.i says)) l.out l.next;
}
