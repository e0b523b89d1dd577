-- What is known of the commands that a sheet holds.
use Prim.Native.Nat.{ℕ, ◌<◌, ◌^◌}
use mathlib.Core.Path.{◌≡◌, sym}
use mathlib.Core.List.{List}
use native.Mathlib.Nat.{not-suc-le-zero}
use native.Mathlib.Omega.{arith}
use Rattle.sheet.specs.Limits.{max_inputs}
use Rattle.sheet.specs.Inner.Sized.{Sized}
use Rattle.sheet.specs.declared.Command.{Command}
use Rattle.sheet.specs.Commands.{collect, inputs_of, limits_on, wires_of}
use Rattle.sheet.specs.Judged.{holds}
use Rattle.reader.specs.Reading.{reading_of}
use Rattle.sheet.proofs.Lists.{never}
use Rattle.base.specs.Each.{Each}
use Rattle.reader.proofs.Passages.{every_sheet}
use Rattle.reader.proofs.Opening.{Headed, unheaded, headed_more, InSize, size_more, InRange, range_more}
use Rattle.reader.proofs.Wiring.{Gates, gates_more, Outputs, outputs_more}
use Rattle.reader.proofs.Marks.{Once, once_more, Given, given, limits_fit}

pub record Sound (cs : List Command) : Type 0 where
  -- 01 stands at the start and nowhere else, with sizes in range
  pub opened : Headed cs
  pub sizes : Sized max_inputs (inputs_of cs) (wires_of cs)
  -- every operand is in range
  pub in_range : InRange cs
  -- the gates are of known kinds, on signals made before them, and not too many; so are the outputs
  pub gates : Gates cs
  pub outputs : Outputs cs
  -- each pattern has one 02 or one 03, and no other has one
  pub once : Once cs
  pub each_pattern : (p : ℕ) → p < 2 ^ inputs_of cs → Given p cs
  -- each 06 names a pattern and a set in range
  pub limits : (p : ℕ) → Each (λ w. (p < 2 ^ inputs_of cs) × (w < 2 ^ (2 ^ wires_of cs))) (limits_on p cs)

pub sound : (s : List ℕ) (cs : List Command) → reading_of s ≡ holds cs → Sound cs
unfolding collect
sound s cs e =
    let head = every_sheet Headed unheaded headed_more s cs e in
    let range = (every_sheet InRange tt range_more s cs e).0 in
    let once = (every_sheet Once (λ p. omega arith) once_more s cs e).0 in
    record {
      opened = head.0;
      sizes = (every_sheet InSize (λ f. never (sym f)) size_more s cs e).0 head.2;
      in_range = range;
      gates = (every_sheet Gates (record { few = omega arith; wired = λ i h. absurd (not-suc-le-zero h) }) gates_more s cs e).0;
      outputs = (every_sheet Outputs (record { few = omega arith; made_before = tt }) outputs_more s cs e).0;
      once = once;
      each_pattern = λ p l. given cs range once p (head.1 p l);
      limits = limits_fit cs range;
    }
